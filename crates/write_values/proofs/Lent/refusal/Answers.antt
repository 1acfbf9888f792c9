-- `write_values::Lent::refusal` meets its contract.
-- Assumes nothing.
use Prim.Native.Nat.{◌-◌}
use mathlib.Core.Path.{◌≡◌, sym, ap, ◌∙◌}
use lib.IntN.{pos}
use lib.ListN.{get_or}
use mir.Syntax.{w64}
use mir.Val.{to_z, of_z}
use Rattle.write_values.specs.Lent.{given_check}
use Rattle.write_values.proofs.Tests.{check_number}
use borrow.Author.Rules.{rules}
use Rattle.write_values.proofs.Lent.refusal.Goals as goal

pub returns : goal.returns
returns c =
    let number = c.args.field.number in
    let value = get_or c.args.self.values.now (number - 1) (pos 0) in
    let held : to_z w64 (of_z w64 value) ≡ value = search rules in
    c.refusal.ensures ∙ ap (given_check number c.args.self.word) held
    ∙ sym (check_number c.args.self.values.now c.args.self.word number c.args.field.low)
