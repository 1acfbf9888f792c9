-- `read_values::presence_bit` meets its contract.
-- Assumes nothing.
use Prim.Native.Nat.{◌^◌}
use native.Mathlib.Omega.{arith}
use mathlib.Core.Path.{sym, ap, ◌∙◌}
use mathlib.Core.Bool.{Bool, true, false, cond}
use borrow.Author.Tests.{eq-eqb, ne_eqb}
use Rattle.format.specs.Field.{field_at}
use Rattle.bits.proofs.Window.{one_shl}
use Rattle.card.proofs.Entries.{present_is}
use Rattle.read_values.proofs.presence_bit.Goals as goal

pub returns-then-code-eq0 : goal.returns-then-code-eq0
returns-then-code-eq0 c =
    let a = c.args in
    sym (ap (λ (t : Bool). cond t (2 ^ a.field.number) 0) (present_is (field_at a.field.number) a.code true (eq-eqb a.code.0 0 c.if-code-eq0.true)))

pub returns : goal.returns
returns c =
    let a = c.args in
    one_shl a.field.number (omega arith)
    ∙ sym (ap (λ (t : Bool). cond t (2 ^ a.field.number) 0) (present_is (field_at a.field.number) a.code false (ne_eqb a.code.0 0 c.if-code-eq0.false)))
