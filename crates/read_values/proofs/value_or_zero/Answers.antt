-- `read_values::value_or_zero` meets its contract.
-- Assumes nothing.
use mathlib.Core.Path.{◌≡◌, ap, ◌∙◌}
use borrow.Author.Tests.{eq-eqb, ne_eqb}
use mir.Syntax.{w64}
use mir.Val.{to_z, of_z}
use Rattle.format.specs.Field.{entry_of}
use Rattle.format.specs.declared.Scaled.{Scaled}
use borrow.Author.Rules.{rules}
use Rattle.read_values.proofs.value_or_zero.Goals as goal

pub returns-then-code-eq0 : goal.returns-then-code-eq0
unfolding entry_of
returns-then-code-eq0 c = rw (eq-eqb c.args.code.0 0 c.if-code-eq0.true)

pub returns : goal.returns
unfolding entry_of
returns c =
    let held : to_z w64 (of_z w64 c.scaled.result.0) ≡ c.scaled.result.0 = search rules in
    rw (ne_eqb c.args.code.0 0 c.if-code-eq0.false) (held ∙ ap (λ (v : Scaled). v.0) c.scaled.ensures)
