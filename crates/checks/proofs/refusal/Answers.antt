-- `checks::refusal` meets its contract.
-- Assumes nothing.
use native.Mathlib.Omega.{arith}
use mathlib.Core.Path.{sym, ◌∙◌}
use mathlib.Core.Bool.{and-false}
use borrow.Author.Tests.{ne_eqb}
use Rattle.format.specs.Field.{required}
use Rattle.checks.proofs.Turns.{refusal_above, refusal_fine, refusal_missing}
use Rattle.checks.proofs.refusal.Goals as goal
use Rattle.checks.proofs.refusal.Goals.{else-code-eq0-via-then-code-eq0+else-is_required, else-code-eq0-via-else-code-eq0}

pub returns-then-highest-code : goal.returns-then-highest-code
returns-then-highest-code c = refusal_above c.args.field.number c.args.code.0 (omega arith)

pub returns-then-is_required : goal.returns-then-is_required
returns-then-is_required c =
    refusal_missing c.args.field.number c.args.code.0 c.if-code-eq0.true (sym c.is_required.ensures ∙ c.if-is_required.true)

pub returns : goal.returns
returns c =
    let a = c.args in
    elim c.else-code-eq0.branch [
      | else-code-eq0-via-then-code-eq0+else-is_required w ↦ refusal_fine a.field.number a.code.0 (omega arith) (rw (← w.is_required.ensures, w.if-is_required.false))
      | else-code-eq0-via-else-code-eq0 w ↦ refusal_fine a.field.number a.code.0 (omega arith) (rw (ne_eqb a.code.0 0 w.if-code-eq0.false) (and-false (required a.field.number)))
    ]
