-- `pack::pack` meets its contract: one law for each return.
-- Assumes nothing.
use Rattle.laws.proofs.Results.{err_is}
use mathlib.Core.Bool.{true}
use mathlib.Core.Path.{◌≡◌}
use Rattle.format.specs.Whole.{bit_outside}
use Rattle.pack.proofs.Checks.{says_refused, says_passed}
use Rattle.pack.proofs.Outcomes.{bit_low, bit_high, bits_inside, short_values, word_refused, field_refused}
use Rattle.pack.proofs.pack.Goals.{then-word-eq1-via-then-word-eq1, then-word-eq1-via-else-word-eq1+then-word-ne0}
use Rattle.pack.proofs.pack.Goals as goal

pub returns-then-values-lt46 : goal.returns-then-values-lt46
returns-then-values-lt46 c = short_values _ _ _ _ _ _ c.if-values-lt46.true

pub returns-then-word-eq1 : goal.returns-then-word-eq1
returns-then-word-eq1 c =
    let outside : bit_outside c.args.word ≡ true = elim c.then-word-eq1.branch [
      | then-word-eq1-via-then-word-eq1 w ↦ bit_low _ w.if-word-eq1.true
      | then-word-eq1-via-else-word-eq1+then-word-ne0 w ↦ bit_high _ w.if-word-eq1.false w.if-word-ne0.true
    ] in
    word_refused _ _ _ _ _ _ c.if-values-lt46.false outside

pub returns-in_err-check_fields : goal.returns-in_err-check_fields
returns-in_err-check_fields c =
    rw (err_is _ _ c.from_residual.ensures.1)
    (field_refused _ _ _ _ _ _ c.if-values-lt46.false _ (bits_inside _ c.if-word-eq1.false c.if-word-ne0.false) (says_refused _ _ _ c.in_err-check_fields.ensures))

pub invariant_of-given : goal.invariant_of-given
invariant_of-given c = record { fair = says_passed _ _ c.in_ok-check_fields.ensures }
