-- `pack::walk_fields` meets its contract. The invariant: what is still to check gives the answer.
-- Assumes nothing.
use Prim.Native.Nat.{◌-◌}
use native.Mathlib.Omega.{arith}
use Rattle.laws.proofs.Results.{err_by_number}
use Rattle.pack.proofs.Checks.{turn_refused, turn_passed, fields_passed}
use Rattle.pack.proofs.walk_fields.Goals as goal

pub returns-in_err-refusal : goal.returns-in_err-refusal
returns-in_err-refusal c =
    let lent = c.args.lent in
    rw (err_by_number _ _ c.from_residual.ensures.1)
    (turn_refused lent.values.now lent.word c.loop-number.number lent.long (omega arith) (omega arith) _ (rw c.at.ensures at c.in_err-refusal.ensures) c.loop-number.invariant)

pub loop-number-preserved : goal.loop-number-preserved
loop-number-preserved c =
    let lent = c.args.lent in
    turn_passed lent.values.now lent.word c.loop-number.number lent.long (omega arith) (omega arith) (rw c.at.ensures at c.in_ok-refusal.ensures) c.loop-number.invariant

pub returns : goal.returns
returns c = fields_passed _ _ (c.loop-number.number - 1) (omega arith) c.loop-number.invariant
