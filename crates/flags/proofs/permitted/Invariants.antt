-- `flags::permitted` meets its contract.
-- Assumes nothing.
use Rattle.flags.proofs.Body.{Fitting}
use Rattle.flags.proofs.permitted.Given as goal

abbrev pub invariant-loop-row : goal.invariant-loop-row
invariant-loop-row l = Fitting l.marks l.flags l.row-iterator.iter.rest.now l.left l.all
