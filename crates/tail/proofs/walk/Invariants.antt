-- `tail::walk` meets its contract: what is still to be walked gives the answer.
-- Assumes nothing.
use Prim.Native.Nat.{◌+◌}
use Rattle.tail.proofs.Turns.{Walking}
use Rattle.tail.proofs.walk.Given as goal

abbrev pub invariant-loop-index : goal.invariant-loop-index
invariant-loop-index l = Walking l.marks l.s l.fn.c l.count l.want l.state (l.index + 1)
