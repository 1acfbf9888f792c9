-- `tail::walk_tail` meets its contract: what is still to be walked gives the answer, and what is still to be counted the count.
-- Assumes nothing.
use Prim.Native.Nat.{◌-◌}
use lib.ListN.{length}
use Rattle.tail.proofs.Count.{Counting}
use Rattle.tail.proofs.walk_tail.Given as goal

abbrev pub invariant-loop-state : goal.invariant-loop-state
invariant-loop-state l = Counting l.marks l.s l.state l.count

abbrev pub decreases-loop-state : goal.decreases-loop-state
decreases-loop-state l = length l.s - l.state.cursor.at
