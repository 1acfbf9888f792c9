-- `text::valid_spread` meets its contract.
-- Assumes nothing.
use Prim.Native.Nat.{◌-◌}
use lib.ListN.{length, drop}
use Rattle.text.specs.Rows.{place_after}
use Rattle.text.proofs.Bodies.{Left}
use Rattle.text.proofs.valid_spread.Given as goal

abbrev pub invariant-loop-n : goal.invariant-loop-n
invariant-loop-n l = Left (place_after 4 l.nibbles) l.state (length l.nibbles - l.n-index) (drop l.n-index l.nibbles)
