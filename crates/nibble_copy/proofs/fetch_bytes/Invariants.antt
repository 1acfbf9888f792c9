-- `nibble_copy::fetch_bytes` meets its contract.
-- Assumes nothing.
use Prim.Native.Nat.{◌*◌}
use mathlib.Core.Path.{◌≡◌}
use lib.ListN.{drop}
use lib.Seq.{paste}
use Rattle.format.specs.Nibbles.{nibbles}
use Rattle.nibble_copy.proofs.fetch_bytes.Given as goal

abbrev pub invariant-loop-k : goal.invariant-loop-k
invariant-loop-k l = l.out ≡ paste l.initial.out l.j (drop l.at (nibbles l.s)) (2 * l.k)
