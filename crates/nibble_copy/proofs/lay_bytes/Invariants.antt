-- `nibble_copy::lay_bytes` meets its contract.
-- Assumes nothing.
use Prim.Native.Nat.{◌*◌}
use mathlib.Core.Path.{◌≡◌}
use lib.ListN.{drop}
use lib.Seq.{paste}
use Rattle.format.specs.Nibbles.{nibbles}
use Rattle.nibble_copy.proofs.lay_bytes.Given as goal

abbrev pub invariant-loop-k : goal.invariant-loop-k
invariant-loop-k l = nibbles l.s ≡ paste (nibbles l.initial.s) l.at (drop l.j l.ns) (2 * l.k)
