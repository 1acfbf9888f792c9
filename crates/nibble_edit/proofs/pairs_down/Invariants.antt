-- `nibble_edit::pairs_down` meets its contract: the first 2 k nibbles are moved.
-- Assumes nothing.
use Prim.Native.Nat.{◌*◌}
use mathlib.Core.Path.{◌≡◌}
use lib.ListN.{drop}
use lib.Seq.{paste}
use Rattle.format.specs.Nibbles.{nibbles}
use Rattle.nibble_edit.proofs.pairs_down.Given as goal

abbrev pub invariant-loop-k : goal.invariant-loop-k
invariant-loop-k l = nibbles l.s ≡ paste (nibbles l.initial.s) l.to (drop l.from (nibbles l.initial.s)) (2 * l.k)
