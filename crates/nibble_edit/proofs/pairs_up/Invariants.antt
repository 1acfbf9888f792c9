-- `nibble_edit::pairs_up` meets its contract: the last 2 (n - k) nibbles are moved, so that moving the first 2 k is all that is left.
-- Assumes nothing.
use Prim.Native.Nat.{◌*◌}
use mathlib.Core.Path.{◌≡◌}
use lib.ListN.{drop}
use lib.Seq.{paste}
use Rattle.format.specs.Nibbles.{nibbles}
use Rattle.nibble_edit.proofs.pairs_up.Given as goal

abbrev pub invariant-loop-k : goal.invariant-loop-k
invariant-loop-k l =
    paste (nibbles l.s) l.to (drop l.from (nibbles l.s)) (2 * l.k) ≡ paste (nibbles l.initial.s) l.to (drop l.from (nibbles l.initial.s)) (2 * l.n)
