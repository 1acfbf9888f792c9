-- `nibble::all_nibbles` meets its contract. The invariant: the bits so far and what is still to check give the answer.
-- Assumes nothing.
use mathlib.Core.Path.{◌≡◌}
use mathlib.Core.Bool.{◌&&◌}
use lib.ListN.{drop}
use lib.Dec.{leb}
use Rattle.format.specs.Calls.{all_nibbles}
use Rattle.nibble.proofs.all_nibbles.Given as goal

abbrev pub invariant-loop-byte : goal.invariant-loop-byte
invariant-loop-byte l = leb l.bits 15 && all_nibbles (drop l.byte-index l.ns) ≡ all_nibbles l.ns
