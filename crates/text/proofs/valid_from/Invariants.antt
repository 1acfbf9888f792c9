-- `text::valid_from` meets its contract.
-- Assumes nothing.
use Prim.Native.Nat.{◌-◌, ◌*◌}
use lib.ListN.{take, drop}
use Rattle.format.specs.Nibbles.{nibbles}
use Rattle.text.specs.Rows.{place_after, held, Holds}
use Rattle.text.proofs.Bodies.{Left}
use Rattle.text.proofs.valid_from.Given as goal

abbrev pub invariant-loop-byte : goal.invariant-loop-byte
invariant-loop-byte l =
    Left (place_after l.fn.state (take l.n (nibbles l.bytes))) (held l.place) (l.n - 2 * l.byte-index) (nibbles (drop l.byte-index l.bytes)) × Holds l.place
