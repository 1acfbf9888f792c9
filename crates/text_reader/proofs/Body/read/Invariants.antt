-- `text_reader::Body::read` meets its contract.
-- Assumes nothing.
use Prim.Native.Nat.{◌-◌}
use Rattle.format.specs.ShipText.{byte_of, origin_of}
use Rattle.text_reader.proofs.Bodies.{Reached, Stored}
use Rattle.text_reader.proofs.Body.read.Given as goal

abbrev pub invariant-loop-code : goal.invariant-loop-code
invariant-loop-code l =
    (r : Reached l.self l.end l.count l.place) × Stored l.self byte_of r.done l.initial.out l.out × Stored l.self origin_of r.done l.initial.origins l.origins

abbrev pub decreases-loop-code : goal.decreases-loop-code
decreases-loop-code l = l.end - l.place
