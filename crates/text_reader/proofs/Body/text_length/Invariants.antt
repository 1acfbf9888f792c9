-- `text_reader::Body::text_length` meets its contract.
-- Assumes nothing.
use Prim.Native.Nat.{◌-◌}
use Rattle.text_reader.proofs.Bodies.{Reached}
use Rattle.text_reader.proofs.Body.text_length.Given as goal

abbrev pub invariant-loop-code : goal.invariant-loop-code
invariant-loop-code l = Reached l.self l.end l.count l.place

abbrev pub decreases-loop-code : goal.decreases-loop-code
decreases-loop-code l = l.end - l.place
