-- `text_reader::Body::text_length` meets its contract.
-- Assumes nothing.
use native.Mathlib.Omega.{arith}
use Rattle.text_reader.proofs.Bodies.{reach_bounds, reach_count}
use Rattle.text_reader.proofs.Body.text_length.Goals as goal

pub overflow_add-count : goal.overflow_add-count
overflow_add-count c = omega (arith, reach_bounds c.loop-code.invariant c.in-Some.ensures)

pub overflow_add-place : goal.overflow_add-place
overflow_add-place c = omega (arith, reach_bounds c.loop-code.invariant c.in-Some.ensures)

pub loop-code-smaller : goal.loop-code-smaller
loop-code-smaller c = omega (arith, reach_bounds c.loop-code.invariant c.in-Some.ensures)

pub returns : goal.returns
returns c = reach_count c.loop-code.invariant c.in_default.ensures
