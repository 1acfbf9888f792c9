-- `text_reader::Body::read` meets its contract.
-- Assumes nothing.
use native.Mathlib.Omega.{arith}
use mathlib.Core.Path.{sym, ◌∙◌}
use Rattle.text_reader.proofs.Reading.{byte_in, origin_in}
use Rattle.text_reader.proofs.Bodies.{reach_none, stored_none, reach_bounds, reach_more, reach_room, reach_stored, reach_count, reach_all}
use Rattle.text_reader.proofs.Texts.{read_shortest}
use Rattle.text_reader.proofs.Body.read.Goals as goal

pub loop-code-init : goal.loop-code-init
loop-code-init c = (reach_none _, stored_none _ _ _, stored_none _ _ _)

pub put_bytes-requires : goal.put_bytes-requires
put_bytes-requires c =
    let inv = c.loop-code.invariant in
    reach_room inv.0 c.in-Some.ensures inv.1 c.requires.0

pub put_bytes-requires-in-Some : goal.put_bytes-requires-in-Some
put_bytes-requires-in-Some c =
    let inv = c.loop-code.invariant in
    reach_room inv.0 c.in-Some.ensures inv.2 c.requires.1

pub overflow_add-count : goal.overflow_add-count
overflow_add-count c = omega (arith, reach_bounds c.loop-code.invariant.0 c.in-Some.ensures)

pub overflow_add-place : goal.overflow_add-place
overflow_add-place c = omega (arith, reach_bounds c.loop-code.invariant.0 c.in-Some.ensures)

pub loop-code-smaller : goal.loop-code-smaller
loop-code-smaller c = omega (arith, reach_bounds c.loop-code.invariant.0 c.in-Some.ensures)

pub loop-code-preserved : goal.loop-code-preserved
loop-code-preserved c =
    let inv = c.loop-code.invariant in
    let there = c.in-Some.ensures in (
      reach_more inv.0 there,
      reach_stored inv.0 there inv.1 (byte_in _ _) c.put_bytes.ensures,
      reach_stored inv.0 there inv.2 (origin_in _ _ ∙ sym c.mark.ensures) c.put_bytes-in-Some.ensures,
    )

pub returns : goal.returns
returns c =
    let inv = c.loop-code.invariant in
    let done = c.in_default.ensures in
    (reach_all inv.0 done inv.1 c.requires.0, reach_all inv.0 done inv.2 c.requires.1, reach_count inv.0 done, read_shortest _)
