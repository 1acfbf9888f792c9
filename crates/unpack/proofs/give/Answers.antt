-- `unpack::give` meets its contract: one law for each return.
-- Assumes nothing.
use native.Mathlib.Omega.{arith}
use Rattle.laws.proofs.Results.{bytes_in}
use Rattle.unpack.proofs.Outcomes.{end_is, end_room, short_outputs, all_given}
use Rattle.report.proofs.Found.{found_by}
use Rattle.unpack.proofs.give.Goals as goal

pub overflow_sub-nibbles : goal.overflow_sub-nibbles
overflow_sub-nibbles c = omega (arith, end_is _ _ _ (bytes_in _ c.type_inv.buffer) c.requires.1)

pub returns-then-values-lt46 : goal.returns-then-values-lt46
returns-then-values-lt46 c marks a = short_outputs _ _ _ (bytes_in _ c.type_inv.buffer) (found_by c.requires.1 a) _ _ c.then-values-lt46.either

pub show-presence-requires : goal.show-presence-requires
show-presence-requires c = ((end_room _ _ _ (bytes_in _ c.type_inv.buffer) c.requires.1).0, c.if-values-lt46.false)

pub fetch-requires : goal.fetch-requires
fetch-requires c =
    let m = end_room _ _ _ (bytes_in _ c.type_inv.buffer) c.requires.1 in
    let e = end_is _ _ _ (bytes_in _ c.type_inv.buffer) c.requires.1 in (omega (arith, m.1), omega (arith, m.2), c.if-tail-nibbles.false)

pub rptin-requires : goal.rptin-requires
rptin-requires c = (end_room _ _ _ (bytes_in _ c.type_inv.buffer) c.requires.1).0

pub returns : goal.returns
returns c marks a =
    all_given _ _ _ (bytes_in _ c.type_inv.buffer) (found_by c.requires.1 a) _ _ _ _ _ _ c.if-values-lt46.false c.if-tail-nibbles.false c.show-presence.ensures.0 c.show-presence.ensures.1
    c.fetch.ensures c.rptin.ensures
