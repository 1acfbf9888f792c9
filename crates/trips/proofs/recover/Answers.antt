-- `trips::recover` meets its contract: unpack after pack.
-- Assumes nothing.
use native.Mathlib.Omega.{arith}
use mathlib.Core.Path.{sym}
use lib.Seq.{length-take-le}
use Rattle.trips.proofs.Trips.{lent_within, recover_refused, recover_written}
use Rattle.trips.proofs.recover.Goals as goal

pub slice_bounds-pack-end : goal.slice_bounds-pack-end
slice_bounds-pack-end c =
    let a = c.args in
    lent_within a.table.now a.values.now a.word a.rptin a.tail.now a.out.now a.values_out.now a.tail_out.now _ c.room-lent.ensures

pub slice_bounds-pack-end-2 : goal.slice_bounds-pack-end-2
slice_bounds-pack-end-2 c =
    let a = c.args in
    sym (length-take-le _ _ (lent_within a.table.now a.values.now a.word a.rptin a.tail.now a.out.now a.values_out.now a.tail_out.now _ c.room-lent.ensures))

pub returns-in_err-pack : goal.returns-in_err-pack
returns-in_err-pack c =
    recover_refused _ _ _ _ _ _ c.args.values_out.now c.args.tail_out.now _ c.room-lent.ensures _ _ _ c.from_residual.ensures.1 c.in_err-pack.ensures

pub returns : goal.returns
returns c = recover_written _ _ _ _ _ _ _ _ _ c.room-lent.ensures _ _ c.in_ok-pack.ensures (omega arith) _ _ _ c.unpack.ensures
