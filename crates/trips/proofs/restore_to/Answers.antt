-- `trips::restore_to` meets its contract: pack after unpack.
-- Assumes nothing.
use mathlib.Core.Path.{sym}
use lib.Seq.{length-take-le}
use Rattle.laws.proofs.Results.{err_is, bytes_in}
use Rattle.trips.proofs.Trips.{opened, opened_within, restore_refused, restore_packed}
use Rattle.trips.proofs.restore_to.Goals as goal

pub returns-in_err-given : goal.returns-in_err-given
returns-in_err-given c = rw (err_is _ _ c.from_residual.ensures.1) (restore_refused _ _ _ _ _ _ _ _ c.in_err-given.ensures)

pub slice_bounds-pack-end : goal.slice_bounds-pack-end
slice_bounds-pack-end c = opened_within _ (opened _ _ _ _ _ _ _ c.in_ok-given.ensures)

pub slice_bounds-pack-end-2 : goal.slice_bounds-pack-end-2
slice_bounds-pack-end-2 c = sym (length-take-le _ _ (opened_within _ (opened _ _ _ _ _ _ _ c.in_ok-given.ensures)))

pub returns : goal.returns
returns c = restore_packed _ _ (bytes_in _ c.type_inv.buffer) _ _ _ _ _ (opened _ _ _ _ _ _ _ c.in_ok-given.ensures) _ _ _ c.requires c.pack.ensures
