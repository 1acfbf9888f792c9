-- `flags::permitted` meets its contract.
-- Assumes nothing.
use Rattle.flags.proofs.Body.{fit_none, left_low, fit_next, fit_all}
use Rattle.flags.proofs.permitted.Goals as goal

pub loop-row-init : goal.loop-row-init
loop-row-init c = fit_none _ _ _ (cc) c.told-marks c.requires

pub column-requires : goal.column-requires
column-requires c = left_low _ _ _ _ _ _ _ c.in-Some.ensures.steps c.loop-row.invariant

pub stands-all-requires : goal.stands-all-requires
stands-all-requires c = left_low _ _ _ _ _ _ _ c.in-Some.ensures.steps c.loop-row.invariant

pub loop-row-preserved : goal.loop-row-preserved
loop-row-preserved c = fit_next _ _ _ _ _ _ _ c.in-Some.ensures.steps c.loop-row.invariant _ _ c.column.ensures.0 c.stands-all.ensures

pub returns : goal.returns
returns c = fit_all _ _ _ _ _ c.in-None.ensures.steps.0 c.loop-row.invariant
