-- `script::copy` meets its contract.
-- Assumes nothing.
use Rattle.script.proofs.Copies.{copied_start, copied_more, copied_end}
use native.Mathlib.Omega.{arith}
use Rattle.script.proofs.copy.Goals as goal

pub loop-i-init : goal.loop-i-init
loop-i-init c = (copied_start _ _ c.requires, c.requires)

pub loop-i-preserved : goal.loop-i-preserved
loop-i-preserved c = (copied_more _ _ c.loop-i.i c.loop-i.invariant.0 c.loop-i-test.true, c.loop-i.invariant.1)

pub returns : goal.returns
returns c = copied_end _ _ c.loop-i.i c.loop-i.invariant.0 (omega arith)
