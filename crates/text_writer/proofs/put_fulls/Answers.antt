-- `text_writer::put_fulls` meets its contract.
-- Assumes nothing.
use Rattle.laws.proofs.Stores.{fulls_none, fulls-turn}
use Rattle.text_writer.proofs.put_fulls.Goals as goal

pub loop-i-init : goal.loop-i-init
loop-i-init c = fulls_none _ _

pub loop-i-preserved : goal.loop-i-preserved
loop-i-preserved c = fulls-turn _ _ _ _ _ _ c.loop-i.invariant c.put.ensures c.put-in-loop-i.ensures
