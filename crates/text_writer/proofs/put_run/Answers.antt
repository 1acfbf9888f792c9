-- `text_writer::put_run` meets its contract.
-- Assumes nothing.
use Rattle.laws.proofs.Stores.{run_stored}
use Rattle.text_writer.proofs.put_run.Goals as goal

pub returns : goal.returns
returns c = run_stored _ _ _ _ _ _ c.put_fulls.ensures c.put_rest.ensures
