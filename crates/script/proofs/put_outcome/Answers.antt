-- `script::put_outcome` meets its contract.
-- Assumes nothing.
use Rattle.script.proofs.Replay.{outcome_put}
use Rattle.script.proofs.put_outcome.Goals as goal

pub returns : goal.returns
returns c =
    outcome_put _ _ c.given_by.ensures _ _ _ _ _ c.put_head.ensures c.put_labelled.ensures c.put_labelled-2.ensures c.put_labelled-3.ensures
