-- `characters::put_escapes` meets its contract.
-- Assumes nothing.
use Rattle.characters.proofs.Entries.{whole}
use Rattle.characters.proofs.put_escapes.Goals as goal

pub returns : goal.returns
returns c = whole _ _ _ _ c.requires c.put_run.ensures
