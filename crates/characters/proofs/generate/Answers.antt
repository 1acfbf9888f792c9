-- `characters::generate` meets its contract: what its rules give is computed, and compared with the table.
-- Assumes nothing.
use Rattle.characters.proofs.Entries.{ruled, read_back}
use Rattle.characters.proofs.generate.Goals as goal

pub returns : goal.returns
returns c =
    let table =
    ruled _ _ _ _ _ _ _ _ _ _ _ _
    c.put_escapes.ensures
    c.put_run.ensures
    c.put_run-2.ensures
    c.put_run-3.ensures
    c.put_run-4.ensures
    c.put_run-5.ensures
    c.put_run-6.ensures
    c.put_run-7.ensures
    c.put_run-8.ensures
    c.put_run-9.ensures
    c.put_run-10.ensures
    c.put_run-11.ensures in
    (table, read_back _ table)
