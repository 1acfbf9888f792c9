-- `flag_table::rows` meets its contract.
-- Assumes nothing.
use Rattle.std.proofs.Common.{arith, take_all, ◌∙◌}
use Rattle.flag_table.proofs.Tables.{table_is}
use Rattle.flag_table.proofs.rows.Goals as goal

pub returns : goal.returns
returns c =
    let first = rw c.unwrap.ensures at c.first_chunk.ensures.cases in
    first.same ∙ take_all 14 c.as_chunks.result.0.now (omega arith) ∙ table_is _ _ c.requires c.as_chunks.ensures.front
