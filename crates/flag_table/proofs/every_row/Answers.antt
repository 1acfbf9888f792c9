-- `flag_table::every_row` meets its contract.
-- Assumes nothing.
use Rattle.std.proofs.Common.{rules, ap, ◌∙◌}
use Rattle.format.specs.Loading.{every_row}
use Rattle.flag_table.proofs.Tables.{table_is, each_row}
use Rattle.flag_table.proofs.every_row.Goals as goal

pub returns : goal.returns
returns c = each_row c.as_chunks.result.0.now _ (search rules) (search rules) ∙ ap every_row (table_is _ _ c.requires c.as_chunks.ensures.front)
