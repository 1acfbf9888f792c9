-- `flag_table::some_yes` meets its contract.
-- Assumes nothing.
use Rattle.std.proofs.Common.{rules}
use Rattle.flag_table.proofs.Tables.{any_yes}
use Rattle.flag_table.proofs.some_yes.Goals as goal

pub returns : goal.returns
returns c = any_yes _ _ (search rules) (search rules)
