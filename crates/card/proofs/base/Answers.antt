-- `card::base` meets its contract.
-- Assumes nothing.
use Rattle.card.proofs.Scale.{base_less_fits, base_is}
use Rattle.card.proofs.base.Goals as goal

pub overflow_sub-result : goal.overflow_sub-result
overflow_sub-result c = base_less_fits c.args.row

pub returns : goal.returns
returns c = base_is c.args.row
