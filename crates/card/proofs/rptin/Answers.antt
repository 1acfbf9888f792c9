-- `card::rptin` meets its contract.
-- Assumes nothing.
use mathlib.Core.Path.{◌∙◌}
use Rattle.card.proofs.Numbers.{rptin_at}
use Rattle.card.proofs.rptin.Goals as goal

pub returns : goal.returns
returns c = c.read.ensures.0 ∙ rptin_at c.args.s.now
