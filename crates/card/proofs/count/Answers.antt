-- `card::count` meets its contract.
-- Assumes nothing.
use native.Mathlib.Omega.{arith}
use mathlib.Core.Path.{◌∙◌}
use Rattle.card.proofs.Numbers.{count_at}
use borrow.Author.Rules.{rules}
use Rattle.card.proofs.count.Goals as goal

pub returns : goal.returns
returns c = (
  c.from.ensures ∙ count_at c.args.s.now (search rules) c.requires,
  omega arith,
)
