-- `card::set_count` meets its contract.
-- Assumes nothing.
use mathlib.Core.Path.{refl}
use Rattle.card.proofs.Numbers.{carded_count}
use borrow.Author.Rules.{rules}
use Rattle.card.proofs.set_count.Goals as goal

pub returns : goal.returns
returns c =
    carded_count c.args.s.now c.args.n _ (search rules) c.requires.0 c.requires.1 refl
