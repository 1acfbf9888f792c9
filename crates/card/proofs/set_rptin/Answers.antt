-- `card::set_rptin` meets its contract.
-- Assumes nothing.
use native.Mathlib.Omega.{arith}
use Rattle.card.proofs.Numbers.{carded_rptin}
use borrow.Author.Rules.{rules}
use Rattle.card.proofs.set_rptin.Goals as goal

pub returns : goal.returns
returns c =
    carded_rptin c.args.s.now c.write.new.s c.args.v
    (search rules)
    (search rules)
    c.requires
    c.write.ensures.1
    (omega arith)
    (rw c.from.ensures at c.write.ensures.0)
