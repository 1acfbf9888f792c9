-- `card::set_checksum` meets its contract.
-- Assumes nothing.
use Prim.Native.Nat.{◌%◌}
use native.Mathlib.Omega.{arith}
use mathlib.Core.Path.{◌∙◌}
use Rattle.card.proofs.Numbers.{carded_checksum}
use borrow.Author.Rules.{rules}
use Rattle.card.proofs.set_checksum.Goals as goal

pub returns : goal.returns
returns c =
    carded_checksum c.args.s.now c.write.new.s (c.args.sum % 255)
    (search rules)
    (search rules)
    c.requires
    c.write.ensures.1
    (omega arith)
    (rw (c.from.ensures ∙ c.short_remainder.ensures.0) at c.write.ensures.0)
