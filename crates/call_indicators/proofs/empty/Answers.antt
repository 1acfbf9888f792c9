-- `call_indicators::empty` meets its contract.
-- Assumes nothing.
use Rattle.format.specs.Bits.{Bytes}
use Rattle.laws.proofs.Report.{passes}
use Rattle.call_indicators.proofs.Cards.{now_missing, clearing_card}
use native.Mathlib.Omega.{arith}
use borrow.Author.Rules.{rules}
use Rattle.call_indicators.proofs.empty.Goals as goal

pub checksum-sum-requires : goal.checksum-sum-requires
checksum-sum-requires c = (passes _ _ _ c.requires.0.1).0.long

pub exchange-former-requires : goal.exchange-former-requires
exchange-former-requires c = ((passes _ _ _ c.requires.0.1).0.long, omega arith)

pub take_indicators-more-requires : goal.take_indicators-more-requires
take_indicators-more-requires c =
    let f = c.args.field in (
      omega (arith, c.exchange-former.ensures.0.long, (passes _ _ _ c.requires.0.1).0.long),
      now_missing _ _ f.number f.low f.high c.exchange-former.ensures.0,
    )

pub set_checksum-requires : goal.set_checksum-requires
set_checksum-requires c = omega (arith, c.take_indicators-more.ensures.0.card.long, c.exchange-former.ensures.0.long, (passes _ _ _ c.requires.0.1).0.long)

pub returns : goal.returns
returns c =
    let f = c.args.field in
    let before : Bytes c.args.buffer.now = search rules in (
      clearing_card c.requires.0.0 _ before c.requires.0.1 f.number (record { low = f.low; high = f.high; optional = c.requires.1 })
          _ _ _ _ _ c.exchange-former.result c.checksum-sum.ensures.0 c.exchange-former.ensures.0 c.exchange-former.ensures.1 (search rules)
          c.take_indicators-more.ensures.0 c.take_indicators-more.ensures.1 c.set_checksum.ensures,
      c.exchange-former.ensures.1,
    )
