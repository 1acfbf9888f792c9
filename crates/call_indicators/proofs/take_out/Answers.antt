-- `call_indicators::take_out` meets its contract.
-- Assumes nothing.
use Rattle.call_indicators.proofs.Cards.{emptied_one}
use borrow.Author.Rules.{rules}
use Rattle.call_indicators.proofs.take_out.Goals as goal

pub returns : goal.returns
returns c =
    let f = c.at.result in
    rw (← c.at.ensures) (emptied_one _ _ _ c.exchange-former.result f.low f.high c.exchange-former.ensures.0 c.exchange-former.ensures.1 (search rules))
