-- `lmr5::lmr5_drop` meets its contract.
-- Assumes nothing.
use borrow.Author.Rules.{rules}
use Rattle.laws.proofs.Results.{bytes_in}
use Rattle.lmr5.proofs.Calls.{call_fits}
use Rattle.lmr5.proofs.lmr5_drop.Goals as goal

pub answer_of-requires : goal.answer_of-requires
answer_of-requires c = call_fits _ _ _ _ _ _ c.remove.ensures (search (rules, bytes_in))
