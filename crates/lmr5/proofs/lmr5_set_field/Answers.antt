-- `lmr5::lmr5_set_field` meets its contract.
-- Assumes nothing.
use borrow.Author.Rules.{rules}
use Rattle.laws.proofs.Results.{bytes_in}
use Rattle.lmr5.proofs.Calls.{call_fits}
use Rattle.lmr5.proofs.lmr5_set_field.Goals as goal

pub answer_of-requires : goal.answer_of-requires
answer_of-requires c = call_fits _ _ _ _ _ _ c.set_field.ensures.0 (search (rules, bytes_in))
