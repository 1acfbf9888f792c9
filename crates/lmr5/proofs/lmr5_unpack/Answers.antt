-- `lmr5::lmr5_unpack` meets its contract.
-- Assumes nothing.
use Rattle.numbers.specs.Words.{unsigned}
use Rattle.unpack.specs.Answers.{contents_numbers}
use Rattle.lmr5.proofs.Calls.{unpack-given}
use Rattle.lmr5.proofs.lmr5_unpack.Goals as goal

pub returns-in-Ok : goal.returns-in-Ok
unfolding unsigned
returns-in-Ok c =
    unpack-given (contents_numbers c.in-Ok.given) _ _ c.args.contents.now _ _ _ (rw c.in-Ok.is at c.unpack.ensures)
    (rw (c.from.ensures, c.from-in-Ok.ensures)) c.done.ensures
