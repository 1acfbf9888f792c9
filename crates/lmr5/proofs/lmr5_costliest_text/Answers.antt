-- `lmr5::lmr5_costliest_text` meets its contract.
-- Assumes nothing.
use mathlib.Core.Path.{sym, subst}
use Rattle.laws.proofs.Bounds.{AnswerFits}
use Rattle.lmr5.proofs.Calls.{costliest_fits}
use Rattle.lmr5.proofs.lmr5_costliest_text.Goals as goal

pub answer_of-requires : goal.answer_of-requires
answer_of-requires c = subst AnswerFits (sym c.costliest.ensures.0) (costliest_fits _ _ _)
