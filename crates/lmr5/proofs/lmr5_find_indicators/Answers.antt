-- `lmr5::lmr5_find_indicators` meets its contract.
-- Assumes nothing.
use mathlib.Core.Path.{sym, ap, subst}
use Rattle.format.specs.Whole.{Wrote}
use Rattle.laws.proofs.Bounds.{AnswerFits, find_fits}
use Rattle.lmr5.proofs.lmr5_find_indicators.Goals as goal

pub answer_of-requires : goal.answer_of-requires
answer_of-requires c = subst AnswerFits (sym (ap (λ (w : Wrote). w.answer) c.find.ensures.0)) (find_fits _ _ _)
