-- `lmr5::answer_of` meets its contract.
-- Assumes nothing.
use mathlib.Core.Path.{sym, ap, subst, ◌∙◌}
use Rattle.format.specs.Reply.{answer_of}
use Rattle.format.specs.declared.Outcome.{Outcome}
use Rattle.format.specs.declared.Refusal.{Refusal}
use Rattle.std.specs.Prelude.{Result}
use Rattle.laws.proofs.Bounds.{AnswerFits}
use Rattle.lmr5.specs.Numbered.{numbered}
use Rattle.lmr5.proofs.Calls.{told_outcome}
use Rattle.lmr5.proofs.answer_of.Goals as goal

pub returns-in-Ok : goal.returns-in-Ok
returns-in-Ok c =
    let fits = subst (λ (r : Result Outcome Refusal). AnswerFits (answer_of r)) c.in-Ok.is c.requires in
    c.accepted.ensures ∙ told_outcome _ _ c.given_by.ensures fits ∙ ap (λ (r : Result Outcome Refusal). numbered (answer_of r)) (sym c.in-Ok.is)
