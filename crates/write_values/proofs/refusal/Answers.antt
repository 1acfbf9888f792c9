-- `write_values::refusal` meets its contract.
-- Assumes nothing.
use mathlib.Core.Path.{sym, ◌∙◌}
use Rattle.format.specs.Field.{field_at, scaled}
use Rattle.card.proofs.Laid.{coding_outside, coding_inside}
use Rattle.write_values.proofs.Tests.{coding_here, refusal_missing, refusal_absent, refusal_outside, refusal_fine}
use borrow.Author.Rules.{rules}
use Rattle.write_values.proofs.refusal.Goals as goal

pub returns-then-is_required : goal.returns-then-is_required
returns-then-is_required c =
    refusal_missing _ _ _ (sym c.holds.ensures ∙ c.if-not-holds.true) (sym c.is_required.ensures ∙ c.if-is_required.true)

pub returns-then-not-holds : goal.returns-then-not-holds
returns-then-not-holds c =
    refusal_absent _ _ _ (sym c.holds.ensures ∙ c.if-not-holds.true) (sym c.is_required.ensures ∙ c.if-is_required.false)

pub returns-in-None : goal.returns-in-None
returns-in-None c =
    refusal_outside _ _ _ (sym c.holds.ensures ∙ c.if-not-holds.false)
    (coding_outside (field_at c.args.field.number) (scaled _) (sym c.in-None.is ∙ coding_here c.args.field.number _ c.coded.result (search rules) c.coded.ensures))

pub returns-in-Some : goal.returns-in-Some
returns-in-Some c =
    refusal_fine _ _ _ (sym c.holds.ensures ∙ c.if-not-holds.false)
    (coding_inside (field_at c.args.field.number) (scaled _) _ (sym c.in-Some.is ∙ coding_here c.args.field.number _ c.coded.result (search rules) c.coded.ensures))
