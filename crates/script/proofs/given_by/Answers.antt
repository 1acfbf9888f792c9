-- `script::given_by` meets its contract.
-- Assumes nothing.
use mir.Syntax.{w64}
use mir.ValLaws.{to_z-of_z}
use Prim.Native.Nat.{ℕ}
use mathlib.Core.Path.{◌≡◌, refl, ap, ◌∙◌}
use Rattle.std.specs.Prelude.{Option, Some, None}
use Rattle.numbers.specs.Words.{unsigned}
use Rattle.format.specs.declared.Scaled.{Scaled}
use Rattle.format.specs.declared.Outcome.TheVariants.{Value, Flag}
use Rattle.script.specs.Labels.{quantity_label, labelled_row}
use Rattle.script.proofs.Replay.{one_given}
use borrow.Author.Rules.{rules}
use Rattle.script.proofs.given_by.Goals as goal

pub returns-in-Value-Some : goal.returns-in-Value-Some
unfolding labelled_row quantity_label
returns-in-Value-Some c =
    let z = c.in-Value-Some.value.0 in
    let e = c.unsigned_of-number.ensures ∙ ap unsigned (to_z-of_z w64 z (search rules)) in
    let held : c.in-Value-Some.field-0 ≡ Some c.in-Value-Some.value = rw c.in-Value-Some.is at c.in-Value-Some.field-0-is in
    let o = c.in-Value-Some.is ∙ ap (λ (x : Option Scaled). Value x) held in
    one_given _ _ _ _ o (rw e at c.numbered.ensures) refl

pub returns-in-Value-None : goal.returns-in-Value-None
unfolding labelled_row quantity_label unsigned
returns-in-Value-None c =
    let held : c.in-Value-None.field-0 ≡ None = rw c.in-Value-None.is at c.in-Value-None.field-0-is in
    let o = c.in-Value-None.is ∙ ap (λ (x : Option Scaled). Value x) held in
    one_given _ _ _ _ o c.missing.ensures refl

pub returns-in-Flag-Some : goal.returns-in-Flag-Some
unfolding labelled_row quantity_label unsigned
returns-in-Flag-Some c =
    let held : c.in-Flag-Some.field-0 ≡ Some c.in-Flag-Some.value = rw c.in-Flag-Some.is at c.in-Flag-Some.field-0-is in
    let o = c.in-Flag-Some.is ∙ ap (λ (x : Option ℕ). Flag x) held in
    one_given _ _ _ _ o (rw c.from.ensures at c.numbered-in-Flag-Some.ensures) refl

pub returns-in-Flag-None : goal.returns-in-Flag-None
unfolding labelled_row quantity_label unsigned
returns-in-Flag-None c =
    let held : c.in-Flag-None.field-0 ≡ None = rw c.in-Flag-None.is at c.in-Flag-None.field-0-is in
    let o = c.in-Flag-None.is ∙ ap (λ (x : Option ℕ). Flag x) held in
    one_given _ _ _ _ o c.missing-in-Flag-None.ensures refl
