-- The first three steps of a reader for display, each behind the last, are its steps number 0, 1 and 2.
-- Assumes nothing.
use Prim.Native.Nat.{ℕ, zero, suc, ◌-◌}
use native.Mathlib.Omega.{arith}
use mathlib.Core.Path.{◌≡◌, refl, sym, ap, ◌∙◌}
use mathlib.Core.List.{List}
use borrow.Author.Tests.{lt-ltb}
use Rattle.std.specs.Prelude.{Option, Some, None}
use Rattle.format.specs.Flags.{FlagTable}
use Rattle.format.specs.declared.Refusal.{Refusal}
use Rattle.text_reader.specs.declared.Origin.TheVariants.{Plain}
use Rattle.text_display.specs.declared.Step.{Step}
use Rattle.text_display.specs.Steps.{step, step_at, symbol_given, refusal_in, step_number, numbers_of, Opens}
use Rattle.test_reports.specs.declared.FirstSteps.{FirstSteps}
use Rattle.test_reports.specs.declared.Standing.{Standing}
use Rattle.test_reports.specs.FirstThree.{stands_behind, InTurn}

not_end : (s : Step) → Some s ≡ None → ⊥
not_end s e = let z : ◌≡◌ {A = ℕ} 0 1 = cc in omega arith

module _ (b : List ℕ) (at end : ℕ) where
  -- at the end no space is left to give
  end_spaces : (w : ℕ) → step_at b at end w ≡ None → w ≡ 0
  unfolding step_at
  end_spaces zero = λ e. refl
  end_spaces (suc w) = rw (lt-ltb 0 (suc w) (omega arith)) (λ (e : Some (step 32 Plain at (suc w - 1)) ≡ None). absurd (not_end (step 32 Plain at (suc w - 1)) e))

  -- a step behind another is the step with the next number
  behind-step : (w n : ℕ) → step_number n b (stands_behind (step_at b at end w) at).at end (stands_behind (step_at b at end w) at).spaces
      ≡ step_number (suc n) b at end w
  unfolding step_number
  behind-step w n = go (step_at b at end w) refl
    where
      go : (t : Option Step) → step_at b at end w ≡ t → step_number n b (stands_behind t at).at end (stands_behind t at).spaces ≡ step_number (suc n) b at end w
      go (Some s) e = rw (e, step_number) refl
      go None e = rw (e, step_number) (ap (step_number n b at end) (sym (end_spaces w e)))

module _ (marks : FlagTable) (b : List ℕ) (at end : ℕ) (refusal : Option Refusal) (opens : Opens marks b (numbers_of at end refusal)) where
  -- the steps, and where the reader stands behind the first and behind the second
  abbrev one : Option Step
  one = step_at b at end 0

  abbrev once : Standing
  once = stands_behind one at

  abbrev two : Option Step
  two = step_at b once.at end once.spaces

  abbrev twice : Standing
  twice = stands_behind two once.at

  abbrev three : Option Step
  three = step_at b twice.at end twice.spaces

  pub in_turn : InTurn marks b (record { refusal = refusal; first = one; second = two; third = three })
  unfolding step_number
  in_turn = record {
    refusal = opens.refusal;
    first = opens.gives 0;
    second = ap symbol_given (behind-step b at end 0 0) ∙ opens.gives 1;
    third = ap symbol_given (behind-step b once.at end once.spaces 0 ∙ behind-step b at end 0 1) ∙ opens.gives 2;
  }

-- three steps, each of a reader that stands behind the step before, of a reader that was opened
pub three_in_turn : (marks : FlagTable) (b : List ℕ) (at end : ℕ) (refusal : Option Refusal) → Opens marks b (numbers_of at end refusal)
    → (r : FirstSteps) (first second : Standing) → r.refusal ≡ refusal
    → r.first ≡ step_at b at end 0 → first ≡ stands_behind r.first at
    → r.second ≡ step_at b first.at end first.spaces → second ≡ stands_behind r.second first.at
    → r.third ≡ step_at b second.at end second.spaces → InTurn marks b r
three_in_turn marks b at end refusal opens r first second same e1 f1 e2 f2 e3 =
    let told = in_turn marks b at end refusal opens in
    let behind1 : first ≡ stands_behind (step_at b at end 0) at = f1 ∙ ap (λ s. stands_behind s at) e1 in
    let step2 : r.second ≡ two marks b at end refusal opens = e2 ∙ ap (λ (s : Standing). step_at b s.at end s.spaces) behind1 in
    let behind2 : second ≡ twice marks b at end refusal opens =
    f2 ∙ ap (λ s. stands_behind s first.at) step2 ∙ ap (λ (s : Standing). stands_behind (two marks b at end refusal opens) s.at) behind1 in
    let step3 : r.third ≡ three marks b at end refusal opens = e3 ∙ ap (λ (s : Standing). step_at b s.at end s.spaces) behind2 in
    record {
      refusal = ap refusal_in same ∙ told.refusal;
      first = ap symbol_given e1 ∙ told.first;
      second = ap symbol_given step2 ∙ told.second;
      third = ap symbol_given step3 ∙ told.third;
    }
