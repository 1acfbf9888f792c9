-- What each return of each call leaves is its effect. The proofs of the calls cite these, one at each return.
-- Assumes nothing.
use Prim.Native.Nat.{ℕ, ◌≤◌, ◌<◌}
use native.Mathlib.Omega.{arith}
use mathlib.Core.Path.{◌≡◌, refl, sym, ap, ap₂, ◌∙◌}
use mathlib.Core.Bool.{Bool, true, false, not}
use mathlib.Core.List.{List, [], ◌∷◌, ◌++◌, append_assoc}
use mathlib.Core.Option.{Option, none, some}
use lib.ListN.{length}
use borrow.Author.Tests.{le-ltb, lt-ltb}
use Rattle.format.specs.Order.{Refusal, Check, check, first, between}
use Rattle.format.specs.Flags.{FlagTable}
use Rattle.format.specs.Observation.{Observation, size}
use Rattle.format.specs.Report.{observation_of, Verdict, judge}
use Rattle.format.specs.Calls.{Call, Reading, Editing, Fetching, reads, edits, fetches, made, edited, after_edit, next, shorter, gives, overfull, over_each, outputs_of}
use Rattle.format.specs.Calls.{writes, room_check, call_checks, checks, Given, Answer, Stepped, stepped_by, step}
use Rattle.format.specs.Buffer.{layout, buffer_after, After, after, effect_on, effect}
use Rattle.format.specs.Reply.{refusal}
use Rattle.laws.proofs.Order.{first_fits, first-append_skip, first-append_none, no_check, no_checks, first-nil}
use Rattle.format.specs.Bits.{Bytes}
use Rattle.laws.proofs.Report.{Good, judged, passes, size-within}
use Rattle.laws.proofs.WholeList.{layout_same, judge-layout, step_kept}

-- an answer is not both
pub refused_accepted : {A : Type 0} (r : Refusal) (gs : List Given) → Answer.refused r ≡ Answer.accepted gs → A
refused_accepted r gs e = let z : ◌≡◌ {A = ℕ} 0 1 = cc in absurd (omega arith)

-- on a refused report
pub effect_refused : (marks : FlagTable) (b : List ℕ) (r : Refusal) (c : Call) → judge marks b ≡ Verdict.refused r → after (Answer.refused r) b (outputs_of c) ≡ effect marks b c
unfolding effect
effect_refused marks b r c j = rw j

-- a buffer that holds the observation after a step is not too short for it
long_enough : (n : ℕ) (s : Observation) (o : Option Observation) → size (after_edit s o) ≤ n → shorter n o ≡ false
long_enough n s none h = refl
long_enough n s (some t) h = le-ltb n (size t) h

-- on an accepted one
module _ (marks : FlagTable) (b : List ℕ) (s : Observation) (c : Call) (bs : Bytes b) (j : judge marks b ≡ Verdict.accepted s) where
  effect-step : (t : Stepped) → step marks (length b) s c ≡ t → effect marks b c ≡ after t.answer (buffer_after t.answer b (size s) t.observation) t.outs
  unfolding effect
  effect-step t e = rw (j, e)

  step_by : (o : Option Refusal) → first (checks marks (length b) s c) ≡ o → step marks (length b) s c ≡ stepped_by o s c
  unfolding step
  step_by o e = ap (λ (x : Option Refusal). stepped_by x s c) e

  effect_refuses : (before : List Check) (ch : Check) (behind : List Check) → checks marks (length b) s c ≡ before ++ (ch ∷ behind)
      → first before ≡ none → ch.fits ≡ true → after (Answer.refused ch.refusal) b (outputs_of c) ≡ effect marks b c
  effect_refuses before ch behind split passed fits =
      let f : first (checks marks (length b) s c) ≡ some ch.refusal =
      ap first split ∙ first-append_skip before (ch ∷ behind) passed ∙ first_fits ch behind fits in
      sym (effect-step (stepped_by (some ch.refusal) s c) (step_by (some ch.refusal) f))

  -- the check ch fits, and none of those before it
  pub call_refuses : (before : List Check) (ch : Check) (behind : List Check) → call_checks marks s c ≡ before ++ (ch ∷ behind)
      → first before ≡ none → ch.fits ≡ true → after (Answer.refused ch.refusal) b (outputs_of c) ≡ effect marks b c
  unfolding checks
  call_refuses before ch behind is passed fits =
      let room = room_check (length b) s c ∷ [] in
      effect_refuses before ch (behind ++ room) (ap (λ (l : List Check). l ++ room) is ∙ append_assoc before (ch ∷ behind) room) passed fits

  -- 8, which comes first: a number is not within its two ends
  pub number_refuses : (low high x : ℕ) (behind : List Check) → call_checks marks s c ≡ check (not (between low high x)) 8 0 ∷ behind
      → (t : Bool) → t ≡ between low high x → not t ≡ true → after (refusal 8 0) b (outputs_of c) ≡ effect marks b c
  number_refuses low high x behind is t e h = call_refuses [] (check (not (between low high x)) 8 0) behind is first-nil (ap not (sym e) ∙ h)

  none_fits : first (call_checks marks s c) ≡ none → (room_check (length b) s c).fits ≡ false → first (checks marks (length b) s c) ≡ none
  unfolding checks
  none_fits passed room = no_checks (call_checks marks s c) (room_check (length b) s c ∷ []) passed (no_check (room_check (length b) s c) [] room first-nil)

  -- no check fits: 13 last
  effect_done : (d : List ℕ) (o : List (List ℕ)) → first (call_checks marks s c) ≡ none → size (next s c) ≤ length b → overfull (writes s c) (outputs_of c) ≡ false
      → d ≡ layout b (size s) (next s c) → o ≡ over_each (writes s c) (outputs_of c) → after (Answer.accepted (gives s c)) d o ≡ effect marks b c
  effect_done d o passed room out laid wrote =
      let r : (room_check (length b) s c).fits ≡ false = rw (long_enough (length b) s (edited s c) room, out) in
      let f = none_fits passed r in
      sym (effect-step (stepped_by none s c) (step_by none f) ∙ ap₂ (λ (x : List ℕ) (y : List (List ℕ)). after (Answer.accepted (gives s c)) x y) (sym laid) (sym wrote))

  -- a step that leaves the observation leaves the buffer
  effect_same : (o : List (List ℕ)) → next s c ≡ s → first (call_checks marks s c) ≡ none → overfull (writes s c) (outputs_of c) ≡ false
      → o ≡ over_each (writes s c) (outputs_of c) → after (Answer.accepted (gives s c)) b o ≡ effect marks b c
  effect_same o same passed out wrote =
      effect_done b o passed (rw same (size-within marks b s bs j)) out (layout_same marks b s bs j ∙ ap (layout b (size s)) (sym same)) wrote

  -- every check before 13 passes, and the room is too small
  effect_room : first (call_checks marks s c) ≡ none → (room_check (length b) s c).fits ≡ true
      → after (Answer.refused (record { number = 13; place = 0 })) b (outputs_of c) ≡ effect marks b c
  unfolding checks
  effect_room passed small = effect_refuses (call_checks marks s c) (room_check (length b) s c) [] refl passed small

-- ---- by groups: an edit has no output, a read leaves the buffer too, a fetch writes to outputs and leaves the buffer

module _ (marks : FlagTable) (b : List ℕ) (s : Observation) (bs : Bytes b) (j : judge marks b ≡ Verdict.accepted s) where
  pub edit_done : (e : Editing) (d : List ℕ) → first (call_checks marks s (edits e)) ≡ none → size (made s e) ≤ length b → d ≡ layout b (size s) (made s e)
      → after (Answer.accepted (gives s (edits e))) d [] ≡ effect marks b (edits e)
  unfolding outputs_of writes overfull over_each
  edit_done e d passed room laid = effect_done marks b s (edits e) bs j d [] passed room refl laid refl

  -- 13, for the buffer
  pub edit_room : (e : Editing) → first (call_checks marks s (edits e)) ≡ none → length b < size (made s e) → after (refusal 13 0) b [] ≡ effect marks b (edits e)
  unfolding outputs_of
  edit_room e passed small = effect_room marks b s (edits e) bs j passed (rw (lt-ltb (length b) (size (made s e)) small))

  pub read_done : (r : Reading) → first (call_checks marks s (reads r)) ≡ none → after (Answer.accepted (gives s (reads r))) b [] ≡ effect marks b (reads r)
  unfolding outputs_of writes overfull over_each
  read_done r passed = effect_same marks b s (reads r) bs j [] refl passed refl refl

  -- a fetch: its outputs after it; 13, where one is too short
  module _ (f : Fetching) (passed : first (call_checks marks s (fetches f)) ≡ none) where
    pub fetch_done : (os : List (List ℕ)) → overfull (writes s (fetches f)) (outputs_of (fetches f)) ≡ false → os ≡ over_each (writes s (fetches f)) (outputs_of (fetches f))
        → after (Answer.accepted (gives s (fetches f))) b os ≡ effect marks b (fetches f)
    fetch_done os fits is = effect_same marks b s (fetches f) bs j os refl passed fits is

    pub fetch_short : overfull (writes s (fetches f)) (outputs_of (fetches f)) ≡ true → after (refusal 13 0) b (outputs_of (fetches f)) ≡ effect marks b (fetches f)
    fetch_short short = effect_room marks b s (fetches f) bs j passed short

-- ---- a call that is accepted

-- the observation that it found, what it gives, and the observation that it leaves in the buffer
pub record Accepts (marks : FlagTable) (b : List ℕ) (c : Call) (gs : List Given) (b' : List ℕ) : Type 0 where
  pub from : Observation
  pub judges : judge marks b ≡ Verdict.accepted from
  pub good : Good marks from
  pub passed : first (call_checks marks from c) ≡ none
  pub given : gs ≡ gives from c
  pub left : observation_of b' ≡ next from c

module _ (marks : FlagTable) (b : List ℕ) (bytes : Bytes b) (c : Call) (gs : List Given) (b' : List ℕ) (os : List (List ℕ)) where
  pub accepts : after (Answer.accepted gs) b' os ≡ effect marks b c → Accepts marks b c gs b'
  unfolding effect step
  accepts = go (judge marks b) refl
    where
      by : (s : Observation) → judge marks b ≡ Verdict.accepted s → (o : Option Refusal) → first (checks marks (length b) s c) ≡ o
          → after (Answer.accepted gs) b' os
          ≡ after (stepped_by o s c).answer (buffer_after (stepped_by o s c).answer b (size s) (stepped_by o s c).observation) (stepped_by o s c).outs
          → Accepts marks b c gs b'
      by s j (some r) q e = refused_accepted r gs (sym (ap (λ (a : After). a.answer) e))
      by s j none q e =
          let g = (judged marks b s bytes j).good in
          let kept : Good marks (next s c) = rw q at (step_kept marks (length b) s c (record { good = g; fits = size-within marks b s bytes j })).good in
          let answer : Answer.accepted gs ≡ Answer.accepted (gives s c) = ap (λ (a : After). a.answer) e in
          record {
            from = s;
            judges = j;
            good = g;
            passed = (first-append_none (call_checks marks s c) (room_check (length b) s c ∷ []) (unfold checks in q)).0;
            given = let i : gs ≡ gives s c = cc in i;
            left = ap observation_of (ap (λ (a : After). a.buffer) e) ∙ (passes marks _ (next s c) (judge-layout marks b (size s) (next s c) kept)).1;
          }

      go : (v : Verdict) → judge marks b ≡ v → after (Answer.accepted gs) b' os ≡ effect_on marks v b c → Accepts marks b c gs b'
      go (Verdict.refused r) q e = refused_accepted r gs (sym (ap (λ (a : After). a.answer) e))
      go (Verdict.accepted s) q e = by s q (first (checks marks (length b) s c)) refl e
