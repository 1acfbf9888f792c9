-- What a call knows of a report that was inspected: the outcome, the place of an attachment, and the refusals of an id.
-- Assumes nothing.
use Prim.Native.Nat.{ℕ, ◌+◌, ◌*◌, ◌≤◌}
use native.Mathlib.Omega.{arith}
use mathlib.Core.Path.{◌≡◌, sym, ap, ◌∙◌}
use mathlib.Core.Bool.{Bool, true, false, not}
use mathlib.Core.List.{List, [], ◌∷◌, ◌++◌}
use mathlib.Core.Option.{none}
use lib.ListN.{length, take, drop}
use lib.Seq.{take_at}
use Rattle.format.specs.Bits.{Bytes}
use Rattle.format.specs.Order.{Check, first, between}
use Rattle.format.specs.Flags.{FlagTable}
use Rattle.format.specs.Nibbles.{Attachment, attachment, nibbles, attachment_nibbles, tail_nibbles}
use Rattle.format.specs.Report.{observation_of}
use Rattle.format.specs.Calls.{Call, stands, content_of, outputs_of, id_check, stands_check, call_checks}
use Rattle.format.specs.Buffer.{after, effect}
use Rattle.format.specs.Reply.{refusal}
use Rattle.laws.proofs.Order.{first-nil, no_check}
use Rattle.laws.proofs.AttachmentEdits.{Placed, placed}
use Rattle.laws.proofs.Report.{Good, judged, counted, within}
use Rattle.laws.proofs.Effects.{effect_refused, call_refuses, number_refuses}
use Rattle.tail.proofs.Place as place
use Rattle.tail.proofs.Place.{around, beyond, body_is, body_ends}
use Rattle.report.specs.declared.Report.{Report}
use Rattle.std.specs.Prelude.{Result, Ok, Err, Some, None}
use Rattle.format.specs.Reply.{refusal_of, by_number, answer_of}
use Rattle.format.specs.declared.Refusal.{Refusal}
use Rattle.tail.proofs.Turns.{IsHeld, held_none, held_some}
use Rattle.tail.specs.declared.Held.{Held}
use Rattle.report.specs.Answers.{inspected}
use Rattle.report.proofs.Outcomes.{judge_refused, judge_fine}
use Rattle.report.specs.Found.{Accepted, Found}

-- ---- what inspecting brings

of_refusal : (x : Result Report Refusal) (e : Refusal) → x ≡ Err e → Err (refusal_of e) ≡ by_number x
of_refusal (Err f) e q = let is : e ≡ f = cc in ap (λ (x : Refusal). Err (refusal_of x)) is
of_refusal (Ok r) e q = let z : ◌≡◌ {A = ℕ} 0 1 = cc in absurd (omega arith)

of_report : (x : Result Report Refusal) (r : Report) → x ≡ Ok r → Ok r ≡ by_number x
of_report (Err f) r q = let z : ◌≡◌ {A = ℕ} 0 1 = cc in absurd (omega arith)
of_report (Ok s) r q = let is : r ≡ s = cc in ap Ok is

module _ (marks : FlagTable) (b : List ℕ) (i : ℕ) (x : Result Report Refusal) (is : by_number x ≡ inspected marks b i) where
  pub inspect_refused : (e : Refusal) (c : Call) → x ≡ Err e → after (answer_of (Err e)) b (outputs_of c) ≡ effect marks b c
  inspect_refused e c q = effect_refused marks b (refusal_of e) c (judge_refused marks b i (refusal_of e) (of_refusal x e q ∙ is))

  pub inspect_found : (r : Report) → x ≡ Ok r → Found marks b i r
  inspect_found r q = let f = judge_fine marks b i r (of_report x r q ∙ is) in record { judged = f.0; is = f.1 }

-- ---- the place of an attachment

module _ (marks : FlagTable) {b : List ℕ} {i : ℕ} {r : Report} (bs : Bytes b) (f : Found marks b i r) where
  abbrev list : List Attachment
  list = (observation_of b).attachments

  abbrev content : List ℕ
  content = content_of i list

  pub good : Good marks (observation_of b)
  good = (judged marks b (observation_of b) bs f.judged).good

  pub end_is : r.end ≡ 75 + length (tail_nibbles (observation_of b).attachments)
  end_is = ap (λ (q : Report). q.end) f.is

  pub count_is : r.count ≡ length (observation_of b).attachments
  count_is = ap (λ (q : Report). q.count) f.is ∙ counted marks b (observation_of b) bs f.judged

  pub absent : r.held ≡ None → stands i (observation_of b).attachments ≡ false
  absent e = held_none 75 i list (sym (ap (λ (q : Report). q.held) f.is) ∙ e)

  -- where the id stands
  module _ (h : Held) (at : r.held ≡ Some h) where
    facts : IsHeld 75 i list h
    facts = held_some 75 i list h (sym (ap (λ (q : Report). q.held) f.is) ∙ at)

    pub present : stands i (observation_of b).attachments ≡ true
    present = facts.stands

    pub al_is : h.al ≡ length (content_of i (observation_of b).attachments)
    al_is = facts.al

    pub spot : Placed i (content_of i (observation_of b).attachments) (observation_of b).attachments
    spot = placed i (observation_of b).attachments present

    pub place_is : h.place ≡ 75 + length (tail_nibbles spot.before)
    place_is = facts.place ∙ place.place_is i 75 spot

    pub split : tail_nibbles (observation_of b).attachments
        ≡ tail_nibbles spot.before ++ (attachment_nibbles (attachment i (content_of i (observation_of b).attachments)) ++ tail_nibbles spot.after)
    split = around i spot

    -- its header and its nibbles lie within the report
    pub inside : h.place + (3 + h.al) ≤ r.end
    inside = omega (arith, al_is, end_is, body_ends marks b i bs f.judged spot h.place facts.place)

    -- its nibbles
    pub content_is : take h.al (drop (h.place + 3) (nibbles b)) ≡ content_of i (observation_of b).attachments
    content_is =
        ap (take h.al) (body_is marks b i bs f.judged spot h.place facts.place)
        ∙ take_at content (tail_nibbles spot.after ++ beyond marks b i bs f.judged spot) h.al (sym al_is)

    -- it lies within the buffer
    pub reach : (h.place + 3 + h.al ≤ 2 * length b) × (h.place + 3 + h.al ≤ 3706)
    reach =
        let w = within marks b (observation_of b) bs f.judged in
        let k = inside in
        let e = end_is in
        (omega arith, omega arith)

-- what was found under one table is what is found under another that accepts the report
pub found_by : {marks other : FlagTable} {b : List ℕ} {i : ℕ} {r : Report} → Found marks b i r → Accepted other b → Found other b i r
found_by f j = record { judged = j; is = f.is }

-- ---- refusals

module _ (marks : FlagTable) {b : List ℕ} {i : ℕ} {r : Report} (bs : Bytes b) (f : Found marks b i r) (c : Call) where
  -- 8, which comes first
  pub id_refused : (behind : List Check) → call_checks marks (observation_of b) c ≡ id_check i ∷ behind
      → (t : Bool) → t ≡ between 1 15 i → not t ≡ true → after (refusal 8 0) b (outputs_of c) ≡ effect marks b c
  id_refused behind is = number_refuses marks b (observation_of b) c bs f.judged 1 15 i behind is

  -- 11
  pub missing : (before : List Check) → call_checks marks (observation_of b) c ≡ before ++ (stands_check (observation_of b) i ∷ []) → first before ≡ none
      → r.held ≡ None → after (refusal 11 0) b (outputs_of c) ≡ effect marks b c
  missing before is passed e = call_refuses marks b (observation_of b) c bs f.judged before (stands_check (observation_of b) i) [] is passed (rw (absent marks bs f e))

-- ---- the check passed

pub stands_passes : (marks : FlagTable) {b : List ℕ} {i : ℕ} {r : Report} → Bytes b → Found marks b i r → (h : Held) → r.held ≡ Some h
    → first (stands_check (observation_of b) i ∷ []) ≡ none
stands_passes marks {b} {i} bs f h at = no_check (stands_check (observation_of b) i) [] (ap not (present marks bs f h at)) first-nil
