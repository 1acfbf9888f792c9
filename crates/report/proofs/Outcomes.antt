-- Each outcome of judging, from the tests that led there; and what an outcome says of the report.
-- Assumes nothing.
use Prim.Native.Nat.{ℕ, ◌+◌, ◌*◌, ◌/◌, ◌%◌, ◌≤◌, ◌<◌}
use native.Mathlib.Omega.{arith}
use mathlib.Core.Path.{◌≡◌, refl, sym, ap, ◌∙◌}
use mathlib.Core.Bool.{Bool, true, false, cond, not, ◌&&◌}
use mathlib.Core.List.{List, [], ◌∷◌, ◌++◌}
use mathlib.Core.Option.{Option, none, some}
use lib.ListN.{length, get_or, drop, length-append, length-drop}
use lib.Seq.{get_or-drop}
use lib.Dec.{eqb}
use borrow.Author.Tests.{lt-ltb, le-ltb, eq-eqb, ne_eqb}
use Rattle.format.specs.Bits.{Bytes}
use Rattle.std.specs.Prelude.{Ok, Err, None}
use Rattle.format.specs.Order as order
use Rattle.format.specs.Order.{check, first}
use Rattle.format.specs.Reply.{refusal_of}
use Rattle.format.specs.declared.Refusal.{Refusal}
use Rattle.format.specs.declared.Refusal.TheVariants.{Short, Checksum}
use Rattle.format.specs.Field.{table}
use Rattle.format.specs.Flags.{FlagTable}
use Rattle.format.specs.Nibbles.{nibbles, odd, tail_nibbles, attachments_of}
use Rattle.format.specs.Observation.{checksum, size}
use Rattle.format.specs.Report.{codes_of, checksum_of, count_of, tail_of, observation_of, field_checks, attachment_checks, tail_length, report_checks, refused, accepted, verdict, judge}
use Rattle.checks.specs.Answers.{checked_of, card_check}
use Rattle.format.specs.Calls.{stands}
use Rattle.tail.proofs.Turns.{walked_refused, walked_ended}
use Rattle.tail.specs.Walk.{tail_at, walked_by, walked}
use Rattle.tail.specs.declared.Tail.{Tail}
use Rattle.nibble.specs.declared.Cursor.{Cursor}
use Rattle.laws.proofs.Order.{first_skip, first_fits, first-append_skip, first-append_some}
use Rattle.laws.proofs.Bits.{drop_below}
use Rattle.laws.proofs.Nibbles.{length-nibbles, nibbles_lt, get_d_low}
use Rattle.card.proofs.Numbers.{count_at}
use Rattle.laws.proofs.Attachments.{checks_fine, fine_size}
use Rattle.laws.proofs.Report.{size_is}
use Rattle.report.specs.Answers.{judged_of, report_of, inspected_by, inspected, last_of, FrontPasses, Front}
use Rattle.report.specs.declared.Report.{Report}

-- a refusal of this number and place
abbrev refusal : ℕ → ℕ → order.Refusal
refusal n p = record { number = n; place = p }

-- ---- what the parts answer

checked_refused : (o : Option order.Refusal) (v : ℕ) (r : order.Refusal) → Err r ≡ checked_of o v → o ≡ some r
checked_refused none v r e = let z : ◌≡◌ {A = ℕ} 0 1 = cc in absurd (omega arith)
checked_refused (some x) v r e = ap some (cc)

checked_sum : (o : Option order.Refusal) (v w : ℕ) → Ok w ≡ checked_of o v → (o ≡ none) × (w ≡ v)
checked_sum none v w e = (refl, (cc))
checked_sum (some r) v w e = let z : ◌≡◌ {A = ℕ} 0 1 = cc in absurd (omega arith)

pub card_refused : (b : List ℕ) (r : order.Refusal) → Err r ≡ card_check b → first (field_checks 1 table (codes_of b)) ≡ some r
unfolding card_check
card_refused b r is = checked_refused (first (field_checks 1 table (codes_of b))) (checksum (codes_of b)) r is

pub card_sum : (b : List ℕ) (w : ℕ) → Ok w ≡ card_check b → (first (field_checks 1 table (codes_of b)) ≡ none) × (w ≡ checksum (codes_of b))
unfolding card_check
card_sum b w is = checked_sum (first (field_checks 1 table (codes_of b))) (checksum (codes_of b)) w is

-- the cursor behind the card
abbrev pub behind_card : Cursor
behind_card = record { at = 75; packed = true }

module _ (marks : FlagTable) (b : List ℕ) (i n : ℕ) (count : n ≡ count_of b) where
  whole : walked marks b behind_card n i ≡ walked_by (first (attachment_checks marks (count_of b) 1 [] (tail_of b))) (tail_at 75 i (attachments_of (count_of b) (tail_of b)))
  unfolding walked
  whole = ap (λ (m : ℕ). walked marks b behind_card m i) count

  pub tail_refused : (r : order.Refusal) → Err r ≡ walked marks b behind_card n i → first (attachment_checks marks (count_of b) 1 [] (tail_of b)) ≡ some r
  tail_refused r is = walked_refused _ _ r (sym (is ∙ whole))

  pub tail_ended : (t : Tail) → Ok t ≡ walked marks b behind_card n i
      → (first (attachment_checks marks (count_of b) 1 [] (tail_of b)) ≡ none) × (t ≡ tail_at 75 i (attachments_of (count_of b) (tail_of b)))
  tail_ended t is = walked_ended _ _ t (sym (is ∙ whole))

  pub report_is : (t : Tail) → t ≡ tail_at 75 i (attachments_of (count_of b) (tail_of b))
      → record { count = n; end = t.end; held = t.held } ≡ report_of b i (attachments_of (count_of b) (tail_of b))
  report_is t et = λ j. record { count = count j; end = (et j).end; held = (et j).held }

-- the attachments end within the buffer, and within the largest report
pub end_within : (marks : FlagTable) (b : List ℕ) → Bytes b → 38 ≤ length b → first (attachment_checks marks (count_of b) 1 [] (tail_of b)) ≡ none
    → (75 + tail_length b ≤ 2 * length b) × (75 + tail_length b ≤ 3706)
end_within marks b bs long e =
    let w = checks_fine marks (count_of b) 1 [] (tail_of b) (drop_below 16 75 (nibbles b) (nibbles_lt b bs)) e in
    let tail = tail_nibbles (attachments_of (count_of b) (tail_of b)) in (
      omega (arith, ap length w.starts, length-append tail (drop (length tail) (tail_of b)), length-drop 75 (nibbles b), length-nibbles b),
      omega (arith, fine_size marks w.fine),
    )

-- ---- the front: the length, the fields, the checksum

module _ (b : List ℕ) where
  pub front_short : length b < 38 → Front b (Err (Short 0))
  unfolding report_checks
  front_short h marks = first_fits _ _ (lt-ltb (length b) 38 h)

  module _ (long : 38 ≤ length b) where
    pub front_field : (e : Refusal) → first (field_checks 1 table (codes_of b)) ≡ some (refusal_of e) → Front b (Err e)
    unfolding report_checks
    front_field e q marks = first_skip _ _ (le-ltb (length b) 38 long) ∙ first-append_some _ _ (refusal_of e) q

    module _ (fields : first (field_checks 1 table (codes_of b)) ≡ none) where
      pub front_sum : (checksum_of b ≡ checksum (codes_of b) → ⊥) → Front b (Err Checksum)
      unfolding report_checks
      front_sum h marks =
          first_skip _ _ (le-ltb (length b) 38 long) ∙ first-append_skip _ _ fields ∙ first_fits _ _ (ap not (ne_eqb (checksum_of b) (checksum (codes_of b)) h))

-- ---- the outcomes

by_cond : (t : Bool) (q : Report) → inspected_by (cond t (some (refusal 7 0)) none) q ≡ cond t (Err (refusal 7 0)) (Ok q)
by_cond true q = refl
by_cond false q = refl

module _ (marks : FlagTable) (b : List ℕ) (i : ℕ) where
  by_first : (o : Option order.Refusal) → first (report_checks marks b) ≡ o → inspected_by o (report_of b i (attachments_of (count_of b) (tail_of b))) ≡ inspected marks b i
  unfolding inspected
  by_first o e = ap (λ (x : Option order.Refusal). inspected_by x (report_of b i (attachments_of (count_of b) (tail_of b)))) (sym e)

  pub front_refused : (e : Refusal) → Front b (Err e) → Err (refusal_of e) ≡ inspected marks b i
  front_refused e f = by_first (some (refusal_of e)) (f marks)

  module _ (f : FrontPasses b) where
    behind_front : (o : Option order.Refusal)
        → first (attachment_checks marks (count_of b) 1 [] (tail_of b) ++ (check (odd (75 + tail_length b) && not (eqb (get_or (tail_of b) (tail_length b) 0) 0)) 7 0 ∷ [])) ≡ o
        → first (report_checks marks b) ≡ o
    unfolding report_checks
    behind_front o e =
        first_skip _ _ (le-ltb (length b) 38 f.long) ∙ first-append_skip _ _ f.fields
        ∙ first_skip _ _ (ap not (eq-eqb (checksum_of b) (checksum (codes_of b)) f.sum)) ∙ e

    pub attachment_refused : (r : order.Refusal) → first (attachment_checks marks (count_of b) 1 [] (tail_of b)) ≡ some r → Err r ≡ inspected marks b i
    attachment_refused r e = by_first (some r) (behind_front (some r) (first-append_some _ _ r e))

    -- the last nibble decides
    pub last_decides : first (attachment_checks marks (count_of b) 1 [] (tail_of b)) ≡ none
        → (r : Report) → r ≡ report_of b i (attachments_of (count_of b) (tail_of b))
        → last_of b r ≡ inspected marks b i
    unfolding first
    last_decides attachments r er =
        let at : get_or (nibbles b) (75 + tail_length b) 0 ≡ get_or (tail_of b) (tail_length b) 0 = sym (get_or-drop 75 (nibbles b) (tail_length b) 0) in
        let test = odd (75 + tail_length b) && not (eqb (get_or (tail_of b) (tail_length b) 0) 0) in
        rw (er, at)
        (sym (by_cond test (report_of b i (attachments_of (count_of b) (tail_of b))))
        ∙ by_first (cond test (some (refusal 7 0)) none)
        (behind_front (cond test (some (refusal 7 0)) none) (first-append_skip (attachment_checks marks (count_of b) 1 [] (tail_of b)) (check test 7 0 ∷ []) attachments)))

    -- a card alone: AC and the last nibble are 0
    pub card_alone : Bytes b → get_or b 37 0 ≡ 0 → Ok (record { count = 0; end = 75; held = None }) ≡ inspected marks b i
    unfolding attachment_checks attachments_of tail_nibbles stands first
    card_alone bs e =
        let none-stand : count_of b ≡ 0 = sym (count_at b bs f.long) ∙ ap (λ (x : ℕ). x / 16) e in
        let low : get_or (nibbles b) 75 0 ≡ 0 = get_d_low b 37 ∙ ap (λ (x : ℕ). x % 16) e in
        rw (low) at (last_decides (rw none-stand refl) (record { count = 0; end = 75; held = None }) (rw none-stand refl))

-- ---- what an outcome says

by_refused : (o : Option order.Refusal) (q : Report) (r : order.Refusal) → inspected_by o q ≡ Err r → o ≡ some r
by_refused none q r e = let z : ◌≡◌ {A = ℕ} 0 1 = cc in absurd (omega arith)
by_refused (some x) q r e = ap some (cc)

by_fine : (o : Option order.Refusal) (q r : Report) → inspected_by o q ≡ Ok r → (o ≡ none) × (r ≡ q)
by_fine none q r e = (refl, (cc))
by_fine (some x) q r e = let z : ◌≡◌ {A = ℕ} 0 1 = cc in absurd (omega arith)

pub judge_refused : (marks : FlagTable) (b : List ℕ) (i : ℕ) (r : order.Refusal) → Err r ≡ inspected marks b i → judge marks b ≡ refused r
unfolding inspected judge
judge_refused marks b i r is =
    ap (λ (o : Option order.Refusal). verdict o (observation_of b))
    (by_refused (first (report_checks marks b)) (report_of b i (attachments_of (count_of b) (tail_of b))) r (sym is))

pub judge_fine : (marks : FlagTable) (b : List ℕ) (i : ℕ) (r : Report) → Ok r ≡ inspected marks b i
    → (judge marks b ≡ accepted (observation_of b)) × (r ≡ report_of b i (observation_of b).attachments)
unfolding inspected judge observation_of
judge_fine marks b i r is =
    let f = by_fine (first (report_checks marks b)) (report_of b i (attachments_of (count_of b) (tail_of b))) r (sym is) in
    (ap (λ (o : Option order.Refusal). verdict o (observation_of b)) f.0, f.1)

-- the answer of judging, by outcome
module _ (marks : FlagTable) (b : List ℕ) (i : ℕ) where
  pub judged_refused : (r : order.Refusal) → Err r ≡ inspected marks b i → Err r ≡ judged_of (judge marks b)
  judged_refused r is = ap judged_of (sym (judge_refused marks b i r is))

  pub judged_fine : (r : Report) → Ok r ≡ inspected marks b i → Ok (r.end / 2 + r.end % 2) ≡ judged_of (judge marks b)
  judged_fine r is =
      let f = judge_fine marks b i r is in
      let end : r.end ≡ 75 + length (tail_nibbles (observation_of b).attachments) = ap (λ (q : Report). q.end) f.1 in
      let half : r.end / 2 + r.end % 2 ≡ size (observation_of b) = omega (arith, size_is (observation_of b)) in
      ap Ok half ∙ ap judged_of (sym f.0)
