-- What a fetch writes to its outputs, and the deck's set; each return of a fetch is the call's effect.
-- Assumes nothing.
use Prim.Native.Nat.{ℕ, ◌+◌, ◌-◌, ◌≤◌, ◌<◌, min}
use native.Mathlib.Omega.{arith}
use mathlib.Core.Path.{◌≡◌, refl, sym, ap, ap₂, ◌∙◌}
use mathlib.Core.Bool.{Bool, true, false, cond, not, ◌||◌}
use mathlib.Core.List.{List, [], ◌∷◌, ◌++◌, map}
use mathlib.Core.Option.{none}
use lib.ListN.{length, get_or, take, drop, length-map}
use lib.Dec.{ltb, leb, eqb}
use lib.IntN.{pos, sub_ℕ}
use borrow.Author.Tests.{leb-true, leb-false, ltb-false, lt-ltb, le-ltb, ne_eqb, eqb-false}
use Rattle.format.specs.Bits.{Bytes}
use Rattle.format.specs.Order.{first, between}
use Rattle.format.specs.Flags.{FlagTable}
use Rattle.format.specs.Nibbles.{nibbles}
use Rattle.format.specs.Field.{table, field_at, coded, scaled_of, entry_of}
use Rattle.numbers.specs.Words.{unsigned}
use Rattle.format.specs.ShipText.{Symbol, byte_of, origin_of, nibble_count, text_valid, read_text, DeckSet, unknown, ebcdic, ascii, set_of_source, set_of_number, deck_set, set_number}
use Rattle.format.specs.Report.{observation_of, codes_of, body_valid}
use Rattle.format.specs.Calls.{fetches, fetch, fetch_text, Quantity, counted, gives, outputs_of, writes, content_of, id_check}
use Rattle.format.specs.Calls.{stands_check, call_checks, overfull, over_each, value_at, Answer}
use Rattle.format.specs.Calls.{over as above}
use Rattle.format.specs.Buffer.{after, effect}
use Rattle.format.specs.Reply.{refusal}
use Rattle.format.specs.declared.Coded.{Coded}
use Rattle.format.specs.declared.Scaled.{Scaled}
use Rattle.laws.proofs.Sequences.{test_case}
use Rattle.laws.proofs.Fields.{table-length, entries_at}
use Rattle.laws.proofs.Order.{no_check, range_high, range_fine}
use Rattle.laws.proofs.AttachmentEdits.{content_fine}
use Rattle.laws.proofs.Effects.{fetch_done, fetch_short}
use Rattle.laws.proofs.Bounds.{content_low}
use Rattle.laws.proofs.TextCounts.{read_count}
use Rattle.std.specs.Prelude.{Some}
use Rattle.tail.specs.declared.Held.{Held}
use Rattle.report.specs.declared.Report.{Report}
use Rattle.report.specs.Found.{Found}
use Rattle.report.proofs.Found.{good, al_is, present, content_is, stands_passes}

-- ---- the deck's set of a source

or_true : (t : Bool) → t || true ≡ true
or_true true = refl
or_true false = refl

off : (t : Bool) → not t ≡ true → t ≡ false
off true e = absurd (omega (arith, ap (λ (x : Bool). cond {A = ℕ} x 1 0) e))
off false e = refl

module _ (n : ℕ) where
  run_one : 1 ≤ n → n ≤ 3 → ebcdic ≡ set_of_source n
  unfolding set_of_source
  run_one l h = rw (range_fine 1 3 n l h)

  run_two : 5 ≤ n → n ≤ 17 → ebcdic ≡ set_of_source n
  unfolding set_of_source
  run_two l h = rw (range_fine 5 17 n l h, or_true (between 1 3 n))

  run_three : 19 ≤ n → n ≤ 21 → ebcdic ≡ set_of_source n
  unfolding set_of_source
  run_three l h = rw (range_fine 19 21 n l h, or_true (between 5 17 n), or_true (between 1 3 n))

  pub source_high : 23 ≤ n → n ≤ 24 → ebcdic ≡ set_of_source n
  unfolding set_of_source
  source_high l h = rw (range_fine 23 24 n l h, or_true (between 19 21 n), or_true (between 5 17 n), or_true (between 1 3 n))

  pub source_low : 1 ≤ n → n ≤ 21 → (n ≡ 4 → ⊥) → (n ≡ 18 → ⊥) → ebcdic ≡ set_of_source n
  source_low l h a b =
      test_case (leb n 3) (λ q. run_one l (leb-true n 3 q))
      (λ q.
      let more : 3 < n = leb-false n 3 q in
      test_case (leb n 17) (λ p. run_two (omega arith) (leb-true n 17 p))
      (λ p. let beyond : 17 < n = leb-false n 17 p in run_three (omega arith) h))

  pub source_four : n ≡ 4 → ascii ≡ set_of_source n
  unfolding set_of_source
  source_four e = rw e

  pub source_eighteen : n ≡ 18 → ascii ≡ set_of_source n
  unfolding set_of_source
  source_eighteen e = rw e

  pub source_zero : n < 1 → unknown ≡ set_of_source n
  unfolding set_of_source
  source_zero h = let e : n ≡ 0 = omega arith in rw e

  pub source_between : 21 < n → n < 23 → unknown ≡ set_of_source n
  unfolding set_of_source
  source_between l h = let e : n ≡ 22 = omega arith in rw e

  pub source_beyond : 24 < n → unknown ≡ set_of_source n
  unfolding set_of_source
  source_beyond h =
      rw (
        off _ (range_high 1 3 n (omega arith)),
        off _ (range_high 5 17 n (omega arith)),
        off _ (range_high 19 21 n (omega arith)),
        off _ (range_high 23 24 n h),
        ne_eqb n 4 (omega arith),
        ne_eqb n 18 (omega arith),
      )

-- a source ID is not negative
above_zero : (k : ℕ) → (k ≡ 0 → ⊥) → sub_ℕ k 1 ≡ pos (k - 1)
above_zero k h = rw (le-ltb k 1 (omega arith))

source_number : (k : ℕ) → (k ≡ 0 → ⊥) → set_of_source (unsigned (scaled_of (field_at 10) (coded k)).0) ≡ set_of_number (scaled_of (field_at 10) (coded k)).0
unfolding scaled_of field_at table unsigned set_of_number
source_number k h = rw (above_zero k h)

-- ---- fetch

module _ (marks : FlagTable) {b : List ℕ} {i : ℕ} {r : Report} (bs : Bytes b) (f : Found marks b i r) (h : Held) (stands : r.held ≡ Some h) where
  module _ (known : not (between 1 15 i) ≡ false) (out : List ℕ) where
    abbrev stored : List ℕ
    stored = content_of i (observation_of b).attachments

    passes : first (id_check i ∷ stands_check (observation_of b) i ∷ []) ≡ none
    passes = no_check (id_check i) _ known (stands_passes marks bs f h stands)

    pub output_short : length out < h.al → after (refusal 13 0) b (out ∷ []) ≡ effect marks b (fetches (fetch i out))
    unfolding call_checks outputs_of writes overfull
    output_short e = fetch_short marks b (observation_of b) bs f.judged (fetch i out) passes (rw (lt-ltb (length out) (length stored) (omega (arith, al_is marks bs f h stands))))

    pub content_fetched : (o : List ℕ) → h.al ≤ length out → o ≡ take h.al (drop (h.place + 3) (nibbles b)) ++ drop h.al out
        → after (Answer.accepted (counted Quantity.count h.al ∷ [])) b (o ∷ []) ≡ effect marks b (fetches (fetch i out))
    unfolding call_checks outputs_of writes gives overfull over_each
    content_fetched o fits e =
        ap (λ (n : ℕ). after (Answer.accepted (counted Quantity.count n ∷ [])) b (o ∷ [])) (al_is marks bs f h stands)
        ∙ fetch_done marks b (observation_of b) bs f.judged (fetch i out) passes (o ∷ []) (rw (le-ltb (length out) (length stored) (omega (arith, al_is marks bs f h stands))))
        (ap (λ (l : List ℕ). l ∷ []) (e ∙ ap₂ (λ (l : List ℕ) (n : ℕ). l ++ drop n out) (content_is marks bs f h stands) (al_is marks bs f h stands)))

-- ---- fetch text

pub within_both : (x a b m : ℕ) → m ≡ min a b → x ≤ m → (x ≤ a) × (x ≤ b)
within_both x a b m e h = (omega arith, omega arith)

module _ (marks : FlagTable) {b : List ℕ} {r : Report} (bs : Bytes b) (f : Found marks b 4 r) (h : Held) (stands : r.held ≡ Some h) where
  abbrev body : List ℕ
  body = take h.al (drop (h.place + 3) (nibbles b))

  body_is : take h.al (drop (h.place + 3) (nibbles b)) ≡ content_of 4 (observation_of b).attachments
  body_is = content_is marks bs f h stands

  pub body_valid_lem : text_valid (take h.al (drop (h.place + 3) (nibbles b))) ≡ true
  unfolding body_valid
  body_valid_lem = ap text_valid body_is ∙ (content_fine marks 4 (good marks bs f).fine (present marks bs f h stands)).valid

  pub body_byte : h.al < 256
  body_byte = omega (arith, al_is marks bs f, (content_low marks 4 (good marks bs f).fine).0)

  -- t: whether the symbols fit in both outputs
  module _ (out origins : List ℕ) (t : Bool) (e : t ≡ leb (length (read_text (take h.al (drop (h.place + 3) (nibbles b))))) (min (length out) (length origins))) where
    abbrev xs : List Symbol
    xs = read_text (content_of 4 (observation_of b).attachments)

    same_count : length (read_text body) ≡ length xs
    same_count = ap (λ (l : List ℕ). length (read_text l)) body_is

    -- 13 by either output
    over : min (length out) (length origins) < length xs → overfull (map byte_of xs ∷ map origin_of xs ∷ []) (out ∷ origins ∷ []) ≡ true
    unfolding overfull
    over short =
        test_case (ltb (length out) (length xs)) (λ q. rw (length-map xs byte_of, q))
        (λ q.
        let few : length origins < length xs = omega (arith, ltb-false (length out) (length xs) q) in
        rw (length-map xs byte_of, length-map xs origin_of, q, lt-ltb (length origins) (length xs) few))

    under : length xs ≤ min (length out) (length origins) → overfull (map byte_of xs ∷ map origin_of xs ∷ []) (out ∷ origins ∷ []) ≡ false
    unfolding overfull
    under fits =
        rw (length-map xs byte_of, length-map xs origin_of, le-ltb (length out) (length xs) (omega arith), le-ltb (length origins) (length xs) (omega arith))

    pub text_short : t ≡ false → after (refusal 13 0) b (out ∷ origins ∷ []) ≡ effect marks b (fetches (fetch_text out origins))
    unfolding call_checks outputs_of writes
    text_short k =
        let m = min (length out) (length origins) in
        fetch_short marks b (observation_of b) bs f.judged (fetch_text out origins) (stands_passes marks bs f h stands)
        (over (omega (arith, leb-false (length (read_text body)) m (sym e ∙ k), same_count)))

    pub text_fetched : (o p : List ℕ) (n d : ℕ) → t ≡ true → (let ns = take h.al (drop (h.place + 3) (nibbles b)) in
        (o ≡ above (map byte_of (read_text ns)) out) × (p ≡ above (map origin_of (read_text ns)) origins) × (n ≡ length (read_text ns)))
        → d ≡ set_number (deck_set (value_at (observation_of b) 10))
        → after (Answer.accepted (counted Quantity.count n ∷ counted Quantity.deck d ∷ counted Quantity.nibbles h.al ∷ [])) b (o ∷ p ∷ [])
        ≡ effect marks b (fetches (fetch_text out origins))
    unfolding call_checks outputs_of writes gives over_each
    text_fetched o p n d k g q =
        let m = min (length out) (length origins) in
        let taken : h.al ≡ nibble_count xs = al_is marks bs f h stands ∙ sym (read_count marks (observation_of b) (good marks bs f)) in
        ap₂ (λ (x y : ℕ). after (Answer.accepted (counted Quantity.count x ∷ counted Quantity.deck d ∷ counted Quantity.nibbles y ∷ [])) b (o ∷ p ∷ [])) (g.2 ∙ same_count) taken
        ∙ ap (λ (y : ℕ). after (Answer.accepted (counted Quantity.count (length xs) ∷ counted Quantity.deck y ∷ counted Quantity.nibbles (nibble_count xs) ∷ [])) b (o ∷ p ∷ [])) q
        ∙ fetch_done marks b (observation_of b) bs f.judged (fetch_text out origins) (stands_passes marks bs f h stands) (o ∷ p ∷ [])
        (under (omega (arith, leb-true (length (read_text body)) m (sym e ∙ k), same_count)))
        (ap₂ (λ (x y : List ℕ). x ∷ y ∷ [])
        (g.0 ∙ ap (λ (l : List ℕ). above (map byte_of (read_text l)) out) body_is)
        (g.1 ∙ ap (λ (l : List ℕ). above (map origin_of (read_text l)) origins) body_is))

-- ---- the deck's set

sid_at : (b : List ℕ) → value_at (observation_of b) 10 ≡ entry_of (field_at 10) (coded (get_or (codes_of b) 9 0))
unfolding observation_of field_at
sid_at b = entries_at table (codes_of b) 9 (omega (arith, table-length))

module _ (b : List ℕ) (c : Coded) (e : c.0 ≡ get_or (codes_of b) 9 0) where
  sid_is : value_at (observation_of b) 10 ≡ entry_of (field_at 10) c
  sid_is = sid_at b ∙ ap (λ (n : ℕ). entry_of (field_at 10) (coded n)) (sym e)

  module _ (t : Bool) (is : t ≡ eqb c.0 0) where
    pub no_source : t ≡ true → unknown ≡ deck_set (value_at (observation_of b) 10)
    unfolding entry_of deck_set
    no_source h = rw (sid_is, ← is, h)

    pub a_source : t ≡ false → (v : Scaled) (n : ℕ) (d : DeckSet) → v ≡ scaled_of (field_at 10) c → n ≡ unsigned v.0 → d ≡ set_of_source n → d ≡ deck_set (value_at (observation_of b) 10)
    unfolding entry_of deck_set
    a_source h v n d x y z =
        rw (sid_is, ← is, h) (z ∙ ap set_of_source (y ∙ ap (λ (s : Scaled). unsigned s.0) x) ∙ source_number c.0 (eqb-false c.0 0 (sym is ∙ h)))
