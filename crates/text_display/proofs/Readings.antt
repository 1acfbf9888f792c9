-- A reader read to its end: what was given, and what is left.
-- Assumes nothing.
use Prim.Native.Nat.{ℕ, zero, suc, ◌+◌, ◌-◌, ◌≤◌, ◌<◌, ◌^◌}
use native.Mathlib.Omega.{arith}
use mathlib.Core.Path.{◌≡◌, refl, sym, ap, ap₂, subst, ◌∙◌}
use mathlib.Core.Bool.{Bool, true, false, not, ◌||◌}
use mathlib.Core.List.{List, [], ◌∷◌, ◌++◌, map, head-eq_of_cons-eq, tail-eq_of_cons-eq}
use mathlib.Core.Option as math
use mathlib.Core.Option.{none, some}
use mathlib.Core.Logic.{◌⊎◌, inl, inr}
use lib.Dec.{ltb}
use lib.ListN.{length, take, drop, length-map, length-take}
use borrow.Author.Tests.{lt-ltb, le-ltb}
use denote.Ref.{Bor}
use Rattle.std.specs.Prelude.{Option, Some, None, unwrap_or, Ok, Err}
use Rattle.format.specs.Bits.{Bytes}
use Rattle.format.specs.Order as order
use Rattle.format.specs.Order.{first}
use Rattle.format.specs.Flags.{FlagTable}
use Rattle.format.specs.Nibbles.{nibbles}
use Rattle.format.specs.ShipText.{Symbol, byte_of, origin_of, nibble_count, deck_set, set_number}
use Rattle.format.specs.Report.{Verdict, verdict, observation_of, report_checks, judge}
use Rattle.format.specs.Calls.{fetches, fetch_text, value_at, ship_text, content_of, stands, gives}
use Rattle.format.specs.Calls.{outputs_of, writes, overfull, over_each, stands_check, call_checks, Answer, Quantity, counted, over}
use Rattle.format.specs.Buffer.{after, effect}
use Rattle.format.specs.Display.{opening_on, opening_refusal, displayed_by, displayed, handed}
use Rattle.format.specs.Reply.{refusal_of, refusal, answer_of, set_of}
use Rattle.format.specs.declared.Refusal.{Refusal}
use Rattle.format.specs.declared.DeckSet.{DeckSet}
use Rattle.format.specs.declared.Outcome.TheVariants.{Text}
use Rattle.laws.proofs.Sequences.{test_case}
use Rattle.laws.proofs.Order.{first-nil, first_fits, no_check}
use Rattle.laws.proofs.Bounds.{content_low}
use Rattle.laws.proofs.ShipText.{read_text_length}
use Rattle.laws.proofs.TextCounts.{read_count}
use Rattle.laws.proofs.Report.{judged}
use Rattle.laws.proofs.Effects.{effect_refused, call_refuses, fetch_done, fetch_short}
use Rattle.report.specs.Found.{Accepted}
use Rattle.text_reader.specs.declared.Code.{Code}
use Rattle.text_reader.specs.declared.Origin.TheVariants.{Plain}
use Rattle.text_reader.specs.Codes.{code_in}
use Rattle.text_reader.proofs.Reading.{none_some, byte_in, origin_in}
use Rattle.text_display.specs.declared.Opening.{Opening}
use Rattle.text_display.specs.declared.Reader.{Reader}
use Rattle.text_display.specs.declared.Step.{Step}
use Rattle.text_display.specs.Steps.{step, step_by, step_at, step_symbol, Gives, spaces_left, codes_left, steps_left, refusal_in, Opens}
use Rattle.text_display.specs.Reading.{byte_given, mark_given, Written}
use Rattle.text_display.proofs.Displays.{gives_none, gives_one, code_within}

-- ---- the steps that are left

abbrev pub left : List ℕ → ℕ → ℕ → ℕ → List Step
left b end at w = spaces_left w at ++ codes_left (end - at) b at end

-- of a reader that is opened
pub opened_left : (r : Reader) (b : Bor (List ℕ)) → r.report ≡ b → r.spaces ≡ 0 → steps_left r ≡ left b.now r.end r.at 0
opened_left r b e h = ap₂ (λ (x : Bor (List ℕ)) (w : ℕ). spaces_left w r.at ++ codes_left (r.end - r.at) x.now r.at r.end) e h

step_is : {s t : Step} → Some s ≡ Some t → s ≡ t
step_is {s} e = ap (λ (o : Option Step). unwrap_or o s) e

module _ (b : List ℕ) (end : ℕ) where
  abbrev part : ℕ → List ℕ
  part at = take (end - at) (drop at (nibbles b))

  part_short : (at : ℕ) → length (part at) ≤ end - at
  part_short at = omega (arith, length-take (end - at) (drop at (nibbles b)))

  codes_none : (n at : ℕ) → code_in (part at) ≡ None → codes_left n b at end ≡ []
  unfolding codes_left
  codes_none zero at e = refl
  codes_none (suc n) at e = rw (e, codes_left) refl

  codes_some : (n at : ℕ) (c : Code) → code_in (part at) ≡ Some c
      → codes_left (suc n) b at end ≡ step c.byte c.origin (at + c.nibbles) (c.count - 1) ∷ spaces_left (c.count - 1) (at + c.nibbles) ++ codes_left n b (at + c.nibbles) end
  unfolding codes_left
  codes_some n at c e = rw (e, codes_left) refl

  -- a code is no shorter than a nibble, and lies before the end
  code_moves : (at : ℕ) (c : Code) → code_in (part at) ≡ Some c → (1 ≤ c.nibbles) × (c.nibbles ≤ end - at)
  code_moves at c e = let k = code_within (part at) c (sym e) in (k.1.0, omega (arith, k.0, part_short at))

  -- however many may be taken
  same_codes : (m n at : ℕ) → end - at ≤ m → end - at ≤ n → codes_left m b at end ≡ codes_left n b at end
  same_codes zero n at h k = go (code_in (part at)) refl
    where
      go : (o : Option Code) → code_in (part at) ≡ o → codes_left zero b at end ≡ codes_left n b at end
      go None e = codes_none zero at e ∙ sym (codes_none n at e)
      go (Some c) e = let l = code_moves at c e in absurd (omega (arith, l.0, l.1, h))
  same_codes (suc m) zero at h k = go (code_in (part at)) refl
    where
      go : (o : Option Code) → code_in (part at) ≡ o → codes_left (suc m) b at end ≡ codes_left zero b at end
      go None e = codes_none (suc m) at e ∙ sym (codes_none zero at e)
      go (Some c) e = let l = code_moves at c e in absurd (omega (arith, l.0, l.1, k))
  same_codes (suc m) (suc n) at h k = go (λ at'. same_codes m n at') (code_in (part at)) refl
    where
      go : ((at' : ℕ) → end - at' ≤ m → end - at' ≤ n → codes_left m b at' end ≡ codes_left n b at' end)
          → (o : Option Code) → code_in (part at) ≡ o → codes_left (suc m) b at end ≡ codes_left (suc n) b at end
      go more None e = codes_none (suc m) at e ∙ sym (codes_none (suc n) at e)
      go more (Some c) e =
          let l = code_moves at c e in
          let one = step c.byte c.origin (at + c.nibbles) (c.count - 1) in
          codes_some m at c e
          ∙ ap (λ (r : List Step). one ∷ spaces_left one.spaces one.at ++ r) (more one.at (omega (arith, l.0, l.1, h)) (omega (arith, l.0, l.1, k)))
          ∙ sym (codes_some n at c e)

  -- what a call of a reader finds and leaves
  pub left_none : (at w : ℕ) → step_at b at end w ≡ None → left b end at w ≡ []
  unfolding step_at
  left_none at (suc w) = rw (lt-ltb 0 (suc w) (omega arith)) (λ (e : Some (step 32 Plain at (suc w - 1)) ≡ None). absurd (none_some (sym e)))
  left_none at zero = by_code (code_in (part at)) refl
    where
      by_code : (o : Option Code) → code_in (part at) ≡ o → step_by at (code_in (part at)) ≡ None → left b end at 0 ≡ []
      by_code None f e = codes_none (end - at) at f
      by_code (Some c) f e = absurd (none_some (sym e ∙ ap (step_by at) f))

  pub left_some : (at w : ℕ) (s : Step) → step_at b at end w ≡ Some s → left b end at w ≡ s ∷ left b end s.at s.spaces
  unfolding step_at
  left_some at (suc w) s =
      let z : suc w - 1 ≡ w = omega arith in
      rw (lt-ltb 0 (suc w) (omega arith), z)
      (λ (e : Some (step 32 Plain at w) ≡ Some s). subst (λ (t : Step). left b end at (suc w) ≡ t ∷ left b end t.at t.spaces) (step_is e) refl)
  left_some at zero s = by_code (code_in (part at)) refl
    where
      by_code : (o : Option Code) → code_in (part at) ≡ o → step_by at (code_in (part at)) ≡ Some s → left b end at 0 ≡ s ∷ left b end s.at s.spaces
      by_code None f e = absurd (none_some (sym (ap (step_by at) f) ∙ e))
      by_code (Some c) f e =
          let l = code_moves at c f in
          let one = step c.byte c.origin (at + c.nibbles) (c.count - 1) in
          let n = end - at - 1 in
          let more : end - at ≡ suc n = omega (arith, l.0, l.1) in
          let all : left b end at 0 ≡ one ∷ left b end one.at one.spaces =
          ap (λ (m : ℕ). codes_left m b at end) more ∙ codes_some n at c f
          ∙ ap (λ (r : List Step). one ∷ spaces_left one.spaces one.at ++ r) (same_codes n (end - one.at) one.at (omega (arith, l.0, l.1)) (omega arith)) in
          subst (λ (t : Step). left b end at 0 ≡ t ∷ left b end t.at t.spaces) (step_is (sym (ap (step_by at) f) ∙ e)) all

  pub left_fewer : (at w : ℕ) (s : Step) → step_at b at end w ≡ Some s → length (left b end s.at s.spaces) < length (left b end at w)
  left_fewer at w s e = omega (arith, ap length (left_some at w s e))

  -- they give their symbols, and then the end
  steps_give : (l : List Step) (at w : ℕ) → left b end at w ≡ l → Gives b at end w (map step_symbol l)
  steps_give [] at w h = go (step_at b at end w) refl
    where
      go : (o : Option Step) → step_at b at end w ≡ o → Gives b at end w []
      go None e = gives_none b end at w e
      go (Some s) e = absurd (omega (arith, ap length h, ap length (left_some at w s e)))
  steps_give (x ∷ l) at w h = go (λ s. steps_give l s.at s.spaces) (step_at b at end w) refl
    where
      go : ((s : Step) → left b end s.at s.spaces ≡ l → Gives b s.at end s.spaces (map step_symbol l))
          → (o : Option Step) → step_at b at end w ≡ o → Gives b at end w (map step_symbol (x ∷ l))
      go more None e = absurd (omega (arith, ap length h, ap length (left_none at w e)))
      go more (Some s) e =
          let same : s ∷ left b end s.at s.spaces ≡ x ∷ l = sym (left_some at w s e) ∙ h in
          let head : s ≡ x = head-eq_of_cons-eq same in
          let tail : left b end s.at s.spaces ≡ l = tail-eq_of_cons-eq same in
          subst (λ (y : Step). Gives b at end w (step_symbol y ∷ map step_symbol l)) head (gives_one b end at w s (map step_symbol l) e (more s tail))

-- ---- what a reader gives

or_true : (t : Bool) → t || (true || false) ≡ true
or_true true = refl
or_true false = refl

some_same : {A : Type 0} {x y : A} → some x ≡ some y → x ≡ y
some_same e = cc

-- the symbols that are handed out are one list
handed_same : (xs ys : List Symbol) → ((n : ℕ) → handed xs n ≡ handed ys n) → xs ≡ ys
unfolding handed
handed_same [] [] h = refl
handed_same [] (y ∷ ys) h = let q = h 0 in let z : ◌≡◌ {A = ℕ} 0 1 = cc in absurd (omega arith)
handed_same (x ∷ xs) [] h = let q = h 0 in let z : ◌≡◌ {A = ℕ} 0 1 = cc in absurd (omega arith)
handed_same (x ∷ xs) (y ∷ ys) h = ap₂ ◌∷◌ (some_same (h 0)) (handed_same xs ys (λ n. h (suc n)))

gives_same : (b : List ℕ) (at end w : ℕ) (xs ys : List Symbol) → Gives b at end w xs → Gives b at end w ys → ys ≡ xs
gives_same b at end w xs ys g h = handed_same ys xs (λ n. sym (h n) ∙ g n)

pub left_symbols : (b : List ℕ) (at end w : ℕ) (xs : List Symbol) → Gives b at end w xs → map step_symbol (left b end at w) ≡ xs
left_symbols b at end w xs g = gives_same b at end w xs _ g (steps_give b end (left b end at w) at w refl)

bytes_shown : (xs : List Step) → map byte_given xs ≡ map byte_of (map step_symbol xs)
bytes_shown [] = refl
bytes_shown (s ∷ xs) = ap₂ ◌∷◌ (sym (byte_in s.byte _)) (bytes_shown xs)

marks_shown : (xs : List Step) → map mark_given xs ≡ map origin_of (map step_symbol xs)
marks_shown [] = refl
marks_shown (s ∷ xs) = ap₂ ◌∷◌ (sym (origin_in s.byte s.origin)) (marks_shown xs)

pub written_symbols : (steps : List Step) (xs : List Symbol) (out origins out' origins' : List ℕ) → map step_symbol steps ≡ xs → Written steps out origins out' origins'
    → (out' ≡ over (map byte_of xs) out) × (origins' ≡ over (map origin_of xs) origins)
written_symbols steps xs out origins out' origins' e w = (
  w.0 ∙ ap (λ (l : List ℕ). over l out) (bytes_shown steps ∙ ap (map byte_of) e),
  w.1 ∙ ap (λ (l : List ℕ). over l origins) (marks_shown steps ∙ ap (map origin_of) e),
)

-- ---- the fetch by a reader

-- the report is refused, or id 4 does not stand, or it does
data Cases (marks : FlagTable) (b : List ℕ) : Type 0 where
  a_refusal : (r : order.Refusal) → judge marks b ≡ Verdict.refused r → Cases marks b
  no_text : Accepted marks b → stands 4 (observation_of b).attachments ≡ false → Cases marks b
  a_text : Accepted marks b → stands 4 (observation_of b).attachments ≡ true → Cases marks b

cases : (marks : FlagTable) (b : List ℕ) → Cases marks b
unfolding judge
cases marks b = go (first (report_checks marks b)) refl
  where
    go : (o : math.Option order.Refusal) → first (report_checks marks b) ≡ o → Cases marks b
    go (some r) q = a_refusal r (ap (λ (x : math.Option order.Refusal). verdict x (observation_of b)) q)
    go none q =
        let j = ap (λ (x : math.Option order.Refusal). verdict x (observation_of b)) q in
        test_case (stands 4 (observation_of b).attachments) (λ e. a_text j e) (λ e. no_text j e)

module _ (marks : FlagTable) (b : List ℕ) (o : Opening) (opens : Opens marks b o) where
  -- what opening answers, by the case
  refusal_case : (r : order.Refusal) → judge marks b ≡ Verdict.refused r → opening_refusal marks b ≡ some r
  unfolding opening_refusal
  refusal_case r j = ap (opening_on marks) j

  missing_case : Accepted marks b → stands 4 (observation_of b).attachments ≡ false → opening_refusal marks b ≡ some (record { number = 11; place = 0 })
  unfolding opening_refusal call_checks
  missing_case j e = ap (opening_on marks) j ∙ first_fits (stands_check (observation_of b) 4) [] (ap not e)

  text_case : Accepted marks b → stands 4 (observation_of b).attachments ≡ true → opening_refusal marks b ≡ none
  unfolding opening_refusal call_checks
  text_case j e = ap (opening_on marks) j ∙ no_check (stands_check (observation_of b) 4) [] (ap not e) first-nil

  pub told_none : o.refusal ≡ None → opening_refusal marks b ≡ none
  told_none h = sym opens.refusal ∙ ap refusal_in h

  pub told_some : (r : Refusal) → o.refusal ≡ Some r → opening_refusal marks b ≡ some (refusal_of r)
  told_some r h = sym opens.refusal ∙ ap refusal_in h

  module _ (bs : Bytes b) (out origins : List ℕ) where
    pub opening_refused : (r : Refusal) → o.refusal ≡ Some r → after (answer_of (Err r)) b (out ∷ origins ∷ []) ≡ effect marks b (fetches (fetch_text out origins))
    unfolding outputs_of call_checks
    opening_refused r h = go (cases marks b)
      where
        told : (q : order.Refusal) → opening_refusal marks b ≡ some q → after (Answer.refused q) b (out ∷ origins ∷ []) ≡ effect marks b (fetches (fetch_text out origins))
            → after (answer_of (Err r)) b (out ∷ origins ∷ []) ≡ effect marks b (fetches (fetch_text out origins))
        told q e f =
            let same : refusal_of r ≡ q = some_same (sym (told_some r h) ∙ e) in
            ap (λ (x : order.Refusal). after (Answer.refused x) b (out ∷ origins ∷ [])) same ∙ f

        go : Cases marks b → after (answer_of (Err r)) b (out ∷ origins ∷ []) ≡ effect marks b (fetches (fetch_text out origins))
        go (a_refusal q j) = told q (refusal_case q j) (effect_refused marks b q (fetches (fetch_text out origins)) j)
        go (no_text j e) =
            told (record { number = 11; place = 0 }) (missing_case j e)
            (call_refuses marks b (observation_of b) (fetches (fetch_text out origins)) bs j [] (stands_check (observation_of b) 4) [] refl first-nil (ap not e))
        go (a_text j e) =
            let q = sym (told_some r h) ∙ text_case j e in
            let z : ◌≡◌ {A = ℕ} 0 1 = cc in absurd (omega arith)

  -- not refused
  pub record Open : Type 0 where
    pub report : Accepted marks b
    pub text : stands 4 (observation_of b).attachments ≡ true
    pub gives : Gives b o.at o.end 0 (ship_text (observation_of b))
    pub few : length (ship_text (observation_of b)) ≤ 2295
    pub apart : o.end ≡ o.at + nibble_count (ship_text (observation_of b))
    pub byte : nibble_count (ship_text (observation_of b)) < 256

  pub opening_fine : Bytes b → o.refusal ≡ None → Open
  unfolding displayed
  opening_fine bs h = go (cases marks b)
    where
      refused : (r : order.Refusal) → opening_refusal marks b ≡ some r → Open
      refused r e = let q = sym e ∙ told_none h in let z : ◌≡◌ {A = ℕ} 0 1 = cc in absurd (omega arith)

      go : Cases marks b → Open
      go (a_refusal r j) = refused r (refusal_case r j)
      go (no_text j e) = refused (record { number = 11; place = 0 }) (missing_case j e)
      go (a_text j e) =
          let g = (judged marks b (observation_of b) bs j).good in
          let low = (content_low marks 4 g.fine).0 in
          record {
            report = j;
            text = e;
            gives = subst (λ (r : math.Option order.Refusal). Gives b o.at o.end 0 (displayed_by r (ship_text (observation_of b)))) (text_case j e) opens.gives;
            few = omega (arith, read_text_length (content_of 4 (observation_of b).attachments));
            apart = subst (λ (r : math.Option order.Refusal). o.end ≡ o.at + nibble_count (displayed_by r (ship_text (observation_of b)))) (text_case j e) opens.apart;
            byte = omega (arith, read_count marks (observation_of b) g);
          }

  -- l: the steps that are left from the opening on
  module _ (bs : Bytes b) (out origins : List ℕ) (k : Open) (l : List Step) (is : l ≡ left b o.end o.at 0) where
    abbrev xs : List Symbol
    xs = ship_text (observation_of b)

    all_left : map step_symbol l ≡ xs
    all_left = ap (map step_symbol) is ∙ left_symbols b o.at o.end 0 xs k.gives

    all_counted : length l ≡ length xs
    all_counted = sym (length-map l step_symbol) ∙ ap length all_left

    pub all_fit : length l < 2 ^ 64
    all_fit = omega (arith, all_counted, k.few)

    passed : first (call_checks marks (observation_of b) (fetches (fetch_text out origins))) ≡ none
    unfolding call_checks
    passed = no_check (stands_check (observation_of b) 4) [] (ap not k.text) first-nil

    pub reading_short : (length out < length l) ⊎ (length origins < length l)
        → after (refusal 13 0) b (out ∷ origins ∷ []) ≡ effect marks b (fetches (fetch_text out origins))
    unfolding outputs_of writes overfull
    reading_short (inl h) =
        let n : length out < length xs = omega (arith, h, all_counted) in
        fetch_short marks b (observation_of b) bs k.report (fetch_text out origins) passed (rw (length-map xs byte_of, lt-ltb (length out) (length xs) n))
    reading_short (inr h) =
        let n : length origins < length xs = omega (arith, h, all_counted) in
        fetch_short marks b (observation_of b) bs k.report (fetch_text out origins) passed
        (rw (length-map xs byte_of, length-map xs origin_of, lt-ltb (length origins) (length xs) n) (or_true (ltb (length out) (length xs))))

    pub reading_done : (n : ℕ) (d : DeckSet) (out' origins' : List ℕ) → n ≡ length l → n ≤ length out → n ≤ length origins
        → Written l out origins out' origins' → set_of d ≡ deck_set (value_at (observation_of b) 10)
        → after (answer_of (Ok (Text n d (o.end - o.at)))) b (out' ∷ origins' ∷ []) ≡ effect marks b (fetches (fetch_text out origins))
    unfolding outputs_of writes gives overfull over_each
    reading_done n d out' origins' e f g w q =
        let t : o.end - o.at ≡ nibble_count xs = omega (arith, k.apart) in
        let v = written_symbols l xs out origins out' origins' all_left w in
        ap₂ (λ (n m : ℕ). after (answer_of (Ok (Text n d m))) b (out' ∷ origins' ∷ [])) (e ∙ all_counted) t
        ∙ ap (λ (y : ℕ). after (Answer.accepted (counted Quantity.count (length xs) ∷ counted Quantity.deck y ∷ counted Quantity.nibbles (nibble_count xs) ∷ [])) b (out' ∷ origins' ∷ []))
        (ap set_number q)
        ∙ fetch_done marks b (observation_of b) bs k.report (fetch_text out origins) passed (out' ∷ origins' ∷ [])
        (rw (
          length-map xs byte_of,
          length-map xs origin_of,
          le-ltb (length out) (length xs) (omega (arith, e, f, all_counted)),
          le-ltb (length origins) (length xs) (omega (arith, e, g, all_counted)),
        ))
        (ap₂ (λ (x y : List ℕ). x ∷ y ∷ []) v.0 v.1)
