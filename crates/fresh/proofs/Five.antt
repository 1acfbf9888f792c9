-- Fresh: five codes, the card that they make, and each outcome.
-- Assumes nothing.
use Prim.Native.Nat.{ℕ, ◌+◌, ◌%◌, ◌≤◌, ◌<◌, max}
use native.Mathlib.Omega.{arith}
use mathlib.Core.Path.{◌≡◌, refl, sym, ap, ◌∙◌}
use mathlib.Core.Bool.{Bool, true, false, cond, not}
use mathlib.Core.List.{List, [], ◌∷◌, ◌++◌}
use mathlib.Core.Option as logic
use mathlib.Core.Option.{none, some}
use lib.ListN.{length, drop, set, replicate, length-drop}
use borrow.Author.Tests.{lt-ltb, le-ltb}
use Rattle.format.specs.Order.{Refusal, first}
use Rattle.format.specs.Bits.{bits, bits_of, number, total, read_fields, Bytes}
use Rattle.format.specs.Field.{table, field_at, in_range, coded_of, code_of, codes, BOX10, YEAR, MONTH, X, Y}
use Rattle.format.specs.Nibbles.{nibbles, tail_nibbles}
use Rattle.format.specs.Observation.{Observation, widths, checksum, card_numbers, packing, size}
use Rattle.format.specs.Report.{numbers_of, tail_of}
use Rattle.format.specs.Calls.{Answer, over}
use Rattle.format.specs.Buffer.{zeros}
use Rattle.format.specs.Reply.{refusal, by_number}
use Rattle.std.specs.Prelude.{Option, Some, None, Ok, Err, ok_or}
use Rattle.format.specs.declared.Refusal.TheVariants.{Value}
use Rattle.format.specs.Whole.{wrote_by, fresh_observation, fresh_checks, fresh}
use Rattle.format.specs.declared.Coded.{Coded}
use Rattle.format.specs.declared.Scaled.{Scaled}
use Rattle.laws.proofs.Order.{first_skip, first_fits, first-nil}
use Rattle.laws.proofs.Fields.{coded_range}
use Rattle.laws.proofs.Nibbles.{nibbles-drop}
use Rattle.laws.proofs.Laid.{layout_is, over-layout}
use Rattle.laws.proofs.Whole.{fresh-size}
use Rattle.card.specs.Answers.{Carded, coding_of}
use Rattle.fresh.specs.declared.Codes.{Codes}
use Rattle.fresh.specs.Steps.{required_code, FiveFit, five_codes, five_numbers, cleared}

-- ---- the code of a value

abbrev nine : ℕ → Refusal
nine k = record { number = 9; place = k }

coded_or : (t : Bool) (c : Coded) (k : ℕ) → by_number (ok_or (cond t (Some c) None) (Value k)) ≡ cond t (Ok c) (Err (nine k))
coded_or true c k = refl
coded_or false c k = refl

module _ (k : ℕ) (v : Scaled) where
  pub required_is : (o : Option Coded) → o ≡ coding_of (field_at k) v → by_number (ok_or o (Value k)) ≡ required_code k v
  unfolding coding_of required_code
  required_is o e = ap (λ (x : Option Coded). by_number (ok_or x (Value k))) e ∙ coded_or (in_range (field_at k) v) (coded_of (field_at k) v) k

  pub code_refused : (r : Refusal) → Err r ≡ required_code k v → (in_range (field_at k) v ≡ false) × (r ≡ nine k)
  unfolding required_code
  code_refused r = go (in_range (field_at k) v)
    where
      go : (t : Bool) → Err r ≡ cond t (Ok (coded_of (field_at k) v)) (Err (nine k)) → (t ≡ false) × (r ≡ nine k)
      go true e = absurd (cc)
      go false e = (refl, cc)

  pub code_given : (c : Coded) → Ok c ≡ required_code k v → (in_range (field_at k) v ≡ true) × (c.0 ≡ (coded_of (field_at k) v).0) × (c.0 ≤ (field_at k).highest)
  unfolding required_code
  code_given c = go (in_range (field_at k) v) refl
    where
      go : (t : Bool) → in_range (field_at k) v ≡ t → Ok c ≡ cond t (Ok (coded_of (field_at k) v)) (Err (nine k))
          → (t ≡ true) × (c.0 ≡ (coded_of (field_at k) v).0) × (c.0 ≤ (field_at k).highest)
      go true i e = let q : c ≡ coded_of (field_at k) v = cc in (refl, ap (λ (x : Coded). x.0) q, rw q (coded_range (field_at k) v i).1)
      go false i e = absurd (cc)

-- ---- the card cleared

module _ (b : List ℕ) where
  cleared_numbers : numbers_of (cleared b) ≡ replicate {A = ℕ} 49 0
  unfolding cleared widths table read_fields bits_of bits number
  cleared_numbers = refl

  cleared-length : 38 ≤ length b → length (cleared b) ≡ length b
  unfolding cleared
  cleared-length h = omega (arith, length-drop 38 b)

  cleared-tail : tail_of (cleared b) ≡ 0 ∷ drop 76 (nibbles b)
  unfolding cleared nibbles
  cleared-tail = ap (λ (l : List ℕ). 0 ∷ l) (nibbles-drop 38 b)

-- ---- the numbers of five codes

module _ (c : Codes) where
  five_sum : c.box10.0 + c.year.0 + c.month.0 + c.x.0 + c.y.0 ≡ total (five_codes c)
  unfolding total five_codes
  five_sum = omega arith

  -- stored one after the other in a cleared card, and their checksum
  five_stored : set (set (set (set (set (set (replicate {A = ℕ} 49 0) 1 c.box10.0) 2 c.year.0) 3 c.month.0) 6 c.x.0) 7 c.y.0) 47 ((c.box10.0 + c.year.0 + c.month.0 + c.x.0 + c.y.0) % 255) ≡ five_numbers c
  unfolding five_codes checksum
  five_stored = ap (λ (n : ℕ). 0 ∷ (five_codes c ++ (n % 255 ∷ 0 ∷ []))) five_sum

  pub five_carded : (s z o : List ℕ) → z ≡ cleared s
      → Carded z o (set (set (set (set (set (set (numbers_of z) 1 c.box10.0) 2 c.year.0) 3 c.month.0) 6 c.x.0) 7 c.y.0) 47 ((c.box10.0 + c.year.0 + c.month.0 + c.x.0 + c.y.0) % 255))
      → Carded (cleared s) o (five_numbers c)
  five_carded s z o e w =
      record {
        card = w.card ∙ ap (λ (l : List ℕ). set (set (set (set (set (set l 1 c.box10.0) 2 c.year.0) 3 c.month.0) 6 c.x.0) 7 c.y.0) 47 ((c.box10.0 + c.year.0 + c.month.0 + c.x.0 + c.y.0) % 255)) (ap numbers_of e ∙ cleared_numbers s) ∙ five_stored;
        behind = w.behind ∙ ap tail_of e;
        long = w.long ∙ ap length e;
      }

-- ---- the outcomes

module _ (box10 year month x y : Scaled) (out : List ℕ) where
  by_first : (o : logic.Option Refusal) → first (fresh_checks (length out) box10 year month x y) ≡ o
      → wrote_by o [] (packing (fresh_observation box10 year month x y)) out ≡ fresh box10 year month x y out
  unfolding fresh
  by_first o e = ap (λ (q : logic.Option Refusal). wrote_by q [] (packing (fresh_observation box10 year month x y)) out) (sym e)

  refused : (r : Refusal) → first (fresh_checks (length out) box10 year month x y) ≡ some r
      → record { answer = Answer.refused r; out = out } ≡ fresh box10 year month x y out
  refused r e = by_first (some r) e

  pub refused_1 : (r : Refusal) → Err r ≡ required_code BOX10 box10 → record { answer = Answer.refused r; out = out } ≡ fresh box10 year month x y out
  unfolding fresh_checks
  refused_1 r e = let q = code_refused BOX10 box10 r e in refused r (first_fits _ _ (ap not q.0) ∙ ap some (sym q.1))

  module _ (a : Coded) (ca : Ok a ≡ required_code BOX10 box10) where
    one : first (fresh_checks (length out) box10 year month x y) ≡ first (drop 1 (fresh_checks (length out) box10 year month x y))
    unfolding fresh_checks
    one = first_skip _ _ (ap not (code_given BOX10 box10 a ca).0)

    pub refused_2 : (r : Refusal) → Err r ≡ required_code YEAR year → record { answer = Answer.refused r; out = out } ≡ fresh box10 year month x y out
    unfolding fresh_checks
    refused_2 r e = let q = code_refused YEAR year r e in refused r (one ∙ first_fits _ _ (ap not q.0) ∙ ap some (sym q.1))

    module _ (b : Coded) (cb : Ok b ≡ required_code YEAR year) where
      two : first (fresh_checks (length out) box10 year month x y) ≡ first (drop 2 (fresh_checks (length out) box10 year month x y))
      unfolding fresh_checks
      two = one ∙ first_skip _ _ (ap not (code_given YEAR year b cb).0)

      pub refused_3 : (r : Refusal) → Err r ≡ required_code MONTH month → record { answer = Answer.refused r; out = out } ≡ fresh box10 year month x y out
      unfolding fresh_checks
      refused_3 r e = let q = code_refused MONTH month r e in refused r (two ∙ first_fits _ _ (ap not q.0) ∙ ap some (sym q.1))

      module _ (c : Coded) (cm : Ok c ≡ required_code MONTH month) where
        three : first (fresh_checks (length out) box10 year month x y) ≡ first (drop 3 (fresh_checks (length out) box10 year month x y))
        unfolding fresh_checks
        three = two ∙ first_skip _ _ (ap not (code_given MONTH month c cm).0)

        pub refused_6 : (r : Refusal) → Err r ≡ required_code X x → record { answer = Answer.refused r; out = out } ≡ fresh box10 year month x y out
        unfolding fresh_checks
        refused_6 r e = let q = code_refused X x r e in refused r (three ∙ first_fits _ _ (ap not q.0) ∙ ap some (sym q.1))

        module _ (d : Coded) (cd : Ok d ≡ required_code X x) where
          four : first (fresh_checks (length out) box10 year month x y) ≡ first (drop 4 (fresh_checks (length out) box10 year month x y))
          unfolding fresh_checks
          four = three ∙ first_skip _ _ (ap not (code_given X x d cd).0)

          pub refused_7 : (r : Refusal) → Err r ≡ required_code Y y → record { answer = Answer.refused r; out = out } ≡ fresh box10 year month x y out
          unfolding fresh_checks
          refused_7 r e = let q = code_refused Y y r e in refused r (four ∙ first_fits _ _ (ap not q.0) ∙ ap some (sym q.1))

          module _ (e : Coded) (ce : Ok e ≡ required_code Y y) where
            abbrev five : Codes
            five = record { box10 = a; year = b; month = c; x = d; y = e }

            pub five_fit : FiveFit (record { box10 = a; year = b; month = c; x = d; y = e })
            five_fit =
                record {
                  first = (code_given BOX10 box10 a ca).2;
                  second = (code_given YEAR year b cb).2;
                  third = (code_given MONTH month c cm).2;
                  sixth = (code_given X x d cd).2;
                  seventh = (code_given Y y e ce).2;
                }

            pub short : length out < 38 → record { answer = refusal 13 0; out = out } ≡ fresh box10 year month x y out
            unfolding fresh_checks
            short h = refused (record { number = 13; place = 0 }) (four ∙ first_skip _ _ (ap not (code_given Y y e ce).0) ∙ first_fits _ _ (lt-ltb (length out) 38 h))

            numbers_are : five_numbers five ≡ card_numbers (fresh_observation box10 year month x y)
            unfolding fresh_observation card_numbers codes code_of table field_at five_codes
            numbers_are =
                ap (λ (l : List ℕ). 0 ∷ (l ++ (checksum l ∷ 0 ∷ [])))
                (λ i. (code_given BOX10 box10 a ca).1 i ∷ (code_given YEAR year b cb).1 i ∷ (code_given MONTH month c cm).1 i ∷ 0 ∷ 0 ∷ (code_given X x d cd).1 i ∷ (code_given Y y e ce).1 i ∷ zeros 39)

            pub written : (o : List ℕ) → 38 ≤ length out → Bytes o → Carded (cleared out) o (five_numbers (record { box10 = a; year = b; month = c; x = d; y = e }))
                → record { answer = Answer.accepted []; out = o } ≡ fresh box10 year month x y out
            unfolding fresh_checks fresh_observation tail_nibbles
            written o room bo w =
                let s : Observation = fresh_observation box10 year month x y in
                let m : max 0 (size s) ≡ 38 = omega (arith, fresh-size box10 year month x y) in
                let long : 38 ≤ length o = omega (arith, w.long, cleared-length out room) in
                let none_refused : first (fresh_checks (length out) box10 year month x y) ≡ none =
                four ∙ first_skip _ _ (ap not (code_given Y y e ce).0) ∙ first_skip _ _ (le-ltb (length out) 38 room) ∙ first-nil in
                let is : o ≡ over (packing s) out =
                layout_is out 0 s (λ i. omega arith) o bo long (w.card ∙ numbers_are) (rw m (w.behind ∙ cleared-tail out)) ∙ over-layout out s in
                (λ i. record { answer = Answer.accepted []; out = is i }) ∙ by_first none none_refused
