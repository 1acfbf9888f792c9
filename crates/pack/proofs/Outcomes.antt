-- Each outcome of pack, from the tests that led there.
-- Assumes nothing.
use Prim.Native.Nat.{ℕ, suc, ◌+◌, ◌-◌, ◌*◌, ◌/◌, ◌%◌, ◌^◌, ◌≤◌, ◌<◌, max}
use native.Mathlib.Omega.{arith}
use mathlib.Core.Path.{◌≡◌, refl, sym, ap, ap₂, ◌∙◌}
use mathlib.Core.Bool.{Bool, true, false, cond, not}
use mathlib.Core.List.{List, [], ◌∷◌, ◌++◌, append_assoc}
use mathlib.Core.Option.{Option, none, some}
use lib.ListN.{length, get_or, take, drop, set, length-append}
use lib.Seq.{paste, take_all, length-take-le, drop_at, set_at, drop-cons}
use lib.Dec.{ltb}
use lib.IntN.{ℤ}
use borrow.Author.Tests.{lt-ltb, le-ltb, eq-eqb, ne_eqb, eqb-true, eqb-false}
use Rattle.format.specs.Order.{Refusal, check, first}
use Rattle.format.specs.Field.{table}
use Rattle.format.specs.Flags.{FlagTable}
use Rattle.format.specs.Nibbles.{nibbles, odd, tail_nibbles, attachments_of}
use Rattle.format.specs.Observation.{Observation, checksum, card_numbers, packing, size}
use Rattle.format.specs.Report.{numbers_of, attachment_checks, tail_of}
use Rattle.format.specs.Calls.{Answer, all_nibbles, over}
use Rattle.format.specs.Buffer.{zeros}
use Rattle.format.specs.Reply.{refusal}
use Rattle.format.specs.Whole.{bit_outside, pack_checks, count_in, pack_observation, pack_order, pack_gives, pack}
use Rattle.std.specs.Prelude.{Ok, Err}
use Rattle.tail.specs.Walk.{walked_by, tail_counted}
use Rattle.card.specs.Answers.{Carded}
use Rattle.write_values.specs.Lent.{codes_given}
use Rattle.laws.proofs.Order.{first_skip, first_fits, first-append_skip, first-append_some}
use Rattle.format.specs.Bits.{Bytes}
use Rattle.laws.proofs.Nibbles.{length-nibbles}
use Rattle.laws.proofs.Attachments as walks
use Rattle.laws.proofs.Attachments.{all_nibbles_lem, checks_fine, count_all, fine_count, fine_size}
use Rattle.laws.proofs.Report.{size_is}
use Rattle.laws.proofs.Laid.{layout_is, over-layout}
use Rattle.laws.proofs.Whole.{pack_outcome, packs_none}
use Rattle.pack.specs.Steps.{FieldsPass, TailPasses}

-- ---- what the walk over a tail says

walked_refused : (o : Option Refusal) (n : ℕ) (r : Refusal) → Err r ≡ walked_by o n → o ≡ some r
walked_refused none n r e = absurd (cc)
walked_refused (some x) n r e = ap some (cc)

walked_passed : (o : Option Refusal) (n m : ℕ) → Ok m ≡ walked_by o n → (o ≡ none) × (m ≡ n)
walked_passed none n m e = (refl, cc)
walked_passed (some r) n m e = absurd (cc)

module _ (marks : FlagTable) (ns : List ℕ) where
  pub walk_refused : (r : Refusal) → Err r ≡ tail_counted marks ns → first (attachment_checks marks (count_in ns) 1 [] ns) ≡ some r
  unfolding tail_counted
  walk_refused r e = walked_refused (first (attachment_checks marks (count_in ns) 1 [] ns)) (count_in ns) r e

  pub walk_passed : (n : ℕ) → Ok n ≡ tail_counted marks ns → (first (attachment_checks marks (count_in ns) 1 [] ns) ≡ none) × (n ≡ count_in ns)
  unfolding tail_counted
  walk_passed n e = walked_passed (first (attachment_checks marks (count_in ns) 1 [] ns)) (count_in ns) n e

-- ---- the fields

pub fields_pass : {values : List ℤ} {word : ℕ} → 46 ≤ length values → bit_outside word ≡ false → first (pack_checks 1 table word values) ≡ none → FieldsPass values word
fields_pass long inside fields = record { long = long; inside = inside; fields = fields }

-- ---- the presence word

pub bit_low : (word : ℕ) → word % 2 ≡ 1 → bit_outside word ≡ true
bit_low word h = let z : word / 2 ^ 0 % 2 ≡ 1 = omega arith in rw (eq-eqb (word / 2 ^ 0 % 2) 1 z)

pub bit_high : (word : ℕ) → (word % 2 ≡ 1 → ⊥) → (word / 2 ^ 47 ≡ 0 → ⊥) → bit_outside word ≡ true
bit_high word l h = let z : word / 2 ^ 0 % 2 ≡ 1 → ⊥ = λ e. l (omega arith) in rw (ne_eqb (word / 2 ^ 0 % 2) 1 z, ne_eqb (word / 2 ^ 47) 0 h)

pub bits_inside : (word : ℕ) → (word % 2 ≡ 1 → ⊥) → word / 2 ^ 47 ≡ 0 → bit_outside word ≡ false
bits_inside word l h = let z : word / 2 ^ 0 % 2 ≡ 1 → ⊥ = λ e. l (omega arith) in rw (ne_eqb (word / 2 ^ 0 % 2) 1 z, eq-eqb (word / 2 ^ 47) 0 h)

-- ---- the nibbles behind the card

-- once a tail x was laid, and the padding nibble cleared
laid-behind : (x ns : List ℕ) (n m : ℕ) → n ≡ 75 + length ns → m ≡ n + n % 2 → m ≤ length x
    → drop 75 (cond (odd n) (set (paste x 75 ns (length ns)) n 0) (paste x 75 ns (length ns))) ≡ ns ++ (zeros (m - n) ++ drop m x)
laid-behind x ns n m en em h = go (odd n) refl
  where
    front : length (take 75 x) ≡ 75
    front = length-take-le 75 x (omega arith)

    pasted : paste x 75 ns (length ns) ≡ (take 75 x ++ ns) ++ drop n x
    pasted = ap₂ (λ (y : List ℕ) (k : ℕ). (take 75 x ++ y) ++ drop k x) (take_all (length ns) ns (omega arith)) (sym en)

    behind : (ys : List ℕ) → drop 75 ((take 75 x ++ ns) ++ ys) ≡ ns ++ ys
    behind ys = ap (drop 75) (append_assoc (take 75 x) ns ys) ∙ drop_at (take 75 x) (ns ++ ys) 75 front

    go : (t : Bool) → odd n ≡ t → drop 75 (cond t (set (paste x 75 ns (length ns)) n 0) (paste x 75 ns (length ns))) ≡ ns ++ (zeros (m - n) ++ drop m x)
    go true e =
        let z : n % 2 ≡ 1 = eqb-true (n % 2) 1 e in
        let d : 1 ≡ m - n = omega arith in
        let q : suc n ≡ m = omega arith in
        let l : length (take 75 x ++ ns) ≡ n = omega (arith, length-append (take 75 x) ns, front) in
        ap (λ (y : List ℕ). drop 75 (set y n 0)) (pasted ∙ ap (λ (y : List ℕ). (take 75 x ++ ns) ++ y) (drop-cons x n 0 (omega arith)))
        ∙ ap (drop 75) (set_at (take 75 x ++ ns) (get_or x n 0) (drop (suc n) x) 0 n l)
        ∙ behind (0 ∷ drop (suc n) x)
        ∙ ap₂ (λ (a b : ℕ). ns ++ (zeros a ++ drop b x)) d q
    go false e =
        let f = eqb-false (n % 2) 1 e in
        let z : n % 2 ≡ 0 = omega arith in
        let d : 0 ≡ m - n = omega arith in
        let q : n ≡ m = omega arith in
        ap (drop 75) pasted ∙ behind (drop n x) ∙ ap₂ (λ (a b : ℕ). ns ++ (zeros a ++ drop b x)) d q

-- ---- the outcomes

module _ (marks : FlagTable) (values : List ℤ) (word rptin : ℕ) (ns out : List ℕ) where
  refused : (r : Refusal) → first (pack_order marks (length out) values word rptin ns) ≡ some r → record { answer = Answer.refused r; out = out } ≡ pack marks values word rptin ns out
  refused r e = pack_outcome marks values word rptin ns out (some r) e

  no_room : first (pack_order marks (length out) values word rptin ns) ≡ some (record { number = 13; place = 0 }) → record { answer = refusal 13 0; out = out } ≡ pack marks values word rptin ns out
  no_room e = refused (record { number = 13; place = 0 }) e

  pub short_values : length values < 46 → record { answer = refusal 13 0; out = out } ≡ pack marks values word rptin ns out
  unfolding pack_order
  short_values h = no_room (first_fits _ _ (lt-ltb (length values) 46 h))

  module _ (long : 46 ≤ length values) where
    pub word_refused : bit_outside word ≡ true → record { answer = refusal 8 0; out = out } ≡ pack marks values word rptin ns out
    unfolding pack_order
    word_refused e = refused (record { number = 8; place = 0 }) (first_skip _ _ (le-ltb (length values) 46 long) ∙ first_fits _ _ e)

    pub field_refused : (r : Refusal) → bit_outside word ≡ false → first (pack_checks 1 table word values) ≡ some r
        → record { answer = Answer.refused r; out = out } ≡ pack marks values word rptin ns out
    unfolding pack_order
    field_refused r i e = refused r (first_skip _ _ (le-ltb (length values) 46 long) ∙ first_skip _ _ i ∙ first-append_some _ _ r e)

  module _ (p : FieldsPass values word) where
    behind_fields : (o : Option Refusal)
        → first (check (not (all_nibbles ns)) 14 0 ∷ (attachment_checks marks (count_in ns) 1 [] ns ++ (check (ltb (length out) (size (pack_observation values word rptin ns))) 13 0 ∷ []))) ≡ o
        → first (pack_order marks (length out) values word rptin ns) ≡ o
    unfolding pack_order
    behind_fields o e = first_skip _ _ (le-ltb (length values) 46 p.long) ∙ first_skip _ _ p.inside ∙ first-append_skip _ _ p.fields ∙ e

    pub bytes_refused : false ≡ all_nibbles ns → record { answer = refusal 14 0; out = out } ≡ pack marks values word rptin ns out
    bytes_refused e = refused (record { number = 14; place = 0 }) (behind_fields _ (first_fits _ _ (ap not (sym e))))

    pub tail_refused : (r : Refusal) → true ≡ all_nibbles ns → first (attachment_checks marks (count_in ns) 1 [] ns) ≡ some r
        → record { answer = Answer.refused r; out = out } ≡ pack marks values word rptin ns out
    tail_refused r a e = refused r (behind_fields _ (first_skip _ _ (ap not (sym a)) ∙ first-append_some _ _ r e))

  module _ (p : TailPasses marks values word ns) where
    checked : walks.Walked marks (count_in ns) [] ns
    checked = checks_fine marks (count_in ns) 1 [] ns (all_nibbles_lem ns p.nibbles) p.attachments

    tail_is : tail_nibbles (pack_observation values word rptin ns).attachments ≡ ns
    unfolding pack_observation
    tail_is = sym (count_all marks ns (all_nibbles_lem ns p.nibbles) p.attachments)

    pub few : (count_in ns < 16) × (length ns ≤ 3631)
    few =
        let l : length ns ≡ length (tail_nibbles (attachments_of (count_in ns) ns)) = ap length (count_all marks ns (all_nibbles_lem ns p.nibbles) p.attachments) in
        (omega (arith, fine_count marks checked.fine, checked.count), omega (arith, fine_size marks checked.fine, l))

    size_of : size (pack_observation values word rptin ns) ≡ (75 + length ns) / 2 + (75 + length ns) % 2
    size_of = omega (arith, size_is (pack_observation values word rptin ns), ap length tail_is)

    pub short_out : length out < (75 + length ns) / 2 + (75 + length ns) % 2 → record { answer = refusal 13 0; out = out } ≡ pack marks values word rptin ns out
    short_out h =
        no_room
        (behind_fields p.passed _
        (first_skip _ _ (ap not p.nibbles) ∙ first-append_skip _ _ p.attachments ∙ first_fits _ _ (lt-ltb (length out) (size (pack_observation values word rptin ns)) (omega (arith, size_of)))))

    -- the tail laid, the padding nibble cleared, then the card written
    pub written : (o1 o2 o3 : List ℕ) (count : ℕ) → (75 + length ns) / 2 + (75 + length ns) % 2 ≤ length out → Bytes o3 → count ≡ count_in ns
        → nibbles o1 ≡ paste (nibbles out) 75 ns (length ns) → length o1 ≡ length out
        → nibbles o2 ≡ cond (odd (75 + length ns)) (set (nibbles o1) (75 + length ns) 0) (nibbles o1) → length o2 ≡ length o1
        → Carded o2 o3 (rptin ∷ (codes_given values word ++ (checksum (codes_given values word) ∷ count ∷ [])))
        → record { answer = Answer.accepted (pack_gives ((75 + length ns) / 2 + (75 + length ns) % 2)); out = o3 } ≡ pack marks values word rptin ns out
    unfolding pack_observation card_numbers
    written o1 o2 o3 count room bs counts e1 l1 e2 l2 carded =
        let s : Observation = pack_observation values word rptin ns in
        let n : ℕ = 75 + length ns in
        let m : max 0 (size s) ≡ size s = omega arith in
        let long : 38 ≤ length o3 = omega (arith, carded.long, l1, l2) in
        let card : numbers_of o3 ≡ card_numbers s =
        carded.card ∙ ap (λ (x : ℕ). rptin ∷ (codes_given values word ++ (checksum (codes_given values word) ∷ x ∷ []))) (counts ∙ sym checked.count) in
        let behind : tail_of o3 ≡ ns ++ (zeros (2 * size s - n) ++ drop (2 * size s) (nibbles out)) =
        carded.behind ∙ ap (drop 75) (e2 ∙ ap (λ (x : List ℕ). cond (odd n) (set x n 0) x) e1)
        ∙ laid-behind (nibbles out) ns n (2 * size s) refl (omega (arith, size_of)) (omega (arith, size_of, length-nibbles out)) in
        let is : o3 ≡ over (packing s) out =
        layout_is out 0 s (rw tail_is (all_nibbles_lem ns p.nibbles)) o3 bs long card (rw (m, tail_is) behind) ∙ over-layout out s in
        let none_refused = packs_none marks (length out) values word rptin ns (record {
          long = p.passed.long;
          inside = p.passed.inside;
          fields = p.passed.fields;
          nibbles = p.nibbles;
          attachments = p.attachments;
          room = omega (arith, size_of);
        }) in
        let sizes : (75 + length ns) / 2 + (75 + length ns) % 2 ≡ size s = sym size_of in
        (λ i. record { answer = Answer.accepted (pack_gives (sizes i)); out = is i }) ∙ pack_outcome marks values word rptin ns out none none_refused
