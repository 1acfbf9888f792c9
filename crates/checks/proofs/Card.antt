-- The five words of a card: where no test fails no field is refused, and the sum at all places is the checksum.
-- Assumes nothing.
use Prim.Native.Nat.{ℕ, zero, suc, ◌+◌, ◌-◌, ◌*◌, ◌/◌, ◌%◌, ◌^◌, ◌≤◌, ◌<◌}
use native.Mathlib.Nat.{add-zero}
use native.Mathlib.Omega.{arith}
use mathlib.Core.Path.{◌≡◌, sym, ap, ap₂, subst, ◌∙◌}
use mathlib.Core.Bool.{Bool, true, false, not, ◌&&◌}
use mathlib.Core.List.{List}
use mathlib.Core.Option.{Option, none}
use lib.Dec.{T, eqb, leb, leb→le}
use lib.ListN.{length, get_or}
use borrow.Author.Tests.{ne_eqb}
use Rattle.format.specs.Order.{Refusal}
use Rattle.format.specs.Bits.{bit_field, total, offset}
use Rattle.format.specs.Nibbles.{odd}
use Rattle.format.specs.Field.{table, field_at, required}
use Rattle.format.specs.Observation.{widths, checksum}
use Rattle.format.specs.Report.{codes_of}
use Rattle.format.proofs.Test.{left, right}
use Rattle.laws.proofs.Sequences.{test_case}
use Rattle.card.proofs.Numbers.{number_at_lem, code_at}
use Rattle.checks.specs.Answers.{checked_of, card_check}
use Rattle.checks.specs.Parts.{Part, WordFields, fields_a, fields_b, fields_c, fields_d, fields_e, part_at, picked, laid, even, tops, needed, Passed, AllPassed, placed, kept, at_place, summed}
use Rattle.std.specs.Prelude.{Ok}
use Rattle.checks.specs.Walk.{code_check}
use Rattle.checks.proofs.Turns as turns
use Rattle.words.proofs.Turned.{field-within}
use Rattle.checks.proofs.Parts.{shown, lower, apart, none_above, all_above, picked_at, every, every_at}
use Rattle.checks.proofs.Places.{Near, near_add, near_low, near_mod, near_placed, near_summed, summed-add, valued, all_valued, placed_all}

-- ---- the fields of each word against the field table, computed

-- field k stands in the eight bytes from `start` on
abbrev inside : ℕ → ℕ → Bool
inside start k = leb (8 * start) (offset widths k) && leb (offset widths k + get_or widths k 0) (8 * start + 64)

unfoldable pub good : WordFields → Bool
good r =
    every (inside r.start) r.first r.count
    && (apart (tops odd r)
    && (apart (tops even r)
    && (apart (needed odd r)
    && (apart (needed even r)
    && every (λ p. lower (placed p r)) 0 8))))

all_good : T (good fields_a && (good fields_b && (good fields_c && (good fields_d && good fields_e))))
unfolding good every lower apart picked laid part_at total widths table field_at required
all_good = tt

pub record Good (r : WordFields) : Type 0 where
  pub within : T (every (inside r.start) r.first r.count)
  pub odds : T (apart (tops odd r))
  pub evens : T (apart (tops even r))
  pub odds_needed : T (apart (needed odd r))
  pub evens_needed : T (apart (needed even r))
  pub lowers : T (every (λ p. lower (placed p r)) 0 8)

good_is : (r : WordFields) → T (good r) → Good r
unfolding good
good_is r t =
    let t₁ = right (every (inside r.start) r.first r.count) _ t in
    let t₂ = right (apart (tops odd r)) _ t₁ in
    let t₃ = right (apart (tops even r)) _ t₂ in
    let t₄ = right (apart (needed odd r)) _ t₃ in
    record {
      within = left (every (inside r.start) r.first r.count) _ t;
      odds = left (apart (tops odd r)) _ t₁;
      evens = left (apart (tops even r)) _ t₂;
      odds_needed = left (apart (needed odd r)) _ t₃;
      evens_needed = left (apart (needed even r)) _ t₄;
      lowers = right (apart (needed even r)) _ t₄;
    }

all₁ : T (good fields_b && (good fields_c && (good fields_d && good fields_e)))
all₁ = right (good fields_a) _ all_good

all₂ : T (good fields_c && (good fields_d && good fields_e))
all₂ = right (good fields_b) _ all₁

all₃ : T (good fields_d && good fields_e)
all₃ = right (good fields_c) _ all₂

good_a : Good fields_a
good_a = good_is fields_a (left (good fields_a) _ all_good)

good_b : Good fields_b
good_b = good_is fields_b (left (good fields_b) _ all₁)

good_c : Good fields_c
good_c = good_is fields_c (left (good fields_c) _ all₂)

good_d : Good fields_d
good_d = good_is fields_d (left (good fields_d) _ all₃)

good_e : Good fields_e
good_e = good_is fields_e (right (good fields_d) _ all₃)

-- ---- a field in a word

abbrev code : List ℕ → ℕ → ℕ
code b k = get_or (codes_of b) (k - 1) 0

-- a word x of the bytes b that holds the fields r
module _ (b : List ℕ) (h : 38 ≤ length b) (x : ℕ) (r : WordFields) (g : Good r) (e : x ≡ bit_field b (8 * r.start) 64)
    (near : r.start + 8 ≤ 38) (low : 1 ≤ r.first) (high : r.first + r.count ≤ 47) where
  shown-code : (most : ℕ → ℕ) (k : ℕ) → r.first ≤ k → k < r.first + r.count → shown x (part_at most r.start k) ≡ code b k
  unfolding shown part_at
  shown-code most k l u =
      let t = every_at (inside r.start) r.count r.first k g.within l u in
      let o : ℕ = offset widths k in
      let w : ℕ = get_or widths k 0 in
      let i : 8 * r.start ≤ o = leb→le _ _ (left (leb (8 * r.start) o) _ t) in
      let j : o + w ≤ 8 * r.start + 64 = leb→le _ _ (right (leb (8 * r.start) o) _ t) in
      let z : ℕ = 8 * r.start + 64 - (o + w) in
      let a : 8 * r.start + (o - 8 * r.start) ≡ o = omega arith in
      let m : 64 ≡ o - 8 * r.start + (w + z) = omega arith in
      ap (λ (n : ℕ). n / 2 ^ z % 2 ^ w) e
      ∙ ap (λ (n : ℕ). bit_field b (8 * r.start) n / 2 ^ z % 2 ^ w) m
      ∙ sym (field-within b (8 * r.start) (o - 8 * r.start) w z (omega arith))
      ∙ ap (λ (n : ℕ). bit_field b n w) a
      ∙ number_at_lem b k (omega arith) ∙ sym (code_at b k (omega arith) (omega arith))

  -- the sum of the coded fields
  sum-code : (n k : ℕ) → r.first ≤ k → k + n ≤ r.first + r.count
      → all_valued x (part_at (λ j. 0) r.start) n k + turns.rest b (k - 1 + n) ≡ turns.rest b (k - 1)
  unfolding all_valued
  sum-code zero k l u = let q : k - 1 + 0 ≡ k - 1 = omega arith in ap (λ (n : ℕ). 0 + turns.rest b n) q ∙ omega arith
  sum-code (suc n) k l u =
      let q : suc k - 1 ≡ suc (k - 1) = omega arith in
      let p : k - 1 + suc n ≡ suc k - 1 + n = omega arith in
      omega (arith, shown-code (λ j. 0) k l (omega arith), sum-code n (suc k) (omega arith) (omega arith), turns.rest-step b (k - 1) (omega arith), ap (turns.rest b) q, ap (turns.rest b) p)

  module _ (c : Passed x r) where
    -- no field is above its highest
    top : (k : ℕ) → r.first ≤ k → k < r.first + r.count → code b k ≤ (field_at k).highest
    unfolding part_at
    top k l u =
        let part : ℕ → Part = part_at (λ j. (field_at j).highest) r.start in
        let s : shown x (part k) ≤ (field_at k).highest =
        test_case (odd k)
        (λ q. picked_at (λ p. shown x p ≤ p.most) odd part r.count r.first k l u q (none_above x (tops odd r) g.odds c.odds))
        (λ q. picked_at (λ p. shown x p ≤ p.most) even part r.count r.first k l u (ap not q) (none_above x (tops even r) g.evens c.evens)) in
        subst (λ (n : ℕ). n ≤ (field_at k).highest) (shown-code (λ j. (field_at j).highest) k l u) s

    -- each required one is above 0
    present : (k : ℕ) → r.first ≤ k → k < r.first + r.count → required k && eqb (code b k) 0 ≡ false
    unfolding part_at
    present k l u =
        let part : ℕ → Part = part_at (λ j. 0) r.start in
        let needs : required k ≡ true → 0 < shown x (part k) =
        λ n. test_case (odd k)
        (λ q. picked_at (λ p. p.most < shown x p) (λ j. required j && odd j) part r.count r.first k l u (ap₂ ◌&&◌ n q) (all_above x (needed odd r) g.odds_needed c.odds_present))
        (λ q. picked_at (λ p. p.most < shown x p) (λ j. required j && even j) part r.count r.first k l u (ap₂ ◌&&◌ n (ap not q))
        (all_above x (needed even r) g.evens_needed c.evens_present)) in
        test_case (required k)
        (λ n. ap₂ ◌&&◌ n (ne_eqb (code b k) 0 (λ z. omega (arith, needs n, shown-code (λ j. 0) k l u))))
        (λ n. ap (λ (t : Bool). t && eqb (code b k) 0) n)

    -- so none is refused
    pub none_refused : (n k : ℕ) → r.first ≤ k → k + n ≤ r.first + r.count → turns.left b (k - 1) ≡ turns.left b (k - 1 + n)
    none_refused zero k l u = ap (turns.left b) (sym (add-zero (k - 1)))
    none_refused (suc n) k l u =
        let q : suc (k - 1) ≡ k = omega arith in
        let fine : Ok tt ≡ code_check (suc (k - 1)) (code b k) =
        turns.refusal_fine (suc (k - 1)) (code b k) (subst (λ (j : ℕ). code b k ≤ (field_at j).highest) (sym q) (top k l (omega arith)))
        (subst (λ (j : ℕ). required j && eqb (code b k) 0 ≡ false) (sym q) (present k l (omega arith))) in
        let p : suc k - 1 + n ≡ k - 1 + suc n = omega arith in
        let s : suc (k - 1) ≡ suc k - 1 = omega arith in
        turns.walk_passed b (k - 1) (omega arith) fine ∙ ap (turns.left b) s ∙ none_refused n (suc k) (omega arith) (omega arith) ∙ ap (turns.left b) p

  pub word_sum : all_valued x (part_at (λ j. 0) r.start) r.count r.first + turns.rest b (r.first - 1 + r.count) ≡ turns.rest b (r.first - 1)
  word_sum = sum-code r.count r.first (omega arith) (omega arith)

  pub word-left : Passed x r → turns.left b (r.first - 1) ≡ turns.left b (r.first - 1 + r.count)
  word-left c = none_refused c r.count r.first (omega arith) (omega arith)

-- ---- the card

module _ (s : List ℕ) (h : 38 ≤ length s) (a b c d e : ℕ)
    (ea : a ≡ bit_field s (8 * 1) 64) (eb : b ≡ bit_field s (8 * 8) 64) (ec : c ≡ bit_field s (8 * 15) 64) (ed : d ≡ bit_field s (8 * 22) 64) (ee : e ≡ bit_field s (8 * 29) 64) where
  passed_left : AllPassed a b c d e → turns.left s 0 ≡ none
  passed_left t =
      word-left s h a fields_a good_a ea (omega arith) (omega arith) (omega arith) t.first
      ∙ word-left s h b fields_b good_b eb (omega arith) (omega arith) (omega arith) t.second
      ∙ word-left s h c fields_c good_c ec (omega arith) (omega arith) (omega arith) t.third
      ∙ word-left s h d fields_d good_d ed (omega arith) (omega arith) (omega arith) t.fourth
      ∙ word-left s h e fields_e good_e ee (omega arith) (omega arith) (omega arith) t.fifth
      ∙ turns.left_end s

  -- the numbers at place p
  valued_at : ℕ → ℕ
  valued_at p =
      valued a (placed p fields_a) + valued b (placed p fields_b)
      + (valued c (placed p fields_c) + (valued d (placed p fields_d) + valued e (placed p fields_e)))

  near_at : (p : ℕ) → p < 8 → Near 0 (at_place a b c d e p) (valued_at p)
  unfolding at_place valued_at
  near_at p l =
      let one : (x : ℕ) (r : WordFields) → Good r → Near p (kept x p r) (valued x (placed p r)) =
      λ x r g. near_placed x p r (every_at (λ q. lower (placed q r)) 8 0 p g.lowers (omega arith) (omega arith)) in
      near_low p _ _ (near_add p _ _ _ _ (near_add p _ _ _ _ (one a fields_a good_a) (one b fields_b good_b))
      (near_add p _ _ _ _ (one c fields_c good_c) (near_add p _ _ _ _ (one d fields_d good_d) (one e fields_e good_e))))

  all_codes : summed 8 valued_at ≡ total (codes_of s)
  unfolding valued_at
  all_codes =
      let at : ℕ → WordFields → ℕ → ℕ = λ x r p. valued x (placed p r) in
      let sums : summed 8 valued_at ≡ summed 8 (at a fields_a) + summed 8 (at b fields_b) + (summed 8 (at c fields_c) + (summed 8 (at d fields_d) + summed 8 (at e fields_e))) =
      summed-add 8 (λ p. at a fields_a p + at b fields_b p) (λ p. at c fields_c p + (at d fields_d p + at e fields_e p))
      ∙ ap₂ ◌+◌ (summed-add 8 (at a fields_a) (at b fields_b))
      (summed-add 8 (at c fields_c) (λ p. at d fields_d p + at e fields_e p) ∙ ap (λ (n : ℕ). summed 8 (at c fields_c) + n) (summed-add 8 (at d fields_d) (at e fields_e))) in
      let ra : summed 8 (at a fields_a) + turns.rest s 7 ≡ turns.rest s 0 = rw (placed_all a fields_a) (word_sum s h a fields_a good_a ea (omega arith) (omega arith) (omega arith)) in
      let rb : summed 8 (at b fields_b) + turns.rest s 19 ≡ turns.rest s 7 = rw (placed_all b fields_b) (word_sum s h b fields_b good_b eb (omega arith) (omega arith) (omega arith)) in
      let rc : summed 8 (at c fields_c) + turns.rest s 28 ≡ turns.rest s 19 = rw (placed_all c fields_c) (word_sum s h c fields_c good_c ec (omega arith) (omega arith) (omega arith)) in
      let rd : summed 8 (at d fields_d) + turns.rest s 38 ≡ turns.rest s 28 = rw (placed_all d fields_d) (word_sum s h d fields_d good_d ed (omega arith) (omega arith) (omega arith)) in
      let re : summed 8 (at e fields_e) + turns.rest s 46 ≡ turns.rest s 38 = rw (placed_all e fields_e) (word_sum s h e fields_e good_e ee (omega arith) (omega arith) (omega arith)) in
      sums ∙ omega (arith, turns.rest_end s)

  pub sum_is : summed 8 (at_place a b c d e) % 255 ≡ checksum (codes_of s)
  unfolding checksum
  sum_is = near_mod _ _ (near_summed 8 (at_place a b c d e) valued_at near_at) ∙ ap (λ (n : ℕ). n % 255) all_codes

  pub card_passed : AllPassed a b c d e → Ok (summed 8 (at_place a b c d e) % 255) ≡ card_check s
  unfolding card_check
  card_passed t = ap₂ (λ (n : ℕ) (r : Option Refusal). checked_of r n) sum_is (sym (passed_left t))
