-- Ids seen as the bits of a number.
-- Assumes nothing.
use Prim.Native.Nat.{ℕ, ◌/◌, ◌%◌, ◌^◌, ◌<◌}
use mathlib.Core.Path.{◌≡◌, refl, sym, ap, ◌∙◌}
use mathlib.Core.Bool.{Bool, false, ◌||◌}
use mathlib.Core.List.{List, [], ◌∷◌}
use native.Mathlib.Omega.{arith}
use native.Mathlib.Nat.{zero-div}
use lib.Dec.{eqb}
use lib.Pow.{pow-lt}
use lib.Bits.{bit_or, or_lt, or_add_and, and_le_r}
use borrow.Author.Tests.{eqb-true, eqb-false, eq-eqb}
use Rattle.std.proofs.lemmas.Nat.Bits.{bit_at_or, bit_at-pow_same, bit_at-pow_other, bit_at-lt}
use Rattle.format.specs.Nibbles.{among}
use Rattle.format.specs.Whole.{bit_at}
use Rattle.laws.proofs.Sequences.{test_case, true_false}

-- with bit k set, bit i is set where it was, and at k
bit_set : (m k i : ℕ) → bit_at (bit_or m (2 ^ k)) i ≡ eqb i k || bit_at m i
bit_set m k i =
    test_case (eqb i k)
    (λ t. let one : 2 ^ k / 2 ^ i % 2 ≡ 1 = rw (eqb-true i k t) (bit_at-pow_same k) in
    let s : bit_or m (2 ^ k) / 2 ^ i % 2 ≡ 1 = omega (arith, bit_at_or m (2 ^ k) i, bit_at-lt m i) in
    rw (s, t))
    (λ t. let none : 2 ^ k / 2 ^ i % 2 ≡ 0 = bit_at-pow_other k i (eqb-false i k t) in
    let s : bit_or m (2 ^ k) / 2 ^ i % 2 ≡ m / 2 ^ i % 2 = omega (arith, bit_at_or m (2 ^ k) i) in
    rw (s, t))

-- the bits of m are the ids seen
pub record Seen (m : ℕ) (seen : List ℕ) : Type 0 where
  pub at : (i : ℕ) → bit_at m i ≡ among i seen

pub seen_none : Seen 0 []
unfolding among
seen_none = record { at = λ i. rw zero-div }

pub seen_more : (m : ℕ) (seen : List ℕ) (k : ℕ) → Seen m seen → Seen (bit_or m (2 ^ k)) (k ∷ seen)
unfolding among
seen_more m seen k h = record { at = λ i. bit_set m k i ∙ ap (λ (t : Bool). eqb i k || t) (h.at i) }

-- one more id makes the number larger, and it stays below 2 ^ 16
pub mask_grows : (m k : ℕ) → bit_at m k ≡ false → m < bit_or m (2 ^ k)
mask_grows m k e =
    let a = or_add_and m (2 ^ k) in
    let l = and_le_r m (2 ^ k) in
    let n : bit_or m (2 ^ k) ≡ m → ⊥ = λ q. true_false (bit_at m k) (sym (ap (λ (x : ℕ). bit_at x k) q) ∙ bit_set m k k ∙ rw (eq-eqb k k refl)) e in
    omega arith

pub mask_lt : (m k : ℕ) → m < 2 ^ 16 → k < 16 → bit_or m (2 ^ k) < 2 ^ 16
mask_lt m k h g = or_lt 16 m (2 ^ k) h (pow-lt g)
