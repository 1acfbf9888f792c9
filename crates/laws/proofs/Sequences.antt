-- Laws of lists, tests and choices that the library lacks.
-- Assumes nothing.
use Prim.{Unit}
use Prim.Native.Nat.{ℕ, zero, suc, ◌-◌, ◌≤◌, ◌<◌}
use native.Mathlib.Omega.{arith}
use mathlib.Core.Path.{◌≡◌, refl, ap, ◌∙◌}
use mathlib.Core.Bool.{Bool, true, false, cond, ◌&&◌, ◌||◌}
use mathlib.Core.List.{List, [], ◌∷◌, ◌++◌}
use lib.ListN.{length, drop, replicate}
use lib.Seq.{drop-nil}

-- ---- tests

pub and_true : (a b : Bool) → a && b ≡ true → (a ≡ true) × (b ≡ true)
and_true true b e = (refl, e)
and_true false b e = let z : ◌≡◌ {A = ℕ} 0 1 = cc in absurd (omega arith)

pub or_false : (a b : Bool) → a || b ≡ false → (a ≡ false) × (b ≡ false)
or_false true b e = let z : ◌≡◌ {A = ℕ} 0 1 = cc in absurd (omega arith)
or_false false b e = (refl, e)

pub and_right : (p : Bool) → p && true ≡ p
and_right true = refl
and_right false = refl

pub and_assoc : (p q r : Bool) → (p && q) && r ≡ p && (q && r)
and_assoc true q r = refl
and_assoc false q r = refl

pub true_false : (t : Bool) → t ≡ true → t ≡ false → ⊥
true_false t p q = let z : ◌≡◌ {A = ℕ} 0 1 = cc in omega arith

-- a property of a choice, from both of its arms
pub cond_case {ℓ κ} : {A : Type ℓ} (P : A → Type κ) (t : Bool) (a b : A) → (t ≡ true → P a) → (t ≡ false → P b) → P (cond t a b)
cond_case P true a b f g = f refl
cond_case P false a b f g = g refl

-- a claim, whether a test passes or fails
pub test_case {κ} : {P : Type κ} (t : Bool) → (t ≡ true → P) → (t ≡ false → P) → P
test_case true f g = f refl
test_case false f g = g refl

-- ---- lists

module _ {ℓ} {A : Type ℓ} where
  pub drop-append : (m : ℕ) (y z : List A) → drop m (y ++ z) ≡ drop m y ++ drop (m - length y) z
  drop-append m [] z = let e : m ≡ m - 0 = omega arith in rw drop-nil (ap (λ (k : ℕ). drop k z) e)
  drop-append zero (a ∷ y) z = let e : 0 ≡ 0 - length (a ∷ y) = omega arith in ap (λ (k : ℕ). (a ∷ y) ++ drop k z) e
  drop-append (suc m) (a ∷ y) z =
      let e : m - length y ≡ suc m - suc (length y) = omega arith in
      drop-append m y z ∙ ap (λ (k : ℕ). drop m y ++ drop k z) e

  pub drop-replicate : (m n : ℕ) (a : A) → drop m (replicate n a) ≡ replicate (n - m) a
  drop-replicate zero n a = let e : n ≡ n - 0 = omega arith in ap (λ (k : ℕ). replicate k a) e
  drop-replicate (suc m) zero a = let e : 0 ≡ 0 - suc m = omega arith in ap (λ (k : ℕ). replicate k a) e
  drop-replicate (suc m) (suc n) a =
      let e : n - m ≡ suc n - suc m = omega arith in
      drop-replicate m n a ∙ ap (λ (k : ℕ). replicate k a) e

-- k is none of the numbers 1 to n, as a `match` on k hands it to its last arm
abbrev pub None : ℕ → ℕ → Type 0
None zero k = Unit {0}
None (suc n) k = None n k × (k ≡ suc n → ⊥)

pub none_lt : (n k : ℕ) → 1 ≤ k → None n k → n < k
none_lt zero k l r = l
none_lt (suc n) k l r = let m = none_lt n k l r.0 in let e : k ≡ suc n → ⊥ = r.1 in omega arith
