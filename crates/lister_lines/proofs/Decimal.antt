-- Decimal digits: the last digit behind those of a tenth, and how many there are.
-- Assumes nothing.
use Prim.Native.Nat.{ℕ, zero, suc, ◌+◌, ◌/◌, ◌%◌, ◌^◌, ◌≤◌, ◌<◌}
use native.Mathlib.Omega.{arith}
use native.Mathlib.Nat.{pow-succ'}
use mathlib.Core.Path.{◌≡◌, refl, sym, ap, subst, ◌∙◌}
use mathlib.Core.Bool.{Bool, true, false}
use mathlib.Core.List.{List, [], ◌∷◌, ◌++◌, append_assoc}
use lib.ListN.{length, length-append}
use lib.Dec.{T, ltb}
use borrow.Author.Tests.{lt-ltb, le-ltb, ltb-true, ltb-false}
use lib.IntN.{ℤ, pos, negsuc, nat_abs}
use lib.Signed.{lt_z}
use Rattle.format.specs.Lister.{digits_from, decimal, signed_decimal}

digits-one : (d n : ℕ) (more : List ℕ) → n < 10 → digits_from (suc d) n more ≡ (48 + n) ∷ more
unfolding digits_from
digits-one d n more h = rw (digits_from, lt-ltb n 10 h)

digits_more : (d n : ℕ) (more : List ℕ) → 10 ≤ n → digits_from (suc d) n more ≡ digits_from d (n / 10) ((48 + n % 10) ∷ more)
unfolding digits_from
digits_more d n more h = rw (digits_from, le-ltb n 10 h)

small_or_not {κ} : {P : Type κ} (n : ℕ) → (n < 10 → P) → (10 ≤ n → P) → P
small_or_not {P = P} n f g = go (ltb n 10) refl
  where
    go : (t : Bool) → ltb n 10 ≡ t → P
    go true e = f (ltb-true n 10 e)
    go false e = g (ltb-false n 10 e)

-- with enough for all digits, more is no matter; and what follows stands behind
digits_enough : (d e n : ℕ) (more : List ℕ) → n < d → n < e → digits_from d n more ≡ digits_from e n more
digits_enough zero e n more h k = absurd (omega arith)
digits_enough (suc d) zero n more h k = absurd (omega arith)
digits_enough (suc d) (suc e) n more h k =
    small_or_not n (λ s. digits-one d n more s ∙ sym (digits-one e n more s))
    (λ l. digits_more d n more l ∙ digits_enough d e (n / 10) ((48 + n % 10) ∷ more) (omega arith) (omega arith) ∙ sym (digits_more e n more l))

digits_before : (d n : ℕ) (more : List ℕ) → n < d → digits_from d n more ≡ digits_from d n [] ++ more
digits_before zero n more h = absurd (omega arith)
digits_before (suc d) n more h =
    small_or_not n (λ s. digits-one d n more s ∙ ap (λ (l : List ℕ). l ++ more) (sym (digits-one d n [] s)))
    (λ l.
    let x = 48 + n % 10 in
    let b : n / 10 < d = omega arith in
    digits_more d n more l ∙ digits_before d (n / 10) (x ∷ more) b
    ∙ sym (append_assoc (digits_from d (n / 10) []) (x ∷ []) more)
    ∙ ap (λ (l : List ℕ). l ++ more) (sym (digits_before d (n / 10) (x ∷ []) b) ∙ sym (digits_more d n [] l)))

pub decimal-one : (n : ℕ) → n < 10 → decimal n ≡ (48 + n) ∷ []
decimal-one n h = digits-one n n [] h

pub decimal_more : (n : ℕ) → 10 ≤ n → decimal n ≡ decimal (n / 10) ++ ((48 + n % 10) ∷ [])
decimal_more n h =
    let x = 48 + n % 10 in
    digits_more n n [] h ∙ digits_before n (n / 10) (x ∷ []) (omega arith)
    ∙ ap (λ (l : List ℕ). l ++ (x ∷ [])) (digits_enough n (suc (n / 10)) (n / 10) [] (omega arith) (omega arith))

pub decimal-short : (k n : ℕ) → n < 10 ^ suc k → length (decimal n) ≤ suc k
decimal-short zero n h = rw (decimal-one n h) (omega arith)
decimal-short (suc k) n h =
    let p = pow-succ' 10 (suc k) in
    small_or_not n (λ s. rw (decimal-one n s) (omega arith))
    (λ l. let t = decimal-short k (n / 10) (omega arith) in rw (decimal_more n l, length-append) (omega arith))

-- a signed number v and the end of its line: its sign, and its size n
module _ (v z : ℤ) (n : ℕ) (held : z ≡ v) (size : n ≡ nat_abs z) where
  pub negative_line : lt_z z (pos 0) ≡ true → signed_decimal v ++ (10 ∷ []) ≡ (45 ∷ []) ++ (decimal n ++ (10 ∷ []))
  negative_line below = rw (size, ← held) (go z below)
    where
      go : (y : ℤ) → lt_z y (pos 0) ≡ true → signed_decimal y ++ (10 ∷ []) ≡ (45 ∷ []) ++ (decimal (nat_abs y) ++ (10 ∷ []))
      go (pos m) e = absurd (omega (arith, ltb-true m 0 e))
      go (negsuc m) e = refl

  pub positive_line : lt_z z (pos 0) ≡ false → signed_decimal v ++ (10 ∷ []) ≡ decimal n ++ (10 ∷ [])
  positive_line above = rw (size, ← held) (go z above)
    where
      go : (y : ℤ) → lt_z y (pos 0) ≡ false → signed_decimal y ++ (10 ∷ []) ≡ decimal (nat_abs y) ++ (10 ∷ [])
      go (pos m) e = refl
      go (negsuc m) e = absurd (subst T e tt)
