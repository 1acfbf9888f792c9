-- Runs of fields: one after the other, and all.
-- Assumes nothing.
use Prim.Native.Nat.{ℕ, zero, suc, ◌+◌, ◌≤◌, ◌<◌}
use native.Mathlib.Nat.{add-mul}
use native.Mathlib.Decide.{dec_lt}
use native.Mathlib.Omega.{arith}
use mathlib.Core.Path.{◌≡◌, refl, sym, ap, ap₂, ◌∙◌}
use mathlib.Core.List.{List}
use lib.ListN.{length, get_or, set, length-set}
use lib.Seq.{paste, paste-zero, paste-suc}
use Rattle.card.specs.Runs.{set_run, sum_run, Summed, SetAndSummed}

-- ---- the sum

sum-add : (g : ℕ → ℕ) (m n i : ℕ) → sum_run g i (m + n) ≡ sum_run g i m + sum_run g (i + m) n
unfolding sum_run
sum-add g zero n i =
    let e : 0 + n ≡ n = omega arith in
    let f : i ≡ i + 0 = omega arith in
    ap₂ (sum_run g) f e ∙ omega arith
sum-add g (suc m) n i =
    let e : suc m + n ≡ suc (m + n) = omega arith in
    let f : suc i + m ≡ i + suc m = omega arith in
    ap (sum_run g i) e ∙ omega (arith, sum-add g m n (suc i), ap (λ (j : ℕ). sum_run g j n) f)

-- one number, and one run after the other
module _ {g : ℕ → ℕ} {most : ℕ} where
  pub sum_one : (i w r : ℕ) → r ≡ w + g i → g i ≤ most → Summed g most i 1 w r
  unfolding sum_run
  sum_one i w r e m = record { total = omega arith; small = omega arith }

  pub sum_none : (i w : ℕ) → Summed g most i 0 w w
  unfolding sum_run
  sum_none i w = record { total = omega arith; small = omega arith }

  pub sum_then : {i m n w u v : ℕ} → Summed g most i m w u → Summed g most (i + m) n u v → Summed g most i (m + n) w v
  sum_then {i = i} {m = m} {n = n} a b =
      record { total = omega (arith, a.total, b.total, sum-add g m n i); small = omega (arith, a.small, b.small, add-mul m n most) }

-- a sum and what is left, where each number is what is left less
pub sum_left : (g left : ℕ → ℕ) (n i : ℕ) → ((j : ℕ) → j < i + n → left j ≡ g j + left (suc j)) → sum_run g i n + left (i + n) ≡ left i
unfolding sum_run
sum_left g left zero i h = let e : i + 0 ≡ i = omega arith in omega (arith, ap left e)
sum_left g left (suc n) i h =
    let e : suc i + n ≡ i + suc n = omega arith in
    omega (arith, sum_left g left n (suc i) (λ j l. h j (omega arith)), h i (omega arith), ap left e)

-- a sum of nothing but 0
pub sum-zero : (g : ℕ → ℕ) (n i j : ℕ) → sum_run g i n ≡ 0 → i ≤ j → j < i + n → g j ≡ 0
unfolding sum_run
sum-zero g zero i j e l h = absurd (omega arith)
sum-zero g (suc n) i j e l h = go (dec_lt i j) (λ m. sum-zero g n (suc i) j (omega arith) m (omega arith))
  where
    go : Dec (i < j) → (i < j → g j ≡ 0) → g j ≡ 0
    go (yes m) later = later m
    go (no m) later = let q : j ≡ i = omega arith in ap g q ∙ omega arith

-- ---- the list

module _ {A : Type 0} (f : ℕ → A) (o : ℕ) where
  set-add : (m n i : ℕ) (xs : List A) → set_run f o i (m + n) xs ≡ set_run f o (i + m) n (set_run f o i m xs)
  unfolding set_run
  set-add zero n i xs =
      let e : 0 + n ≡ n = omega arith in
      let q : i ≡ i + 0 = omega arith in
      ap₂ (λ (j k : ℕ). set_run f o j k xs) q e
  set-add (suc m) n i xs =
      let e : suc m + n ≡ suc (m + n) = omega arith in
      let q : suc i + m ≡ i + suc m = omega arith in
      ap (λ (k : ℕ). set_run f o i k xs) e ∙ set-add m n (suc i) (set xs (o + i) (f i))
      ∙ ap (λ (j : ℕ). set_run f o j n (set_run f o (suc i) m (set xs (o + i) (f i)))) q

-- a list set to the front of another
module _ {A : Type 0} (xs ys : List A) (d : A) (o : ℕ) where
  set_paste : (n i : ℕ) → o + (i + n) ≤ length ys → i + n ≤ length xs
      → set_run (λ (j : ℕ). get_or xs j d) o i n (paste ys o xs i) ≡ paste ys o xs (i + n)
  unfolding set_run
  set_paste zero i h l = let e : i ≡ i + 0 = omega arith in ap (paste ys o xs) e
  set_paste (suc n) i h l =
      let e : suc i + n ≡ i + suc n = omega arith in
      ap (set_run (λ (j : ℕ). get_or xs j d) o (suc i) n) (paste-suc ys o xs i d (omega arith) (omega arith))
      ∙ set_paste n (suc i) (omega arith) (omega arith)
      ∙ ap (paste ys o xs) e

  pub set_all : (n : ℕ) → o + n ≤ length ys → n ≤ length xs → set_run (λ (j : ℕ). get_or xs j d) o 0 n ys ≡ paste ys o xs n
  set_all n h l =
      let e : 0 + n ≡ n = omega arith in
      ap (set_run (λ (j : ℕ). get_or xs j d) o 0 n) (paste-zero ys o xs) ∙ set_paste n 0 (omega arith) (omega arith) ∙ ap (paste ys o xs) e

-- ---- both

module _ {A : Type 0} {f : ℕ → A} {g : ℕ → ℕ} {o most : ℕ} where
  pub both_none : (i : ℕ) (x : List A) (w : ℕ) → SetAndSummed f g o most i 0 x x w w
  unfolding set_run
  both_none i x w = record { list = refl; long = refl; sums = sum_none i w }

  pub both_one : (i : ℕ) (x y : List A) (w r : ℕ) → y ≡ set x (o + i) (f i) → r ≡ w + g i → g i ≤ most → SetAndSummed f g o most i 1 x y w r
  unfolding set_run
  both_one i x y w r e t m = record { list = e; long = ap length e ∙ length-set x (o + i) (f i); sums = sum_one i w r t m }

  pub both_then : {i m n : ℕ} {x y z : List A} {w u v : ℕ} → SetAndSummed f g o most i m x y w u → SetAndSummed f g o most (i + m) n y z u v → SetAndSummed f g o most i (m + n) x z w v
  both_then {i = i} {m = m} {n = n} {x = x} a b =
      record {
        list = b.list ∙ ap (set_run f o (i + m) n) a.list ∙ sym (set-add f o m n i x);
        long = b.long ∙ a.long;
        sums = sum_then a.sums b.sums;
      }
