-- The sum modulo 255: fields at places that are equal modulo 8, summed where they stand.
-- Assumes nothing.
use Prim.Native.Nat.{ℕ, zero, suc, ◌+◌, ◌*◌, ◌/◌, ◌%◌, ◌^◌, ◌≤◌, ◌<◌}
use native.Mathlib.Nat.{mod-lt}
use native.Mathlib.Omega.{arith}
use native.Mathlib.Decide.{ℕ_discrete}
use mathlib.Core.Path.{◌≡◌, refl, ap, ap₂, ◌∙◌}
use mathlib.Core.Bool.{Bool, true, false, cond}
use mathlib.Core.List.{List, [], ◌∷◌}
use lib.Dec.{T, eqb, ltb, ltb→lt}
use lib.Pow.{pow-add, shl-shr}
use lib.Bits.{bit_and, and_zero_r}
use borrow.Author.Tests.{eqb-true, eq-eqb, ne_eqb}
use Rattle.format.proofs.Test.{left, right}
use Rattle.checks.specs.Parts.{Part, WordFields, picked, laid, ones, part_at, placed, kept, summed}
use Rattle.checks.proofs.Parts.{shown, Each, lower, kept_cons, picked_each}

-- ---- numbers modulo 255

-- t is s and some 255s, at place p
pub record Near (p t s : ℕ) : Type 0 where
  pub more : ℕ
  pub is : t ≡ (s + 255 * more) * 2 ^ p

module _ (p : ℕ) where
  near_none : Near p 0 0
  near_none = record { more = 0; is = omega arith }

  pub near_add : (t u r s : ℕ) → Near p t r → Near p u s → Near p (t + u) (r + s)
  near_add t u r s a b = record { more = a.more + b.more; is = omega (arith, a.is, b.is) }

  -- moved to place 0
  pub near_low : (t s : ℕ) → Near p t s → Near 0 (t / 2 ^ p) s
  near_low t s a =
      let e : t / 2 ^ p ≡ s + 255 * a.more = ap (λ (n : ℕ). n / 2 ^ p) a.is ∙ shl-shr (s + 255 * a.more) p in
      record { more = a.more; is = omega arith }

pub near_mod : (t s : ℕ) → Near 0 t s → t % 255 ≡ s % 255
near_mod t s a = omega (arith, a.is)

-- 256 ^ q is 1 and some 255s
power : (q : ℕ) → Near 0 (2 ^ (8 * q)) 1
power zero = record { more = 0; is = refl }
power (suc q) =
    let a = power q in
    let e : 8 * suc q ≡ 8 + 8 * q = omega arith in
    let f : 2 ^ (8 * suc q) ≡ 256 * 2 ^ (8 * q) = ap (λ (n : ℕ). 2 ^ n) e ∙ pow-add 2 8 (8 * q) in
    record { more = 256 * a.more + 1; is = omega (arith, a.is) }

-- so a number does not change by its place, but for the place modulo 8
near_place : (d n p : ℕ) → n % 8 ≡ p → Near p (d * 2 ^ n) d
near_place d n p h =
    let a = power (n / 8) in
    let e : n ≡ 8 * (n / 8) + p = omega arith in
    let f : 2 ^ n ≡ 2 ^ (8 * (n / 8)) * 2 ^ p = ap (λ (k : ℕ). 2 ^ k) e ∙ pow-add 2 (8 * (n / 8)) p in
    let g : 2 ^ (8 * (n / 8)) ≡ 1 + 255 * a.more = omega (arith, a.is) in
    let k : 2 ^ n ≡ (1 + 255 * a.more) * 2 ^ p = f ∙ ap (λ (m : ℕ). m * 2 ^ p) g in
    record { more = d * a.more; is = ap (λ (m : ℕ). d * m) k ∙ omega arith }

-- ---- the parts at one place

-- the sum of the numbers of parts in the word x
unfoldable pub valued : ℕ → List Part → ℕ
valued x [] = 0
valued x (p ∷ ps) = shown x p + valued x ps

near_kept : (x p : ℕ) (ps : List Part) → T (lower ps) → Each (λ q. q.below % 8 ≡ p) ps → Near p (bit_and x (laid ones ps)) (valued x ps)
unfolding laid valued lower
near_kept x p [] t e = record { more = 0; is = and_zero_r x ∙ omega arith }
near_kept x p (q ∷ ps) t e =
    let l : laid ones ps < 2 ^ q.below = ltb→lt _ _ (left (ltb (laid ones ps) (2 ^ q.below)) (lower ps) t) in
    let a : Near p (shown x q * 2 ^ q.below) (shown x q) = near_place (shown x q) q.below p e.0 in
    let b : Near p (bit_and x (laid ones ps)) (valued x ps) = near_kept x p ps (right (ltb (laid ones ps) (2 ^ q.below)) (lower ps) t) e.1 in
    let c : Near p (shown x q * 2 ^ q.below + bit_and x (laid ones ps)) (shown x q + valued x ps) =
    near_add p (shown x q * 2 ^ q.below) (bit_and x (laid ones ps)) (shown x q) (valued x ps) a b in
    record { more = c.more; is = kept_cons x q ps l ∙ c.is }

pub near_placed : (x p : ℕ) (r : WordFields) → T (lower (placed p r)) → Near p (kept x p r) (valued x (placed p r))
near_placed x p r t =
    near_kept x p (placed p r) t
    (picked_each (λ q. q.below % 8 ≡ p) (λ k. eqb ((part_at (λ j. 0) r.start k).below % 8) p) (part_at (λ j. 0) r.start) r.count r.first
    (λ j e. eqb-true _ _ e))

-- ---- sums over places

pub near_summed : (n : ℕ) (f g : ℕ → ℕ) → ((p : ℕ) → p < n → Near 0 (f p) (g p)) → Near 0 (summed n f) (summed n g)
unfolding summed
near_summed zero f g h = near_none 0
near_summed (suc n) f g h = near_add 0 (summed n f) (f n) (summed n g) (g n) (near_summed n f g (λ p l. h p (omega arith))) (h n (omega arith))

pub summed-add : (n : ℕ) (f g : ℕ → ℕ) → summed n (λ p. f p + g p) ≡ summed n f + summed n g
unfolding summed
summed-add zero f g = refl
summed-add (suc n) f g = omega (arith, summed-add n f g)

summed_same : (n : ℕ) (f g : ℕ → ℕ) → ((p : ℕ) → f p ≡ g p) → summed n f ≡ summed n g
unfolding summed
summed_same zero f g h = refl
summed_same (suc n) f g h = ap₂ ◌+◌ (summed_same n f g h) (h n)

summed-zero : (n : ℕ) → summed n (λ p. 0) ≡ 0
unfolding summed
summed-zero zero = refl
summed-zero (suc n) = omega (arith, summed-zero n)

-- a number counted at its own place only
abbrev at : ℕ → ℕ → ℕ → ℕ
at a d p = cond (eqb a p) d 0

summed_past : (n a d : ℕ) → n ≤ a → summed n (at a d) ≡ 0
unfolding summed
summed_past zero a d h = refl
summed_past (suc n) a d h =
    let e : eqb a n ≡ false = ne_eqb a n (λ q. omega arith) in
    ap₂ (λ (i : ℕ) (t : Bool). i + cond t d 0) (summed_past n a d (omega arith)) e

summed-one : (n a d : ℕ) → a < n → summed n (at a d) ≡ d
unfolding summed
summed-one zero a d h = absurd (omega arith)
summed-one (suc n) a d h = go (ℕ_discrete a n) (summed-one n a d)
  where
    go : Dec (a ≡ n) → (a < n → summed n (at a d) ≡ d) → summed n (at a d) + at a d n ≡ d
    go (yes q) more = ap₂ (λ (i : ℕ) (t : Bool). i + cond t d 0) (summed_past n a d (omega arith)) (eq-eqb a n q) ∙ omega arith
    go (no q) more = ap₂ (λ (i : ℕ) (t : Bool). i + cond t d 0) (more (omega arith)) (ne_eqb a n q) ∙ omega arith

-- what stands at place p, and at place 0
pub at_place_lem : (p : ℕ) {x u : ℕ} → x ≡ u → x / 2 ^ p ≡ u / 2 ^ p
at_place_lem p e = ap (λ (i : ℕ). i / 2 ^ p) e

pub first-place : {x u : ℕ} → x ≡ u → x ≡ 0 + u / 2 ^ 0
first-place e = e ∙ omega arith

pub plus : {x y u v : ℕ} → x ≡ u → y ≡ v → x + y ≡ u + v
plus e f = ap₂ ◌+◌ e f

-- ---- every part stands at one of eight places

module _ (x : ℕ) (part : ℕ → Part) where
  -- the sum of n parts from part k on
  unfoldable pub all_valued : ℕ → ℕ → ℕ
  all_valued zero k = 0
  all_valued (suc n) k = shown x (part k) + all_valued n (suc k)

  chosen : ℕ → ℕ → ℕ → List Part
  chosen n k p = picked (λ j. eqb ((part j).below % 8) p) part k n

  chosen_cons : (n k p : ℕ) → valued x (chosen (suc n) k p) ≡ at ((part k).below % 8) (shown x (part k)) p + valued x (chosen n (suc k) p)
  unfolding valued picked chosen
  chosen_cons n k p = go (eqb ((part k).below % 8) p)
    where
      go : (t : Bool) → valued x (cond t (part k ∷ chosen n (suc k) p) (chosen n (suc k) p)) ≡ cond t (shown x (part k)) 0 + valued x (chosen n (suc k) p)
      go true = refl
      go false = omega arith

  chosen_none : (k p : ℕ) → valued x (chosen 0 k p) ≡ 0
  unfolding valued picked chosen
  chosen_none k p = refl

  all_places : (n k : ℕ) → summed 8 (λ p. valued x (chosen n k p)) ≡ all_valued n k
  unfolding all_valued
  all_places zero k = summed_same 8 _ _ (chosen_none k) ∙ summed-zero 8
  all_places (suc n) k =
      summed_same 8 _ _ (chosen_cons n k)
      ∙ summed-add 8 (at ((part k).below % 8) (shown x (part k))) (λ p. valued x (chosen n (suc k) p))
      ∙ ap₂ ◌+◌ (summed-one 8 ((part k).below % 8) (shown x (part k)) (mod-lt (part k).below (omega arith))) (all_places n (suc k))

pub placed_all : (x : ℕ) (r : WordFields) → summed 8 (λ p. valued x (placed p r)) ≡ all_valued x (part_at (λ j. 0) r.start) r.count r.first
unfolding chosen
placed_all x r = all_places x (part_at (λ j. 0) r.start) r.count r.first
