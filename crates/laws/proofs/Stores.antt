-- Stores of a list, from a place on: one after another, and behind one another.
-- Assumes nothing.
use Prim.Native.Nat.{ℕ, zero, suc, ◌+◌, ◌-◌, ◌*◌, ◌/◌, ◌%◌, ◌≤◌, ◌<◌}
use native.Mathlib.Omega.{arith}
use native.Mathlib.Nat.{add-zero}
use native.Mathlib.Numerals.{add-one}
use mathlib.Core.Path.{◌≡◌, refl, sym, ap, ap₂, ◌∙◌}
use mathlib.Core.List.{List, [], ◌∷◌, ◌++◌}
use lib.ListN.{length, set, drop, replicate, length-append, length-replicate, replicate-append-replicate}
use lib.Seq.{sets, sets-eq, length-sets}
use borrow.Author.Tests.{lt-ltb, le-ltb}
use Rattle.format.specs.ShipText.{code_nibbles, fulls, rest, space_run}
use Rattle.format.specs.Calls.{over}
use Rattle.laws.proofs.ShipText.{fulls_more, fulls-length}

sets_append : (xs ys d : List ℕ) (at : ℕ) → sets d at (xs ++ ys) ≡ sets (sets d at xs) (at + length xs) ys
sets_append [] ys d at = ap (λ (k : ℕ). sets d k ys) (sym (add-zero at))
sets_append (a ∷ xs) ys d at =
    let e : suc at + length xs ≡ at + suc (length xs) = omega arith in
    sets_append xs ys (set d at a) (suc at) ∙ ap (λ (k : ℕ). sets (sets d at (a ∷ xs)) k ys) e

-- stores behind stores
pub stores : (d o p xs ys : List ℕ) (at k : ℕ) → o ≡ sets d at xs → k ≡ at + length xs → p ≡ sets o k ys → p ≡ sets d at (xs ++ ys)
stores d o p xs ys at k e f g = g ∙ ap₂ (λ (l : List ℕ) (j : ℕ). sets l j ys) e f ∙ sym (sets_append xs ys d at)

pub stores_length : (d o xs : List ℕ) (at : ℕ) → o ≡ sets d at xs → length o ≡ length d
stores_length d o xs at e = ap length e ∙ length-sets d at xs

-- a loop's stores, at its end
pub stores_end : (f : ℕ → List ℕ) (d o : List ℕ) (at n i : ℕ) → o ≡ sets d at (f i) → i ≤ n → n ≤ i → o ≡ sets d at (f n)
stores_end f d o at n i e h k =
    let j : i ≡ n = omega arith in
    e ∙ ap (λ (m : ℕ). sets d at (f m)) j

-- stores from the first place on
pub stores_over : (d o xs : List ℕ) → length xs ≤ length d → o ≡ sets d 0 xs → o ≡ over xs d
stores_over d o xs h e =
    let z : 0 + length xs ≡ length xs = omega arith in
    e ∙ sets-eq xs d 0 (omega arith) ∙ ap (λ (k : ℕ). xs ++ drop k d) z

-- ---- a few of them: the place behind, and the list

module _ (d : List ℕ) (at : ℕ) (xs : List ℕ) where
  pub store_none : xs ≡ [] → (at ≡ at + length xs) × (d ≡ sets d at xs)
  store_none e = rw e (omega arith, refl)

  pub store_one : (o : List ℕ) (a : ℕ) → xs ≡ a ∷ [] → o ≡ set d at a → (at + 1 ≡ at + length xs) × (o ≡ sets d at xs)
  store_one o a e f = rw e (refl, f)

  pub store_two : (o p : List ℕ) (a b : ℕ) → xs ≡ a ∷ b ∷ [] → o ≡ set d at a → p ≡ set o (at + 1) b → (at + 2 ≡ at + length xs) × (p ≡ sets d at xs)
  store_two o p a b e f g = rw e (refl, rw add-one at (g ∙ ap (λ (l : List ℕ). set l (at + 1) b) f))

  pub store_three : (o p q : List ℕ) (a b c : ℕ) → xs ≡ a ∷ b ∷ c ∷ [] → o ≡ set d at a → p ≡ set o (at + 1) b → q ≡ set p (at + 2) c
      → q ≡ sets d at xs
  store_three o p q a b c e f g h =
      let k : at + 2 ≡ suc (suc at) = omega arith in
      rw e (rw (k, add-one) at (h ∙ ap (λ (l : List ℕ). set l (at + 2) c) (g ∙ ap (λ (l : List ℕ). set l (at + 1) b) f)))

-- ---- one byte so many times

pub bytes_more : (d o : List ℕ) (at i b : ℕ) → o ≡ sets d at (replicate i b) → set o (at + i) b ≡ sets d at (replicate (i + 1) b)
bytes_more d o at i b e =
    let k : at + i ≡ at + length (replicate {A = ℕ} i b) = omega (arith, length-replicate {A = ℕ} i b) in
    stores d o (set o (at + i) b) (replicate i b) (b ∷ []) at (at + i) e k refl ∙ ap (sets d at) (replicate-append-replicate i 1 b)

pub byte_one : (d : List ℕ) (at n b : ℕ) → n ≡ 1 → set d at b ≡ sets d at (replicate n b)
byte_one d at n b e = rw e

-- ---- a run

pub fulls_none : (d : List ℕ) (at : ℕ) → d ≡ sets d at (fulls 0)
unfolding fulls
fulls_none d at = refl

pub fulls-turn : (d o p q : List ℕ) (at i : ℕ) → o ≡ sets d at (fulls i) → p ≡ set o (at + 2 * i) 11 → q ≡ set p (at + 2 * i + 1) 15
    → q ≡ sets d at (fulls (i + 1))
fulls-turn d o p q at i e f g =
    let k : at + 2 * i ≡ at + length (fulls i) = omega (arith, fulls-length i) in
    stores d o q (fulls i) (11 ∷ 15 ∷ []) at (at + 2 * i) e k (store_two o (at + 2 * i) (11 ∷ 15 ∷ []) p q 11 15 refl f g).1
    ∙ ap (sets d at) (sym (fulls_more i) ∙ ap fulls (sym (add-one i)))

pub rest_is : (r : ℕ) → 3 ≤ r → rest r ≡ 11 ∷ (r - 3) ∷ []
unfolding rest
rest_is zero h = absurd (omega arith)
rest_is (suc zero) h = absurd (omega arith)
rest_is (suc (suc zero)) h = absurd (omega arith)
rest_is (suc (suc (suc r))) h = let e : r ≡ suc (suc (suc r)) - 3 = omega arith in ap (λ (m : ℕ). 11 ∷ m ∷ []) e

pub run_stored : (d o p : List ℕ) (at s x : ℕ) → o ≡ sets d at (fulls (s / 18))
    → (x ≡ at + 2 * (s / 18) + length (rest (s % 18))) × (p ≡ sets o (at + 2 * (s / 18)) (rest (s % 18)))
    → (x ≡ at + length (space_run s)) × (p ≡ sets d at (space_run s))
unfolding space_run
run_stored d o p at s x e f =
    let n = fulls-length (s / 18) in (
      f.0 ∙ omega (arith, length-append (fulls (s / 18)) (rest (s % 18))),
      stores d o p (fulls (s / 18)) (rest (s % 18)) at (at + 2 * (s / 18)) e (omega arith) f.1,
    )

-- ---- a code

pub code_one : (v : ℕ) → v < 16 → code_nibbles v ≡ v ∷ []
unfolding code_nibbles
code_one v h = rw (lt-ltb v 16 h)

pub code_two : (v : ℕ) → 16 ≤ v → v < 256 → code_nibbles v ≡ v / 16 ∷ v % 16 ∷ []
unfolding code_nibbles
code_two v h k = rw (le-ltb v 16 h, lt-ltb v 256 k)

pub code_three : (v : ℕ) → 256 ≤ v → code_nibbles v ≡ v / 256 ∷ v / 16 % 16 ∷ v % 16 ∷ []
unfolding code_nibbles
code_three v h = rw (le-ltb v 16 (omega arith), le-ltb v 256 h)
