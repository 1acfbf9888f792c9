-- Which fields are required, by the ends of their runs.
-- Assumes nothing.
use Prim.Native.Nat.{ℕ, ◌≤◌}
use native.Mathlib.Decide.{ℕ_discrete}
use native.Mathlib.Omega.{arith}
use mathlib.Core.Path.{◌≡◌, sym, ap}
use mathlib.Core.Bool.{true, false}
use borrow.Author.Tests.{ne_eqb}
use Rattle.format.specs.Field.{required}

-- 1 to 3, and 6 and 7
pub required_low : (k : ℕ) → 1 ≤ k → k ≤ 3 → true ≡ required k
unfolding required
required_low k l h = go (ℕ_discrete k 1) (ℕ_discrete k 2)
  where
    go : Dec (k ≡ 1) → Dec (k ≡ 2) → true ≡ required k
    go (yes e) d = sym (ap required e)
    go (no n) (yes e) = sym (ap required e)
    go (no n) (no m) = let e : k ≡ 3 = omega arith in sym (ap required e)

pub required_high : (k : ℕ) → 6 ≤ k → k ≤ 7 → true ≡ required k
unfolding required
required_high k l h = go (ℕ_discrete k 6)
  where
    go : Dec (k ≡ 6) → true ≡ required k
    go (yes e) = sym (ap required e)
    go (no n) = let e : k ≡ 7 = omega arith in sym (ap required e)

-- and no other
pub not_required : (k : ℕ) → (k ≡ 1 → ⊥) → (k ≡ 2 → ⊥) → (k ≡ 3 → ⊥) → (k ≡ 6 → ⊥) → (k ≡ 7 → ⊥) → false ≡ required k
unfolding required
not_required k a b c d e = rw (ne_eqb k 1 a, ne_eqb k 2 b, ne_eqb k 3 c, ne_eqb k 6 d, ne_eqb k 7 e)
