-- Coded and scaled on the machine: what its signed sums, differences and tests ask and tell.
-- Assumes nothing.
use Prim.Native.Nat.{ℕ, ◌+◌, ◌/◌, ◌%◌, ◌≤◌, ◌<◌}
use native.Mathlib.Omega.{arith}
use mathlib.Core.Path.{◌≡◌, refl, sym, ap, ap₂, subst, ◌∙◌}
use mathlib.Core.Bool.{Bool, true, false, not, and-false}
use lib.Dec.{T, ltb}
use lib.IntN.{ℤ, pos, negsuc, neg_ℤ, nat_abs, sub_ℕ, ◌+ℤ◌, ◌-ℤ◌, +ℤ_assoc, +ℤ_comm, +ℤ-neg_ℤ_cancel}
use lib.Signed.{lt_z, le_z, non_neg}
use mir.Syntax.{w16, w64}
use mir.Val.{Fits, SFits, to_z, of_z}
use mir.ValLaws.{to_z-of_z, to_z_pos}
use borrow.Author.Tests.{ltb-true, ltb-false, le-leb, lt-leb}
use Rattle.format.specs.Field.{Field, coded, scaled, coded_of, scaled_of, in_range}
use Rattle.format.specs.declared.Coded.{Coded}
use Rattle.format.specs.declared.Scaled.{Scaled}
use Rattle.laws.proofs.Fields.{scaled-coded, coded_range}
use Rattle.std.specs.Prelude.{Some, None}
use Rattle.card.specs.Answers.{coding_of}
use Rattle.card.specs.Rows.{base_of, field_in}

-- ---- sums with a base

less_fits : (n : ℕ) → n < 1000000 → SFits w64 (pos n -ℤ pos 1000)
less_fits n h = go (ltb n 1000) refl
  where
    go : (t : Bool) → ltb n 1000 ≡ t → SFits w64 (sub_ℕ n 1000)
    go true e = rw e (record { sfits = omega arith })
    go false e = rw e (record { sfits = omega arith })

less_add : (n j : ℕ) → (pos n -ℤ pos 1000) +ℤ pos j ≡ pos (n + j) -ℤ pos 1000
less_add n j =
    +ℤ_assoc (pos n) (neg_ℤ (pos 1000)) (pos j) ∙ ap (λ (z : ℤ). pos n +ℤ z) (+ℤ_comm (neg_ℤ (pos 1000)) (pos j))
    ∙ sym (+ℤ_assoc (pos n) (pos j) (neg_ℤ (pos 1000)))

base_fits : (r : ℕ) → SFits w64 (base_of r)
unfolding base_of
base_fits r = less_fits (r % 65536) (omega arith)

base_add_fits : (r j : ℕ) → j < 65536 → SFits w64 (base_of r +ℤ pos j)
unfolding base_of
base_add_fits r j h = subst (λ (z : ℤ). SFits w64 z) (sym (less_add (r % 65536) j)) (less_fits (r % 65536 + j) (omega arith))

-- the base as the machine works it out
module _ (r : ℕ) where
  less_is : to_z w64 (r % 65536) -ℤ pos 1000 ≡ base_of r
  unfolding base_of
  less_is = ap (λ (z : ℤ). z -ℤ pos 1000) (to_z_pos w64 (r % 65536) (omega arith))

  pub base_less_fits : SFits w64 (to_z w64 (r % 65536) -ℤ pos 1000)
  base_less_fits = subst (λ (z : ℤ). SFits w64 z) (sym less_is) (base_fits r)

  pub base_is : to_z w64 (of_z w64 (to_z w64 (r % 65536) -ℤ pos 1000)) ≡ base_of r
  base_is = to_z-of_z w64 _ base_less_fits ∙ less_is

-- and as a local holds it
pub base_held : (b : ℤ) (r : ℕ) → b ≡ base_of r → to_z w64 (of_z w64 b) ≡ b
base_held b r e = to_z-of_z w64 b (subst (λ (z : ℤ). SFits w64 z) (sym e) (base_fits r))

-- ---- a scaled value

module _ (c : Coded) (r : ℕ) (b : ℤ) (h : c.0 < 65536) (e : b ≡ base_of r) where
  sum_is : to_z w64 c.0 +ℤ to_z w64 (of_z w64 b) ≡ base_of r +ℤ pos c.0
  sum_is = ap₂ ◌+ℤ◌ (to_z_pos w64 c.0 (omega arith)) (base_held b r e ∙ e) ∙ +ℤ_comm (pos c.0) (base_of r)

  pub scaled_fits : SFits w64 (to_z w64 c.0 +ℤ to_z w64 (of_z w64 b))
  scaled_fits = subst (λ (z : ℤ). SFits w64 z) (sym sum_is) (base_add_fits r c.0 h)

  pub scaled_is : scaled (to_z w64 (of_z w64 (to_z w64 c.0 +ℤ to_z w64 (of_z w64 b)))) ≡ scaled_of (field_in r) c
  unfolding scaled_of
  scaled_is = ap scaled (to_z-of_z w64 _ scaled_fits ∙ sum_is ∙ +ℤ_comm (base_of r) (pos c.0))

-- ---- a coded number

-- the ends of the range as the machine works them out: the base and j
module _ (r j : ℕ) (b : ℤ) (h : j < 65536) (e : b ≡ base_of r) where
  end_is : to_z w64 (of_z w64 b) +ℤ to_z w64 j ≡ base_of r +ℤ pos j
  end_is = ap₂ ◌+ℤ◌ (base_held b r e ∙ e) (to_z_pos w64 j (omega arith))

  pub end_fits : SFits w64 (to_z w64 (of_z w64 b) +ℤ to_z w64 j)
  end_fits = subst (λ (z : ℤ). SFits w64 z) (sym end_is) (base_add_fits r j h)

  pub end_held : to_z w64 (of_z w64 (to_z w64 (of_z w64 b) +ℤ to_z w64 j)) ≡ base_of r +ℤ pos j
  end_held = to_z-of_z w64 _ end_fits ∙ end_is

le_not_lt : (a b : ℤ) (t : Bool) → lt_z a b ≡ t → le_z b a ≡ not t
le_not_lt (pos a) (pos b) true e = lt-leb b a (ltb-true a b e)
le_not_lt (pos a) (pos b) false e = le-leb b a (ltb-false a b e)
le_not_lt (pos a) (negsuc b) t e = ap not e
le_not_lt (negsuc a) (pos b) t e = ap not e
le_not_lt (negsuc a) (negsuc b) true e = lt-leb a b (ltb-true b a e)
le_not_lt (negsuc a) (negsuc b) false e = le-leb a b (ltb-false b a e)

module _ (f : Field) (v : Scaled) where
  -- a value below the range, or above it, is outside
  pub outside_below : lt_z v.0 (f.base +ℤ pos 1) ≡ true → None ≡ coding_of f v
  unfolding coding_of in_range
  outside_below e = rw (le_not_lt v.0 (f.base +ℤ pos 1) true e)

  pub outside_above : lt_z (f.base +ℤ pos f.highest) v.0 ≡ true → None ≡ coding_of f v
  unfolding coding_of in_range
  outside_above e = rw (le_not_lt (f.base +ℤ pos f.highest) v.0 true e, and-false)

  pub within : lt_z v.0 (f.base +ℤ pos 1) ≡ false → lt_z (f.base +ℤ pos f.highest) v.0 ≡ false → in_range f v ≡ true
  unfolding in_range
  within d e = rw (le_not_lt v.0 (f.base +ℤ pos 1) false d, le_not_lt (f.base +ℤ pos f.highest) v.0 false e)

  -- of a value in range the difference from the base is the coded number
  pub less_base : in_range f v ≡ true → v.0 -ℤ f.base ≡ pos (coded_of f v).0
  unfolding scaled_of
  less_base e =
      ap (λ (x : Scaled). x.0 -ℤ f.base) (sym (scaled-coded f v e)) ∙ +ℤ-neg_ℤ_cancel (pos (coded_of f v).0) f.base

  pub coding_is : in_range f v ≡ true → (z : ℤ) → z ≡ pos (coded_of f v).0 → Some (coded (nat_abs z)) ≡ coding_of f v
  unfolding coding_of
  coding_is i z e = rw (i, e)

-- the machine's tests of a value against its ends, and the difference: b is the base, h the highest coded number
module _ (r : ℕ) (v : Scaled) (b : ℤ) (h : ℕ) (eb : b ≡ base_of r) (eh : h ≡ r / 65536 % 4096) (held : to_z w64 (of_z w64 v.0) ≡ v.0) where
  below_is : (t : Bool) → lt_z (to_z w64 (of_z w64 v.0)) (to_z w64 (of_z w64 (to_z w64 (of_z w64 b) +ℤ pos 1))) ≡ t → lt_z v.0 ((field_in r).base +ℤ pos 1) ≡ t
  below_is t e = sym (ap₂ lt_z held (end_held r 1 b (omega arith) eb)) ∙ e

  above_is : (t : Bool) → lt_z (to_z w64 (of_z w64 (to_z w64 (of_z w64 b) +ℤ to_z w64 h))) (to_z w64 (of_z w64 v.0)) ≡ t
      → lt_z ((field_in r).base +ℤ pos (field_in r).highest) v.0 ≡ t
  above_is t e =
      sym (ap₂ lt_z (ap (λ (n : ℕ). to_z w64 (of_z w64 (to_z w64 (of_z w64 b) +ℤ to_z w64 n))) eh ∙ end_held r (r / 65536 % 4096) b (omega arith) eb) held) ∙ e

  pub found_below : lt_z (to_z w64 (of_z w64 v.0)) (to_z w64 (of_z w64 (to_z w64 (of_z w64 b) +ℤ pos 1))) ≡ true → None ≡ coding_of (field_in r) v
  found_below e = outside_below (field_in r) v (below_is true e)

  pub found_above : lt_z (to_z w64 (of_z w64 (to_z w64 (of_z w64 b) +ℤ to_z w64 h))) (to_z w64 (of_z w64 v.0)) ≡ true → None ≡ coding_of (field_in r) v
  found_above e = outside_above (field_in r) v (above_is true e)

  module _ (low : lt_z (to_z w64 (of_z w64 v.0)) (to_z w64 (of_z w64 (to_z w64 (of_z w64 b) +ℤ pos 1))) ≡ false)
      (high : lt_z (to_z w64 (of_z w64 (to_z w64 (of_z w64 b) +ℤ to_z w64 h))) (to_z w64 (of_z w64 v.0)) ≡ false) where
    inside : in_range (field_in r) v ≡ true
    inside = within (field_in r) v (below_is false low) (above_is false high)

    small : (coded_of (field_in r) v).0 ≤ 4095
    small = omega (arith, coded_range (field_in r) v inside)

    difference : to_z w64 (of_z w64 v.0) -ℤ to_z w64 (of_z w64 b) ≡ pos (coded_of (field_in r) v).0
    difference = ap₂ ◌-ℤ◌ held (base_held b r eb ∙ eb) ∙ less_base (field_in r) v inside

    held-difference : to_z w64 (of_z w64 (to_z w64 (of_z w64 v.0) -ℤ to_z w64 (of_z w64 b))) ≡ pos (coded_of (field_in r) v).0
    held-difference =
        ap (λ (z : ℤ). to_z w64 (of_z w64 z)) difference ∙ to_z-of_z w64 (pos (coded_of (field_in r) v).0) (record { sfits = omega (arith, small) })

    pub difference_fits : SFits w64 (to_z w64 (of_z w64 v.0) -ℤ to_z w64 (of_z w64 b))
    difference_fits = subst (λ (z : ℤ). SFits w64 z) (sym difference) (record { sfits = omega (arith, small) })

    pub cast_fits : T (non_neg (to_z w64 (of_z w64 (to_z w64 (of_z w64 v.0) -ℤ to_z w64 (of_z w64 b)))))
        × Fits w16 (nat_abs (to_z w64 (of_z w64 (to_z w64 (of_z w64 v.0) -ℤ to_z w64 (of_z w64 b)))))
    cast_fits = subst (λ (z : ℤ). T (non_neg z) × Fits w16 (nat_abs z)) (sym held-difference) (tt, record { fits = omega (arith, small) })

    pub found_code : Some (coded (nat_abs (to_z w64 (of_z w64 (to_z w64 (of_z w64 v.0) -ℤ to_z w64 (of_z w64 b)))))) ≡ coding_of (field_in r) v
    found_code = coding_is (field_in r) v inside _ held-difference
