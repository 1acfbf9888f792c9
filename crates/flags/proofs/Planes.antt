-- Nibbles taken at once, nibble by nibble: those over 10, and how much flags weigh.
-- Assumes nothing.
use Prim.Native.Nat.{ℕ, zero, suc, ◌+◌, ◌-◌, ◌*◌, ◌/◌, ◌%◌, ◌^◌, ◌≤◌, ◌<◌}
use native.Mathlib.Omega.{arith}
use native.Mathlib.Nat.{mul_comm, div-div-eq-div-mul}
use mathlib.Core.Path.{◌≡◌, refl, sym, ap, ap₂, ◌∙◌}
use mathlib.Core.Bool.{Bool, true, false, cond, ◌&&◌}
use lib.Bits.{bit_and, bit_or, and_block, or_block, and_mask, and_lt, or_lt, and_le_r, and_zero_l, and_zero_r, or_zero_l}
use lib.Count.{ones, ones_in, ones_cat}
use lib.ListN.{length}
use lib.Dec.{eqb, leb, ltb}
use borrow.Author.Tests.{eqb-true, eqb-false, ne_eqb, le-leb, lt-leb, leb-true, leb-false, ltb-true}
use Rattle.format.specs.Flags.{FlagTable, weights, weight, total_weight, flag_fits, flags_fit}
use Rattle.laws.proofs.Sequences.{test_case}
use Rattle.laws.proofs.Flags.{weights_le}
use Rattle.laws.proofs.Characters.{all_below, at_below}
use Rattle.flags.proofs.Row.{and_false_right, in_length, weights_more, fit_more}
use Rattle.flags.specs.Word.{nibbles_in}
use Rattle.flags.specs.Planes.{mask, plane_of, over_of, reached_of, steps_of}

-- ---- one nibble more

-- a bit of a nibble
abbrev bit : ℕ → ℕ → ℕ
bit k u = u / 2 ^ k % 2

bit_lt : (k u : ℕ) → bit k u < 16
bit_lt k u = omega arith

bit_low : (k w : ℕ) → k < 4 → w / 2 ^ k % 16 % 2 ≡ bit k (w % 16)
bit_low zero w h = let e : w / 1 % 16 % 2 ≡ w % 16 / 1 % 2 = omega arith in e
bit_low (suc zero) w h = let e : w / 2 % 16 % 2 ≡ w % 16 / 2 % 2 = omega arith in e
bit_low (suc (suc zero)) w h = let e : w / 4 % 16 % 2 ≡ w % 16 / 4 % 2 = omega arith in e
bit_low (suc (suc (suc zero))) w h = let e : w / 8 % 16 % 2 ≡ w % 16 / 8 % 2 = omega arith in e
bit_low (suc (suc (suc (suc k)))) w h = absurd (omega arith)

plane_more : (k w m : ℕ) → k < 4 → plane_of k (m * 16 + 1) w ≡ plane_of k m (w / 16) * 16 + bit k (w % 16)
plane_more k w m h =
    let q : w / 2 ^ k / 16 ≡ w / 16 / 2 ^ k = div-div-eq-div-mul w (2 ^ k) 16 ∙ ap (λ (d : ℕ). w / d) (mul_comm (2 ^ k) 16) ∙ sym (div-div-eq-div-mul w 16 (2 ^ k)) in
    let e : w / 2 ^ k ≡ w / 16 / 2 ^ k * 16 + w / 2 ^ k % 16 = omega (arith, q) in
    ap (λ (y : ℕ). bit_and y (m * 16 + 1)) e ∙ and_block 4 (w / 16 / 2 ^ k) m (w / 2 ^ k % 16) 1 (omega arith) (omega arith)
    ∙ ap (λ (y : ℕ). bit_and (w / 16 / 2 ^ k) m * 16 + y) (and_mask (w / 2 ^ k % 16) 1 ∙ bit_low k w h)

and_two : (a b r s : ℕ) → r < 16 → s < 16 → bit_and (a * 16 + r) (b * 16 + s) ≡ bit_and a b * 16 + bit_and r s
and_two a b r s hr hs = and_block 4 a b r s hr hs

or_two : (a b r s : ℕ) → r < 16 → s < 16 → bit_or (a * 16 + r) (b * 16 + s) ≡ bit_or a b * 16 + bit_or r s
or_two a b r s hr hs = or_block 4 a b r s hr hs

-- what a single nibble brings
over_one : ℕ → ℕ
over_one u = bit_and (bit 3 u) (bit_or (bit 2 u) (bit_and (bit 1 u) (bit 0 u)))

reached_one : ℕ → ℕ
reached_one u = bit_or (bit_or (bit 3 u) (bit 2 u)) (bit 1 u) + 2 * bit_or (bit 3 u) (bit 2 u) + 4 * bit_or (bit 3 u) (bit_and (bit_and (bit 2 u) (bit 1 u)) (bit 0 u))

module _ (w m : ℕ) where
  abbrev u : ℕ
  u = w % 16

  abbrev h : ℕ
  h = w / 16

  more : (k : ℕ) → k < 4 → plane_of k (m * 16 + 1) w ≡ plane_of k m h * 16 + bit k u
  more k l = plane_more k w m l

  cd : bit_and (plane_of 1 (m * 16 + 1) w) (plane_of 0 (m * 16 + 1) w) ≡ bit_and (plane_of 1 m h) (plane_of 0 m h) * 16 + bit_and (bit 1 u) (bit 0 u)
  cd = ap₂ bit_and (more 1 (omega arith)) (more 0 (omega arith)) ∙ and_two _ _ _ _ (bit_lt 1 u) (bit_lt 0 u)

  ab : bit_or (plane_of 3 (m * 16 + 1) w) (plane_of 2 (m * 16 + 1) w) ≡ bit_or (plane_of 3 m h) (plane_of 2 m h) * 16 + bit_or (bit 3 u) (bit 2 u)
  ab = ap₂ bit_or (more 3 (omega arith)) (more 2 (omega arith)) ∙ or_two _ _ _ _ (bit_lt 3 u) (bit_lt 2 u)

  over_more : over_of (m * 16 + 1) w ≡ over_of m h * 16 + over_one u
  unfolding over_one
  over_more =
      let cd-small = and_lt 4 (bit 1 u) (bit 0 u) (bit_lt 1 u) (bit_lt 0 u) in
      let r = ap₂ bit_or (more 2 (omega arith)) cd ∙ or_two _ _ _ _ (bit_lt 2 u) cd-small in
      ap₂ bit_and (more 3 (omega arith)) r ∙ and_two _ _ _ _ (bit_lt 3 u) (or_lt 4 (bit 2 u) (bit_and (bit 1 u) (bit 0 u)) (bit_lt 2 u) cd-small)

  reached_more : reached_of (m * 16 + 1) w ≡ reached_of m h * 16 + reached_one u
  unfolding reached_one
  reached_more =
      let small = or_lt 4 (bit 3 u) (bit 2 u) (bit_lt 3 u) (bit_lt 2 u) in
      let one = ap₂ bit_or ab (more 1 (omega arith)) ∙ or_two _ _ _ _ small (bit_lt 1 u) in
      let bc = ap₂ bit_and (more 2 (omega arith)) (more 1 (omega arith)) ∙ and_two _ _ _ _ (bit_lt 2 u) (bit_lt 1 u) in
      let bc-small = and_lt 4 (bit 2 u) (bit 1 u) (bit_lt 2 u) (bit_lt 1 u) in
      let bcd = ap₂ bit_and bc (more 0 (omega arith)) ∙ and_two _ _ _ _ bc-small (bit_lt 0 u) in
      let three = ap₂ bit_or (more 3 (omega arith)) bcd ∙ or_two _ _ _ _ (bit_lt 3 u) (and_lt 4 (bit_and (bit 2 u) (bit 1 u)) (bit 0 u) bc-small (bit_lt 0 u)) in
      omega (arith, one, ab, three)

-- ---- all of them

-- by one computed test each
over-one : (u : ℕ) → u < 16 → over_one u ≡ cond (leb u 10) 0 1
unfolding over_one all_below
over-one u h = eqb-true _ _ (at_below 16 (λ k. eqb (over_one k) (cond (leb k 10) 0 1)) u refl h)

reached_one_lem : (u : ℕ) → u < 16 → (7 * over_one u ≤ reached_one u) × (reached_one u < 16)
unfolding over_one reached_one all_below
reached_one_lem u h =
    (leb-true _ _ (at_below 16 (λ k. leb (7 * over_one k) (reached_one k)) u refl h), ltb-true _ _ (at_below 16 (λ k. ltb (reached_one k) 16) u refl h))

weight-one : (u : ℕ) → u < 16 → ones (reached_one u - 7 * over_one u) ≡ weight u
unfolding over_one reached_one all_below ones ones_in weight weights
weight-one u h = eqb-true _ _ (at_below 16 (λ k. eqb (ones (reached_one k - 7 * over_one k)) (weight k)) u refl h)

over_zero : (w : ℕ) → over_of 0 w ≡ 0
over_zero w =
    let low = bit_or (plane_of 2 0 w) (bit_and (plane_of 1 0 w) (plane_of 0 0 w)) in
    ap (λ (x : ℕ). bit_and x low) (and_zero_r (w / 2 ^ 3)) ∙ and_zero_l low

reached_zero : (w : ℕ) → reached_of 0 w ≡ 0
reached_zero w =
    let ab : bit_or (plane_of 3 0 w) (plane_of 2 0 w) ≡ 0 = ap₂ bit_or (none 3) (none 2) ∙ or_zero_l 0 in
    let abc : bit_or (bit_or (plane_of 3 0 w) (plane_of 2 0 w)) (plane_of 1 0 w) ≡ 0 = ap₂ bit_or ab (none 1) ∙ or_zero_l 0 in
    let bc = bit_and (plane_of 2 0 w) (plane_of 1 0 w) in
    let bcd : bit_and bc (plane_of 0 0 w) ≡ 0 = ap (bit_and bc) (none 0) ∙ and_zero_r bc in
    let all : bit_or (plane_of 3 0 w) (bit_and (bit_and (plane_of 2 0 w) (plane_of 1 0 w)) (plane_of 0 0 w)) ≡ 0 = ap₂ bit_or (none 3) bcd ∙ or_zero_l 0 in
    omega (arith, ab, abc, all)
  where
    none : (k : ℕ) → plane_of k 0 w ≡ 0
    none k = and_zero_r (w / 2 ^ k)

over-within : (n w : ℕ) → 7 * over_of (mask n) w ≤ reached_of (mask n) w
unfolding mask
over-within zero w =
    omega (arith, over_zero w)
over-within (suc n) w = omega (arith, over-within n (w / 16), over_more w (mask n), reached_more w (mask n), reached_one_lem (w % 16) (omega arith))

-- a nibble more: what it adds
steps_more : (n w : ℕ) → steps_of (mask (suc n)) w ≡ steps_of (mask n) (w / 16) * 16 + (reached_one (w % 16) - 7 * over_one (w % 16))
unfolding mask
steps_more n w = omega (arith, over-within n (w / 16), over_more w (mask n), reached_more w (mask n), reached_one_lem (w % 16) (omega arith))

-- the bits of all are what the flags weigh
pub steps_weigh : (n w : ℕ) → ones (steps_of (mask n) w) ≡ total_weight (nibbles_in n w)
unfolding mask nibbles_in total_weight ones ones_in
steps_weigh zero w = let z : steps_of 0 w ≡ 0 = omega (arith, reached_zero w) in ap ones z
steps_weigh (suc n) w =
    let k = reached_one_lem (w % 16) (omega arith) in
    ap ones (steps_more n w) ∙ ones_cat 4 (steps_of (mask n) (w / 16)) (reached_one (w % 16) - 7 * over_one (w % 16)) (omega arith)
    ∙ ap₂ (λ (x y : ℕ). x + y) (steps_weigh n (w / 16)) (weight-one (w % 16) (omega arith)) ∙ sym (weights_more (nibbles_in n (w / 16)) (w % 16))

pub weighed : (w r : ℕ) → r ≡ steps_of (mask 14) w → (ones r ≡ total_weight (nibbles_in 14 w)) × (ones r ≤ 42)
weighed w r e = let is = ap ones e ∙ steps_weigh 14 w in (is, omega (arith, is, weights_le (nibbles_in 14 w), in_length 14 w))

-- ---- fourteen of them, from their planes

pub plane_is : (k w : ℕ) → (bit_and (w / 2 ^ k) 0x11111111111111 ≡ plane_of k (mask 14) w) × (bit_and (w / 2 ^ k) 0x11111111111111 < 2 ^ 53)
unfolding mask
plane_is k w = (refl, omega (arith, and_le_r (w / 2 ^ k) 0x11111111111111))

pub or_small : (x y : ℕ) → x < 2 ^ 53 → y < 2 ^ 53 → bit_or x y < 2 ^ 53
or_small x y = or_lt 53 x y

pub and_small : (x y : ℕ) → x < 2 ^ 53 → y < 2 ^ 53 → bit_and x y < 2 ^ 53
and_small x y = and_lt 53 x y

abbrev Plane : ℕ → ℕ → ℕ → Type 0
Plane k w r = (r ≡ plane_of k (mask 14) w) × (r < 2 ^ 53)

module _ (w a b c d : ℕ) (ea : Plane 3 w a) (eb : Plane 2 w b) (ec : Plane 1 w c) (ed : Plane 0 w d) where
  pub over_is : bit_and a (bit_or b (bit_and c d)) ≡ over_of (mask 14) w
  over_is = rw (ea.0, eb.0, ec.0, ed.0)

  reached_is : bit_or (bit_or a b) c + 2 * bit_or a b + 4 * bit_or a (bit_and (bit_and b c) d) ≡ reached_of (mask 14) w
  reached_is = rw (ea.0, eb.0, ec.0, ed.0)

  pub over_below : (o : ℕ) → o ≡ over_of (mask 14) w → 7 * o ≤ bit_or (bit_or a b) c + 2 * bit_or a b + 4 * bit_or a (bit_and (bit_and b c) d)
  over_below o e = omega (arith, over-within 14 w, reached_is)

-- none over 10, of which the last is one
pub over_last : (n w : ℕ) → over_of (mask (suc n)) w ≡ 0 → (over_of (mask n) (w / 16) ≡ 0) × (w % 16 ≤ 10)
unfolding mask
over_last n w e =
    let m = over_more w (mask n) in
    let one : over_one (w % 16) ≡ 0 = omega arith in
    (omega arith, ten (leb (w % 16) 10) refl (sym (over-one (w % 16) (omega arith)) ∙ one))
  where
    ten : (t : Bool) → leb (w % 16) 10 ≡ t → ◌≡◌ {A = ℕ} (cond t 0 1) 0 → w % 16 ≤ 10
    ten true q z = leb-true (w % 16) 10 q
    ten false q z = absurd (omega arith)

-- one that is over 10 fits no table
pub over_unfit : (marks : FlagTable) (n w : ℕ) → (over_of (mask n) w ≡ 0 → ⊥) → flags_fit marks 1 (nibbles_in n w) ≡ false
unfolding mask nibbles_in
over_unfit marks zero w o = absurd (o (over_zero w))
over_unfit marks (suc n) w o =
    let j = 1 + length (nibbles_in n (w / 16)) in
    fit_more marks 1 (nibbles_in n (w / 16)) (w % 16)
    ∙ test_case (eqb (over_of (mask n) (w / 16)) 0)
    (λ z.
    let rest = eqb-true (over_of (mask n) (w / 16)) 0 z in
    let high : 10 < w % 16 = over (leb (w % 16) 10) refl (λ e. o (over_more w (mask n) ∙ omega arith)) in
    let f : flag_fits marks j (w % 16) ≡ false = rw (ne_eqb (w % 16) 0 (λ q. omega arith), le-leb 1 (w % 16) (omega arith), lt-leb (w % 16) 10 high) in
    ap (λ (b : Bool). flags_fit marks 1 (nibbles_in n (w / 16)) && b) f ∙ and_false_right (flags_fit marks 1 (nibbles_in n (w / 16))))
    (λ z. ap (λ (b : Bool). b && flag_fits marks j (w % 16)) (over_unfit marks n (w / 16) (eqb-false (over_of (mask n) (w / 16)) 0 z)))
  where
    over : (t : Bool) → leb (w % 16) 10 ≡ t → (over_one (w % 16) ≡ 0 → ⊥) → 10 < w % 16
    over true q m = absurd (m (over-one (w % 16) (omega arith) ∙ rw q))
    over false q m = leb-false (w % 16) 10 q
