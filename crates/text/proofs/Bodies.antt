-- A body's nibbles, taken one by one or two with each byte.
-- Assumes nothing.
use Prim.Native.Nat.{ℕ, suc, ◌+◌, ◌-◌, ◌*◌, ◌/◌, ◌%◌, ◌≤◌, ◌<◌}
use native.Mathlib.Numerals.{add-one}
use native.Mathlib.Omega.{arith}
use mathlib.Core.Path.{◌≡◌, refl, sym, ap, ap₂, subst, ◌∙◌}
use mathlib.Core.Bool.{Bool}
use mathlib.Core.List.{List, ◌∷◌}
use lib.Dec.{eqb}
use lib.ListN.{length, get_or, take, drop, length-drop}
use lib.Seq.{drop-cons, drop-drop, take_all}
use Rattle.format.specs.Nibbles.{nibbles}
use Rattle.format.specs.ShipText.{text_valid}
use Rattle.laws.proofs.Nibbles.{length-nibbles, nibbles-drop}
use Rattle.text.specs.Rows.{next_state, place_after, byte_next, Placed, held}
use Rattle.text.proofs.Rows.{next-placed, valid_place, place-held}

-- n nibbles of v are left, from place p on: they end where the body ends
pub record Left (end p n : ℕ) (v : List ℕ) : Type 0 where
  pub place : Placed p
  pub inside : n ≤ length v
  pub rest : place_after p (take n v) ≡ end

left_all : (p n : ℕ) (v : List ℕ) → Placed p → n ≤ length v → Left (place_after p (take n v)) p n v
left_all p n v s h = record { place = s; inside = h; rest = refl }

-- with the place held
pub left-held : (p n : ℕ) (v : List ℕ) → Placed p → n ≤ length v → Left (place_after p (take n v)) (held (p / 4 * 6)) n v
left-held p n v s h = subst (λ (q : ℕ). Left (place_after p (take n v)) q n v) (sym (place-held p s).1) (left_all p n v s h)

pub left_body : (n : ℕ) (v : List ℕ) → n ≤ length v → Left (place_after 4 (take n v)) 4 n v
left_body n v h = left_all 4 n v (record { low = omega arith; whole = omega arith }) h

-- the body is valid if the rest ends where no space waits
pub left_valid : (p n : ℕ) (v ns : List ℕ) → Left (place_after 4 ns) p n v → (t : Bool) → t ≡ eqb (place_after p (take n v)) 4 → t ≡ text_valid ns
left_valid p n v ns l t e = e ∙ ap (λ (k : ℕ). eqb k 4) l.rest ∙ valid_place ns

pub left_none : (end p n : ℕ) (v : List ℕ) → Left end p n v → n ≡ 0 → p ≡ end
unfolding place_after
left_none end p n v l e = rw e at l.rest

-- one is taken
left-first : (end p n q x : ℕ) (v r : List ℕ) → v ≡ x ∷ r → Left end p n v → 0 < n → q ≡ next_state p x → Left end q (n - 1) r
unfolding place_after
left-first end p n q x v r e l h f =
    let m : suc (n - 1) ≡ n = omega arith in
    record {
      place = subst Placed (sym f) (next-placed p x l.place);
      inside = omega (arith, l.inside, ap length e);
      rest = ap (λ (k : ℕ). place_after k (take (n - 1) r)) f ∙ ap₂ (λ (k : ℕ) (w : List ℕ). place_after p (take k w)) m (sym e) ∙ l.rest;
    }

from : (s : List ℕ) (i : ℕ) → i < length s → drop i s ≡ get_or s i 0 ∷ drop (i + 1) s
from s i h = rw add-one (drop-cons s i 0 h)

-- ---- one nibble a byte

module _ (end p n : ℕ) (s : List ℕ) (i : ℕ) (l : Left end p n (drop i s)) (h : 0 < n) where
  pub nibble_inside : i < length s
  nibble_inside = omega (arith, l.inside, length-drop i s)

  pub left_nibble : (q m : ℕ) → q ≡ next_state p (get_or s i 0) → m ≡ n - 1 → Left end q m (drop (i + 1) s)
  left_nibble q m e f = subst (λ (k : ℕ). Left end q k (drop (i + 1) s)) (sym f) (left-first end p n q (get_or s i 0) (drop i s) (drop (i + 1) s) (from s i nibble_inside) l h e)

-- ---- two nibbles a byte

module _ (end p n : ℕ) (s : List ℕ) (i : ℕ) (l : Left end p n (nibbles (drop i s))) (h : 0 < n) where
  pub byte_inside : i < length s
  byte_inside = omega (arith, l.inside, length-drop i s, length-nibbles (drop i s))

  left_high : (q : ℕ) → q ≡ next_state p (get_or s i 0 / 16) → Left end q (n - 1) (get_or s i 0 % 16 ∷ nibbles (drop (i + 1) s))
  unfolding nibbles
  left_high q e = left-first end p n q (get_or s i 0 / 16) (nibbles (drop i s)) _ (ap nibbles (from s i byte_inside)) l h e

  pub left_half : n ≤ 1 → (q : ℕ) → q ≡ next_state p (get_or s i 0 / 16) → q ≡ end
  left_half k q e = left_none end q (n - 1) _ (left_high q e) (omega arith)

  pub left_byte : 1 < n → (q j : ℕ) → q ≡ byte_next p (get_or s i 0) → j ≡ n - 2 → Left end q j (nibbles (drop (i + 1) s))
  unfolding byte_next
  left_byte k q j e f =
      let b = get_or s i 0 in
      let v = nibbles (drop (i + 1) s) in
      let m = next_state p (b / 16) in
      let two : n - 1 - 1 ≡ j = omega arith in
      subst (λ (k : ℕ). Left end q k v) two (left-first end m (n - 1) q (b % 16) (b % 16 ∷ v) v refl (left_high m refl) (omega arith) e)

-- a part, from its two ends
pub same_part : (s : List ℕ) (at len : ℕ) → take (at + len - at) (drop at s) ≡ take len (drop at s)
same_part s at len = let e : at + len - at ≡ len = omega arith in ap (λ (k : ℕ). take k (drop at s)) e

-- ---- where a packed body begins: at a byte, or in the middle of one

-- the bytes from one on
abbrev pub rest : List ℕ → ℕ → List ℕ
rest s k = take (length s - k) (drop k s)

rest_is : (s : List ℕ) (k : ℕ) → rest s k ≡ drop k s
rest_is s k = take_all (length s - k) (drop k s) (omega (arith, length-drop k s))

module _ (s : List ℕ) (at len : ℕ) (within : at + len ≤ 2 * length s) where
  h : at + len ≤ length (nibbles s)
  h = omega (arith, length-nibbles s)

  pub left-even : at % 2 ≡ 0 → Left (place_after 4 (take len (drop at (nibbles s)))) 4 len (nibbles (rest s (at / 2)))
  left-even k =
      let e : at ≡ 2 * (at / 2) = omega arith in
      rw (rest_is s (at / 2), nibbles-drop (at / 2) s, ← e) (left_body len (drop at (nibbles s)) (omega (arith, h, length-drop at (nibbles s))))

  pub odd_inside : 0 < len → at / 2 < length s
  odd_inside k = omega (arith, length-nibbles s)

  middle : (at % 2 ≡ 0 → ⊥) → 0 < len → drop at (nibbles s) ≡ get_or s (at / 2) 0 % 16 ∷ nibbles (drop (at / 2 + 1) s)
  unfolding nibbles
  middle k m =
      let e : at ≡ 2 * (at / 2) + 1 = omega arith in
      ap (λ (j : ℕ). drop j (nibbles s)) e
      ∙ sym (drop-drop 1 (2 * (at / 2)) (nibbles s))
      ∙ ap (drop 1) (sym (nibbles-drop (at / 2) s) ∙ ap nibbles (from s (at / 2) (odd_inside m)))

  pub left-odd : (at % 2 ≡ 0 → ⊥) → 0 < len → (q : ℕ) → q ≡ next_state 4 (get_or s (at / 2) 0 % 16)
      → Left (place_after 4 (take len (drop at (nibbles s)))) q (len - 1) (nibbles (rest s (at / 2 + 1)))
  left-odd k m q e =
      rw (rest_is s (at / 2 + 1))
      (left-first _ 4 len q _ _ _ (middle k m) (left_body len (drop at (nibbles s)) (omega (arith, h, length-drop at (nibbles s)))) m e)
