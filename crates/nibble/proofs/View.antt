-- Laws of a buffer's nibbles, from a cursor on and n of them.
-- Assumes nothing.
use Prim.Native.Nat.{ℕ, ◌+◌, ◌-◌, ◌*◌, ◌/◌, ◌≤◌, ◌<◌}
use native.Mathlib.Nat.{add-zero}
use native.Mathlib.Numerals.{add-one}
use native.Mathlib.Omega.{arith}
use mathlib.Core.Path.{◌≡◌, refl, sym, ap, ◌∙◌}
use mathlib.Core.Bool.{Bool, true, false, cond, ◌&&◌}
use mathlib.Core.List.{List}
use lib.ListN.{length, get_or, take, drop, length-drop, drop_of_length-le}
use lib.Seq.{length-take-le, get_or-take, get_or-drop, take-take, drop-drop, drop-cons}
use lib.Dec.{ltb, leb}
use lib.Bits.{bit_or, or_lt, or_add_and, and_le_l, and_le_r}
use borrow.Author.Tests.{le-leb, leb-true, leb-false, lt-ltb}
use Rattle.std.specs.Prelude.{Some, None}
use Rattle.std.proofs.lemmas.Bool.Decides.{nat_tests}
use Rattle.format.specs.Nibbles.{length_at, id_at, Nibbles}
use Rattle.format.specs.Calls.{all_nibbles}
use Rattle.laws.proofs.Bits.{drop_below}
use Rattle.laws.proofs.Sequences.{and_right, and_assoc}
use Rattle.laws.proofs.Nibbles.{length-nibbles}
use Rattle.nibble.specs.View.{view, from, part, moved, step_at, header_at}
use Rattle.nibble.specs.declared.Cursor.{Cursor}
use Rattle.nibble.specs.declared.Header.{Header}

-- a packed buffer has two nibbles a byte, each below 16
pub packed_length : (b : List ℕ) → length (view true b) ≡ 2 * length b
packed_length b = length-nibbles b

-- a place is inside a packed buffer where its byte is
pub packed_inside : (b : List ℕ) (at : ℕ) → ltb (at / 2) (length b) ≡ ltb at (length (view true b))
packed_inside b at = grind (arith, nat_tests, packed_length b)

module _ (b : List ℕ) (c : Cursor) where
  pub from-length : length (from b c) ≡ length (view c.packed b) - c.at
  from-length = length-drop c.at (view c.packed b)

  from_at : (i : ℕ) → get_or (from b c) i 0 ≡ get_or (view c.packed b) (c.at + i) 0
  from_at i = get_or-drop c.at (view c.packed b) i 0

  pub from-moved : (n : ℕ) → drop n (from b c) ≡ from b (moved c n)
  from-moved n = drop-drop n c.at (view c.packed b)

  pub part_length : (n : ℕ) → c.at + n ≤ length (view c.packed b) → length (part b c n) ≡ n
  part_length n h = length-take-le n (from b c) (omega (arith, from-length))

  pub part_at : (n i : ℕ) → i < n → get_or (part b c n) i 0 ≡ get_or (view c.packed b) (c.at + i) 0
  part_at n i h = get_or-take n (from b c) i 0 h ∙ from_at i

  pub part-take : (m n : ℕ) → m ≤ n → take m (part b c n) ≡ part b c m
  part-take m n h = take-take m n (from b c) h

  pub from-nibbles : Nibbles (view c.packed b) → Nibbles (from b c)
  from-nibbles h = drop_below 16 c.at (view c.packed b) h

-- what reading at a cursor answers
module _ (b : List ℕ) (c k : Cursor) where
  pub step_is : (v : ℕ) → c.at < length (view c.packed b) → v ≡ get_or (view c.packed b) c.at 0 → k ≡ moved c 1 → Some (v, k) ≡ step_at b c
  step_is v h e f = rw (lt-ltb _ _ h, e, f)

  pub header_is : (x y i : ℕ) → c.at + 2 < length (view c.packed b) → x ≡ get_or (view c.packed b) c.at 0 → y ≡ get_or (view c.packed b) (c.at + 1) 0
      → i ≡ get_or (view c.packed b) (c.at + 2) 0
      → k ≡ moved c 3
      → Some (record { al = x * 16 + y; id = i; body = k }) ≡ header_at b c
  header_is x y i h ex ey ei ek =
      let g : c.at + 3 ≤ length (view c.packed b) = omega arith in
      rw (le-leb _ _ g, ex, ey, ei, ek, from_at b c 0, from_at b c 1, from_at b c 2, add-zero c.at)

-- what a header that was read says
pub record IsHead (b : List ℕ) (c : Cursor) (h : Header) : Type 0 where
  pub inside : c.at + 3 ≤ length (view c.packed b)
  pub read : h.al ≡ length_at (from b c)
  pub told : h.id ≡ id_at (from b c)
  pub behind : h.body ≡ moved c 3

pub cond_some : {A : Type 0} (t : Bool) (x y : A) → cond t (Some x) None ≡ Some y → (t ≡ true) × (y ≡ x)
cond_some true x y e = (refl, cc)
cond_some false x y e = cc

pub cond_none : {A : Type 0} (t : Bool) (x : A) → cond t (Some x) None ≡ None → t ≡ false
cond_none true x e = cc
cond_none false x e = refl

pub is_head : (b : List ℕ) (c : Cursor) (h : Header) → header_at b c ≡ Some h → IsHead b c h
is_head b c h e =
    let p = cond_some (leb (c.at + 3) (length (view c.packed b))) (record { al = length_at (from b c); id = id_at (from b c); body = moved c 3 }) h e in
    record {
      inside = leb-true (c.at + 3) (length (view c.packed b)) p.0;
      read = ap (λ (k : Header). k.al) p.1;
      told = ap (λ (k : Header). k.id) p.1;
      behind = ap (λ (k : Header). k.body) p.1;
    }

pub is_short : (b : List ℕ) (c : Cursor) → header_at b c ≡ None → length (view c.packed b) < c.at + 3
is_short b c e =
    leb-false (c.at + 3) (length (view c.packed b))
    (cond_none (leb (c.at + 3) (length (view c.packed b))) (record { al = length_at (from b c); id = id_at (from b c); body = moved c 3 }) e)

-- ---- bytes that are nibbles each, from place i on

or_above : (a b : ℕ) → (a ≤ bit_or a b) × (b ≤ bit_or a b)
or_above a b = (omega (arith, or_add_and a b, and_le_r a b), omega (arith, or_add_and a b, and_le_l a b))

-- no bit above the low four in two numbers, or in either
or_leb : (a b : ℕ) → leb (bit_or a b) 15 ≡ leb a 15 && leb b 15
or_leb a b = grind (arith, nat_tests, or_lt 4 a b, or_above a b)

module _ (ns : List ℕ) (i bits : ℕ) where
  -- the bits so far, and those of the next
  pub nibble_next : i < length ns → leb (bit_or bits (get_or ns i 0)) 15 && all_nibbles (drop (i + 1) ns) ≡ leb bits 15 && all_nibbles (drop i ns)
  unfolding all_nibbles
  nibble_next h = rw (drop-cons ns i 0 h, or_leb bits (get_or ns i 0), add-one) (and_assoc (leb bits 15) (leb (get_or ns i 0) 15) _)

  pub nibbles_end : length ns ≤ i → leb bits 15 ≡ leb bits 15 && all_nibbles (drop i ns)
  unfolding all_nibbles
  nibbles_end h = rw (drop_of_length-le ns {i = i} h) (sym (and_right (leb bits 15)))
