-- Laws of bits, numbers and fields, for every width.
-- Assumes nothing.
use Prim.Native.Nat.{ℕ, zero, suc, ◌+◌, ◌-◌, ◌*◌, ◌/◌, ◌%◌, ◌^◌, ◌≤◌, ◌<◌}
use native.Mathlib.Nat.{add_assoc, add_comm, le-min, le_of_suc-le-suc, lt_of_lt_of_le, min-le_left, mod-eq_of_lt, mod-lt, mod-one, mul_assoc, mul-suc, mul-zero}
use native.Mathlib.Nat.{not-suc-le-zero, pow-succ', suc-add, suc_inj, zero-add, zero-lt-suc}
use native.Mathlib.Numerals.{add-one, one-add}
use native.Mathlib.Omega.{arith}
use mathlib.Core.Path.{◌≡◌, refl, sym, ap, ap₂, ◌∙◌}
use mathlib.Core.Bool.{Bool, true, false}
use mathlib.Core.List.{List, [], ◌∷◌, ◌++◌, append_assoc, append-nil}
use lib.ListN.{length, take, drop, get_or, set, replicate, drop_of_length-le, length-append, length-drop, length-replicate, length-take, take-append-drop}
use lib.Seq.{drop-append-le, drop_at, drop-cons, drop-drop, drop-length, get_or-drop, length-take-le, take-append-le, take_at, take-nil, take-take}
use lib.Dec.{eqb}
use lib.Arith.{digits_lt}
use lib.Pow.{high, low, mod-pow-add, pow-add, pow_mono, pow_pos}
use Rattle.format.specs.Bits.{Below, digit, bits, number, bits_of, bit_field, splice, total, offset, read_fields, write_fields}

-- each number fits its width
abbrev pub Fit : List ℕ → List ℕ → Type 0
Fit ws vs = (k : ℕ) → get_or vs k 0 < 2 ^ get_or ws k 0

module _ (n : ℕ) where
  pub append_below : (s t : List ℕ) → Below n s → Below n t → Below n (s ++ t)
  append_below [] t hs ht i = ht i
  append_below (x ∷ s) t hs ht zero = hs 0
  append_below (x ∷ s) t hs ht (suc i) = append_below s t (λ k. hs (suc k)) ht i

  pub take_below : (m : ℕ) (s : List ℕ) → Below n s → Below n (take m s)
  take_below zero s h i = omega (arith, h 0)
  take_below (suc m) [] h i = h i
  take_below (suc m) (x ∷ s) h zero = h 0
  take_below (suc m) (x ∷ s) h (suc i) = take_below m s (λ k. h (suc k)) i

  pub drop_below : (m : ℕ) (s : List ℕ) → Below n s → Below n (drop m s)
  drop_below m s h i = rw get_or-drop (h (m + i))

-- ---- bits and numbers

pub length-bits : (w x : ℕ) → length (bits w x) ≡ w
unfolding bits
length-bits zero x = refl
length-bits (suc w) x = ap suc (length-bits w x)

digit_lt : (b : Bool) → digit b < 2
digit_lt true = omega arith
digit_lt false = omega arith

digit_of_lem : (r : ℕ) → r < 2 → digit (eqb r 1) ≡ r
digit_of_lem zero h = refl
digit_of_lem (suc zero) h = refl
digit_of_lem (suc (suc r)) h = absurd (omega arith)

digit_inj : (b c : Bool) → digit b ≡ digit c → b ≡ c
digit_inj true true e = refl
digit_inj false false e = refl
digit_inj true false e = absurd (omega arith)
digit_inj false true e = absurd (omega arith)

number_lt : (bs : List Bool) → number bs < 2 ^ length bs
unfolding number
number_lt [] = omega arith
number_lt (b ∷ bs) = rw (pow-succ' 2 (length bs)) (digits_lt (digit_lt b) (number_lt bs))

number_append : (xs ys : List Bool) → number (xs ++ ys) ≡ number xs * 2 ^ length ys + number ys
unfolding number
number_append [] ys = omega arith
number_append (x ∷ xs) ys =
    let p : digit x * 2 ^ length (xs ++ ys) ≡ digit x * 2 ^ length xs * 2 ^ length ys = rw (length-append, pow-add) (sym (mul_assoc _ _ _)) in
    omega (arith, number_append xs ys)

pub number-bits : (w x : ℕ) → number (bits w x) ≡ x % 2 ^ w
unfolding number bits
number-bits zero x = sym (mod-one x)
number-bits (suc w) x =
    rw (number-bits w x, length-bits w x, digit_of_lem (x / 2 ^ w % 2) (mod-lt _ (zero-lt-suc 1)), ← one-add w) (sym (mod-pow-add x 1 w))

-- bits are known by how many they are and their number
number_inj : (xs ys : List Bool) → length xs ≡ length ys → number xs ≡ number ys → xs ≡ ys
unfolding number
number_inj [] [] l e = refl
number_inj [] (y ∷ ys) l e = absurd (omega arith)
number_inj (x ∷ xs) [] l e = absurd (omega arith)
number_inj (x ∷ xs) (y ∷ ys) l e =
    let n : ℕ = length ys in
    let k : length xs ≡ length ys = suc_inj l in
    let lx : number xs < 2 ^ length ys = rw (← k) (number_lt xs) in
    let e' : digit x * 2 ^ length ys + number xs ≡ digit y * 2 ^ length ys + number ys = rw k at e in
    let d : digit x ≡ digit y = sym (high (digit x) n lx) ∙ ap (λ (m : ℕ). m / 2 ^ n) e' ∙ high (digit y) n (number_lt ys) in
    let r : number xs ≡ number ys = sym (low (digit x) n lx) ∙ ap (λ (m : ℕ). m % 2 ^ n) e' ∙ low (digit y) n (number_lt ys) in
    ap₂ (λ (b : Bool) (bs : List Bool). b ∷ bs) (digit_inj x y d) (number_inj xs ys k r)

-- numbers that are the same modulo 2 ^ w have the same w bits
pub bits-mod : (w x y : ℕ) → x % 2 ^ w ≡ y % 2 ^ w → bits w x ≡ bits w y
bits-mod w x y e = number_inj _ _ (length-bits w x ∙ sym (length-bits w y)) (number-bits w x ∙ e ∙ sym (number-bits w y))

-- the bits of the number of bits are those bits
bits-number : (bs : List Bool) → bits (length bs) (number bs) ≡ bs
bits-number bs = number_inj _ _ (length-bits _ _) (number-bits _ _ ∙ mod-eq_of_lt (number_lt bs))

-- j + k bits: the j bits above the k low ones, then those
pub bits-add : (j k x : ℕ) → bits (j + k) x ≡ bits j (x / 2 ^ k) ++ bits k x
bits-add j k x =
    number_inj _ _ (simp (length-append, length-bits))
    (simp (number_append, number-bits, length-bits) (mod-pow-add x j k))

-- the number in at most w bits
number-take_lt : (w : ℕ) (b : List Bool) → number (take w b) < 2 ^ w
number-take_lt w b = lt_of_lt_of_le (number_lt (take w b)) (pow_mono (rw length-take (min-le_left w _)))

bits-number-take : (w : ℕ) (b : List Bool) → w ≤ length b → bits w (number (take w b)) ≡ take w b
bits-number-take w b h = ap (λ (n : ℕ). bits n (number (take w b))) (sym (length-take-le w b h)) ∙ bits-number (take w b)

-- ---- the bits of bytes

pub length_bits_of : (s : List ℕ) → length (bits_of s) ≡ 8 * length s
unfolding bits_of
length_bits_of [] = refl
length_bits_of (x ∷ s) = simp (length-append, length-bits, length_bits_of s) (omega arith)

pub bits_of_append : (s t : List ℕ) → bits_of (s ++ t) ≡ bits_of s ++ bits_of t
unfolding bits_of
bits_of_append [] t = refl
bits_of_append (x ∷ s) t = rw (bits_of_append s t) (sym (append_assoc (bits 8 x) (bits_of s) (bits_of t)))

-- ---- a run of bits within bits

pub mid_take : (x y z : List Bool) (o w : ℕ) → length x ≡ o → length y ≡ w → take w (drop o (x ++ (y ++ z))) ≡ y
mid_take x y z o w lx ly = ap (take w) (drop_at x (y ++ z) o lx) ∙ take_at y z w ly

pub mid_splice : (x y z f : List Bool) (o : ℕ) → length x ≡ o → length f ≡ length y → splice (x ++ (y ++ z)) o f ≡ x ++ (f ++ z)
unfolding splice
mid_splice x y z f o lx lf =
    let t : take o (x ++ (y ++ z)) ≡ x = take_at x (y ++ z) o lx in
    let d : drop (o + length f) (x ++ (y ++ z)) ≡ z =
    sym (drop-drop (length f) o (x ++ (y ++ z))) ∙ ap (drop (length f)) (drop_at x (y ++ z) o lx) ∙ drop_at y z (length f) (sym lf) in
    ap₂ (λ (a b : List Bool). a ++ (f ++ b)) t d

take-drop : (p u : ℕ) (l : List Bool) → take u (drop p l) ≡ drop p (take (p + u) l)
take-drop zero u l = ap (λ (n : ℕ). take n l) (sym (zero-add u))
take-drop (suc p) u [] = take-nil u ∙ sym (ap (drop (suc p)) (take-nil (suc p + u)))
take-drop (suc p) u (x ∷ l) = take-drop p u l ∙ ap (λ (n : ℕ). drop (suc p) (take n (x ∷ l))) (sym (suc-add p u))

-- lists that are the same from n on are the same from any later place on
drop_later : (n p : ℕ) (b c : List Bool) → n ≤ p → drop n b ≡ drop n c → drop p b ≡ drop p c
drop_later n p b c h e =
    let s : p ≡ n + (p - n) = omega arith in
    rw (s, ← drop-drop (p - n) n b, ← drop-drop (p - n) n c) (ap (drop (p - n)) e)

module _ (b f : List Bool) (o : ℕ) (within : o + length f ≤ length b) where
  length_front : length (take o b) ≡ o
  length_front = length-take-le o b (omega arith)

  -- what was written is read
  splice_same : take (length f) (drop o (splice b o f)) ≡ f
  unfolding splice
  splice_same = mid_take (take o b) f (drop (o + length f) b) o (length f) length_front refl

  -- what lies before is as it was
  splice_before : (p u : ℕ) → p + u ≤ o → take u (drop p (splice b o f)) ≡ take u (drop p b)
  unfolding splice
  splice_before p u h =
      let l : p + u ≤ length (take o b) = rw length_front h in
      take-drop p u _ ∙ ap (drop p) (take-append-le (p + u) (take o b) _ l ∙ take-take (p + u) o b h) ∙ sym (take-drop p u b)

  -- what lies behind is as it was
  drop-splice : drop (o + length f) (splice b o f) ≡ drop (o + length f) b
  unfolding splice
  drop-splice =
      ap (drop (o + length f)) (sym (append_assoc (take o b) f (drop (o + length f) b)))
      ∙ drop_at (take o b ++ f) (drop (o + length f) b) (o + length f) (rw (length-append, length_front))

  splice-after : (p u : ℕ) → o + length f ≤ p → take u (drop p (splice b o f)) ≡ take u (drop p b)
  splice-after p u h = ap (take u) (drop_later (o + length f) p (splice b o f) b h drop-splice)

-- what was read, written back, changes nothing
splice_back : (b : List Bool) (o w : ℕ) → o + w ≤ length b → splice b o (take w (drop o b)) ≡ b
unfolding splice
splice_back b o w h =
    let l : length (take w (drop o b)) ≡ w = length-take-le w (drop o b) (rw length-drop (omega arith)) in
    rw (l, ← drop-drop w o b, take-append-drop w (drop o b)) (take-append-drop o b)

-- ---- a field of bytes

pub bit_field_lt : (s : List ℕ) (o w : ℕ) → bit_field s o w < 2 ^ w
unfolding bit_field
bit_field_lt s o w = number-take_lt w (drop o (bits_of s))

-- the bits of a field's number are the bits that stand there
field-bits : (s : List ℕ) (o w : ℕ) → o + w ≤ 8 * length s → bits w (bit_field s o w) ≡ take w (drop o (bits_of s))
unfolding bit_field
field-bits s o w h = bits-number-take w (drop o (bits_of s)) (simp (length-drop, length_bits_of) (omega arith))

-- the bit-field law, for every width: t is s with v written to the w bits from bit o on
module _ (s t : List ℕ) (o w v : ℕ) (within : o + w ≤ 8 * length s) (written : bits_of t ≡ splice (bits_of s) o (bits w v)) where
  inside : o + length (bits w v) ≤ length (bits_of s)
  inside = rw (length-bits, length_bits_of) within

  -- what was written is read
  pub field_same : v < 2 ^ w → bit_field t o w ≡ v
  unfolding bit_field
  field_same h =
      ap number (ap (λ (b : List Bool). take w (drop o b)) written ∙ rw length-bits at (splice_same (bits_of s) (bits w v) o inside))
      ∙ number-bits w v ∙ mod-eq_of_lt h

  -- every other field, before or after, is as it was
  pub field_before : (p u : ℕ) → p + u ≤ o → bit_field t p u ≡ bit_field s p u
  unfolding bit_field
  field_before p u h = ap number (rw written (splice_before (bits_of s) (bits w v) o inside p u h))

  pub field-after : (p u : ℕ) → o + w ≤ p → bit_field t p u ≡ bit_field s p u
  unfolding bit_field
  field-after p u h = ap number (rw written (splice-after (bits_of s) (bits w v) o inside p u (rw length-bits h)))

  -- what was read, written back, changes no bit
  pub field_back : v ≡ bit_field s o w → bits_of t ≡ bits_of s
  field_back e = rw (written, e, field-bits s o w within) (splice_back (bits_of s) o w (rw length_bits_of within))

-- ---- fields one after the other

pub length-read_fields : (ws : List ℕ) (b : List Bool) → length (read_fields ws b) ≡ length ws
unfolding read_fields
length-read_fields [] b = refl
length-read_fields (w ∷ ws) b = ap suc (length-read_fields ws (drop w b))

-- each number read fits its width
pub read_fields_lt : (ws : List ℕ) (b : List Bool) → Fit ws (read_fields ws b)
unfolding read_fields
read_fields_lt [] b k = omega arith
read_fields_lt (w ∷ ws) b zero = number-take_lt w b
read_fields_lt (w ∷ ws) b (suc k) = read_fields_lt ws (drop w b) k

-- a sum from k on: entry k, then the sum from k + 1 on; past the end it is 0
pub total-step : (x : List ℕ) (k : ℕ) → k < length x → total (drop k x) ≡ get_or x k 0 + total (drop (k + 1) x)
unfolding total
total-step x k h = rw (add-one k) (ap total (drop-cons x k 0 h))

pub total_end : (x : List ℕ) (k : ℕ) → length x ≤ k → total (drop k x) ≡ 0
unfolding total
total_end x k h = ap total (drop_of_length-le x h)

-- field k ends within the fields
offset_end : (ws : List ℕ) (k : ℕ) → k < length ws → offset ws k + get_or ws k 0 ≤ total ws
unfolding total
offset_end [] k h = absurd (not-suc-le-zero h)
offset_end (w ∷ ws) zero h = omega arith
offset_end (w ∷ ws) (suc k) h = omega (arith, offset_end ws k (le_of_suc-le-suc h))

-- field k stands at its offset
read_fields_at : (ws : List ℕ) (b : List Bool) (k : ℕ) → k < length ws → get_or (read_fields ws b) k 0 ≡ number (take (get_or ws k 0) (drop (offset ws k) b))
unfolding read_fields total
read_fields_at [] b k h = absurd (not-suc-le-zero h)
read_fields_at (w ∷ ws) b zero h = refl
read_fields_at (w ∷ ws) b (suc k) h =
    read_fields_at ws (drop w b) k (le_of_suc-le-suc h) ∙ ap (λ (l : List Bool). number (take (get_or ws k 0) l)) (drop-drop (offset ws k) w b)

pub bit_field_at : (ws s : List ℕ) (k : ℕ) → k < length ws → bit_field s (offset ws k) (get_or ws k 0) ≡ get_or (read_fields ws (bits_of s)) k 0
unfolding bit_field
bit_field_at ws s k h = sym (read_fields_at ws (bits_of s) k h)

-- fields read no further than they reach
pub read_fields-append : (ws : List ℕ) (b c : List Bool) → total ws ≤ length b → read_fields ws (b ++ c) ≡ read_fields ws b
unfolding read_fields total
read_fields-append [] b c h = refl
read_fields-append (w ∷ ws) b c h =
    let l : w ≤ length b = omega arith in
    let r : total ws ≤ length (drop w b) = rw length-drop (omega arith) in
    rw (take-append-le w b c l, drop-append-le w b c l, read_fields-append ws (drop w b) c r)

pub length-write_fields : (ws vs : List ℕ) → length (write_fields ws vs) ≡ total ws
unfolding write_fields total
length-write_fields [] vs = refl
length-write_fields (w ∷ ws) [] = rw (length-append, length-bits, length-write_fields ws [])
length-write_fields (w ∷ ws) (v ∷ vs) = rw (length-append, length-bits, length-write_fields ws vs)

-- what was written is read
pub read_fields-write_fields : (ws vs : List ℕ) (rest : List Bool) → length vs ≡ length ws → Fit ws vs → read_fields ws (write_fields ws vs ++ rest) ≡ vs
unfolding read_fields write_fields
read_fields-write_fields [] [] rest l f = refl
read_fields-write_fields [] (v ∷ vs) rest l f = absurd (omega arith)
read_fields-write_fields (w ∷ ws) [] rest l f = absurd (omega arith)
read_fields-write_fields (w ∷ ws) (v ∷ vs) rest l f =
    let n : length (bits w v) ≡ w = length-bits w v in
    rw (append_assoc, take_at (bits w v) (write_fields ws vs ++ rest) w n, drop_at (bits w v) (write_fields ws vs ++ rest) w n)
    (ap₂ (λ (x : ℕ) (xs : List ℕ). x ∷ xs) (number-bits w v ∙ mod-eq_of_lt (f 0)) (read_fields-write_fields ws vs rest (suc_inj l) (λ k. f (suc k))))

-- what was read, written back, and what lies behind it are the whole
pub write_fields-read_fields : (ws : List ℕ) (b : List Bool) → total ws ≤ length b → write_fields ws (read_fields ws b) ++ drop (total ws) b ≡ b
unfolding read_fields write_fields total
write_fields-read_fields [] b h = refl
write_fields-read_fields (w ∷ ws) b h =
    rw (append_assoc, bits-number-take w b (omega arith), ← drop-drop (total ws) w b, write_fields-read_fields ws (drop w b) (rw length-drop (omega arith)))
    (take-append-drop w b)

-- ---- a write to field k sets number k

module _ (b f : List Bool) (w o : ℕ) (within : w ≤ length b) where
  front_le : w ≤ length (take (w + o) b)
  front_le = rw length-take (le-min (omega arith) within)

  drop_past : drop w (splice b (w + o) f) ≡ splice (drop w b) o f
  unfolding splice
  drop_past =
      drop-append-le w (take (w + o) b) (f ++ drop (w + o + length f) b) front_le
      ∙ rw (← take-drop w o b, add_assoc, ← drop-drop (o + length f) w b)

  take_past : take w (splice b (w + o) f) ≡ take w b
  unfolding splice
  take_past = take-append-le w (take (w + o) b) (f ++ drop (w + o + length f) b) front_le ∙ take-take w (w + o) b (omega arith)

pub read_fields-splice : (ws : List ℕ) (b : List Bool) (k v : ℕ) → k < length ws → total ws ≤ length b → v < 2 ^ get_or ws k 0
    → read_fields ws (splice b (offset ws k) (bits (get_or ws k 0) v)) ≡ set (read_fields ws b) k v
unfolding read_fields total
read_fields-splice [] b k v h r hv = absurd (not-suc-le-zero h)
read_fields-splice (w ∷ ws) b zero v h r hv =
    let f : List Bool = bits w v in
    let z : 0 + length f ≡ w = rw (length-bits w v) (omega arith) in
    let room : 0 + length f ≤ length b = rw z (omega arith) in
    let t : take w (splice b 0 f) ≡ f = rw length-bits at (splice_same b f 0 room) in
    let d : drop w (splice b 0 f) ≡ drop w b = rw z at (drop-splice b f 0 room) in
    ap₂ (λ (x : ℕ) (xs : List ℕ). x ∷ xs) (ap number t ∙ number-bits w v ∙ mod-eq_of_lt hv) (ap (read_fields ws) d)
read_fields-splice (w ∷ ws) b (suc k) v h r hv =
    let f : List Bool = bits (get_or ws k 0) v in
    let l : w ≤ length b = omega arith in
    let room : total ws ≤ length (drop w b) = rw length-drop (omega arith) in
    ap₂ (λ (x y : List Bool). number x ∷ read_fields ws y) (take_past b f w (offset ws k) l) (drop_past b f w (offset ws k) l)
    ∙ ap (λ (xs : List ℕ). number (take w b) ∷ xs) (read_fields-splice ws (drop w b) k v (le_of_suc-le-suc h) room hv)

-- and leaves what lies behind the fields
pub behind-splice : (ws : List ℕ) (b : List Bool) (k v : ℕ) → k < length ws → total ws ≤ length b
    → drop (total ws) (splice b (offset ws k) (bits (get_or ws k 0) v)) ≡ drop (total ws) b
behind-splice ws b k v h r =
    let f : List Bool = bits (get_or ws k 0) v in
    let le : offset ws k + length f ≤ total ws = rw length-bits (offset_end ws k h) in
    drop_later (offset ws k + length f) (total ws) (splice b (offset ws k) f) b le (drop-splice b f (offset ws k) (omega arith))

-- ---- fields of one width

-- the numbers in fields of w bits each
abbrev pub uniform : ℕ → List ℕ → List Bool
uniform w vs = write_fields (replicate (length vs) w) vs

module _ (w : ℕ) where
  pub uniform_append : (x y : List ℕ) → uniform w (x ++ y) ≡ uniform w x ++ uniform w y
  unfolding write_fields
  uniform_append [] y = refl
  uniform_append (v ∷ x) y = rw (uniform_append x y) (sym (append_assoc (bits w v) (uniform w x) (uniform w y)))

  pub total-replicate : (m : ℕ) → total (replicate m w) ≡ w * m
  unfolding total
  total-replicate zero = sym (mul-zero w)
  total-replicate (suc m) = rw (mul-suc, total-replicate m) (add_comm w (w * m))

  -- m fields hold m numbers below 2 ^ w
  pub uniform_length : (m : ℕ) (c : List Bool) → length (read_fields (replicate m w) c) ≡ m
  uniform_length m c = length-read_fields (replicate m w) c ∙ length-replicate m w

  pub uniform_lt : (m : ℕ) (c : List Bool) → Below (2 ^ w) (read_fields (replicate m w) c)
  unfolding read_fields
  uniform_lt zero c i = pow_pos w
  uniform_lt (suc m) c zero = number-take_lt w c
  uniform_lt (suc m) c (suc i) = uniform_lt m (drop w c) i

  -- what was read, written back, is the whole
  pub uniform_read : (m : ℕ) (c : List Bool) → length c ≡ w * m → uniform w (read_fields (replicate m w) c) ≡ c
  uniform_read m c l =
      let t : total (replicate m w) ≡ length c = total-replicate m ∙ sym l in
      rw uniform_length (sym (append-nil _) ∙ rw (← drop-length c, ← t) (write_fields-read_fields (replicate m w) c (omega arith)))

  fit_uniform : (x : List ℕ) → Below (2 ^ w) x → Fit (replicate (length x) w) x
  fit_uniform [] h k = omega arith
  fit_uniform (v ∷ x) h zero = h 0
  fit_uniform (v ∷ x) h (suc k) = fit_uniform x (λ i. h (suc i)) k

  -- what was written is read
  pub uniform_back : (m : ℕ) (x : List ℕ) (rest : List Bool) → length x ≡ m → Below (2 ^ w) x → read_fields (replicate m w) (uniform w x ++ rest) ≡ x
  uniform_back m x rest l h =
      rw (← l) (read_fields-write_fields (replicate (length x) w) x rest (sym (length-replicate (length x) w)) (fit_uniform x h))
