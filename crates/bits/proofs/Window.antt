-- From the machine's numbers to the bits of bytes: a field is read from, and written to, a number of two bytes.
-- Assumes nothing.
use Prim.Native.Nat.{ℕ, suc, ◌+◌, ◌-◌, ◌*◌, ◌/◌, ◌%◌, ◌^◌, ◌≤◌, ◌<◌}
use native.Mathlib.Nat.{add_comm, one-mul, mul_assoc, mod-lt, mod-eq_of_lt, lt_of_lt_of_le}
use native.Mathlib.Numerals.{add-one, add-two}
use native.Mathlib.Omega.{arith}
use mathlib.Core.Path.{◌≡◌, sym, ap, ap₂, ◌∙◌}
use mathlib.Core.Bool.{Bool}
use mathlib.Core.List.{List, ◌∷◌, ◌++◌, append_assoc}
use lib.Arith.{digits_lt}
use lib.Dec.{lit<}
use lib.ListN.{length, take, drop, get_or, set, take-append-drop, length-append, length-set}
use lib.Pow.{pow_pos, pow_mono, pow-add, shl_exact, shl_lt, shr_lt, shr-shr, split, high, low}
use lib.Seq.{drop-cons, length-take-le, get_or-set_same, get_or-set_other, take-set-le, drop-set-lt}
use Rattle.format.specs.Bits.{bits, number, bits_of, bit_field, splice, Bytes}
use Rattle.laws.proofs.Bits.{length-bits, number-bits, bits-mod, bits-add, length_bits_of, bits_of_append, mid_take, mid_splice, field_same, field_before, field-after, field_back}
use Rattle.bits.specs.Window.{TwoBytes, FieldWritten, pair, patched}

-- ---- the machine's shifts, at 64 bits

-- `1 << k`
pub one_shl : (k : ℕ) → k < 64 → (1 * 2 ^ k) % 2 ^ 64 ≡ 2 ^ k
one_shl k h = shl_exact {a = 1} 1 k 64 (lit< tt) (omega arith) ∙ one-mul (2 ^ k)

shr_two : (x w z : ℕ) → x / 2 ^ (w + z) ≡ x / 2 ^ z / 2 ^ w
shr_two x w z = ap (λ (k : ℕ). x / 2 ^ k) (add_comm w z) ∙ sym (shr-shr x z w)

-- ---- `patched`

patched_lt : (r w z n v : ℕ) → n < 2 ^ (r + (w + z)) → v < 2 ^ w → patched n z w v < 2 ^ (r + (w + z))
unfolding patched
patched_lt r w z n v h hv =
    let hi : n / 2 ^ z / 2 ^ w < 2 ^ r = rw (← shr_two n w z) (shr_lt r (w + z) h) in
    rw (pow-add 2 r (w + z), pow-add 2 w z, ← mul_assoc (2 ^ r) (2 ^ w) (2 ^ z)) (digits_lt (digits_lt hi hv) (mod-lt n (pow_pos z)))

-- take the old bits away, add the new
patched_is : (n z w v : ℕ) → n / 2 ^ z % 2 ^ w * 2 ^ z ≤ n × (n - n / 2 ^ z % 2 ^ w * 2 ^ z + v * 2 ^ z ≡ patched n z w v)
unfolding patched
patched_is n z w v =
    let a : n / 2 ^ z * 2 ^ z + n % 2 ^ z ≡ n = split n z in
    let b : (n / 2 ^ z / 2 ^ w * 2 ^ w + n / 2 ^ z % 2 ^ w) * 2 ^ z ≡ n / 2 ^ z * 2 ^ z = ap (λ (k : ℕ). k * 2 ^ z) (split (n / 2 ^ z) w) in
    (omega arith, omega arith)

-- `n - (f << z) + (v << z)`, for the f that stands there
pub record Patch (n z w v f : ℕ) : Type 0 where
  pub low : (f * 2 ^ z) % 2 ^ 64 ≤ n
  pub is : n - (f * 2 ^ z) % 2 ^ 64 + (v * 2 ^ z) % 2 ^ 64 ≡ patched n z w v
  pub small : patched n z w v < 2 ^ 16

pub word_patch : (n z w v f : ℕ) → n < 2 ^ 16 → w + z ≤ 16 → v < 2 ^ w → f ≡ n / 2 ^ z % 2 ^ w → Patch n z w v f
word_patch n z w v f hn h hv e =
    let p = patched_is n z w v in
    let old : f * 2 ^ z ≡ n / 2 ^ z % 2 ^ w * 2 ^ z = ap (λ (k : ℕ). k * 2 ^ z) e in
    let room : v * 2 ^ z < 2 ^ 16 = lt_of_lt_of_le (shl_lt w z hv) (pow_mono h) in
    let a : 16 - (w + z) + (w + z) ≡ 16 = omega arith in
    let lt : patched n z w v < 2 ^ 16 = rw a at (patched_lt (16 - (w + z)) w z n v (rw a hn) hv) in
    record { low = omega arith; is = omega arith; small = lt }

-- ---- a field of w bits, r bits into a number n of m bits that stands behind the bits x: z bits of n are left

module _ (x q : List Bool) (m r w z : ℕ) (e : r + (w + z) ≡ m) where
  window_cut : (n : ℕ) → x ++ (bits m n ++ q) ≡ (x ++ bits r (n / 2 ^ (w + z))) ++ (bits w (n / 2 ^ z) ++ (bits z n ++ q))
  window_cut n =
      let c : bits m n ≡ bits r (n / 2 ^ (w + z)) ++ (bits w (n / 2 ^ z) ++ bits z n) =
      ap (λ (k : ℕ). bits k n) (sym e) ∙ bits-add r (w + z) n ∙ ap (λ (l : List Bool). bits r (n / 2 ^ (w + z)) ++ l) (bits-add w z n) in
      ap (λ (l : List Bool). x ++ (l ++ q)) c ∙ simp append_assoc

  front : (n o : ℕ) → length x ≡ o → length (x ++ bits r n) ≡ o + r
  front n o l = length-append x (bits r n) ∙ ap₂ (λ (a b : ℕ). a + b) l (length-bits r n)

  -- the bits that stand there
  window_take : (n o : ℕ) → length x ≡ o → take w (drop (o + r) (x ++ (bits m n ++ q))) ≡ bits w (n / 2 ^ z)
  window_take n o l =
      ap (λ (b : List Bool). take w (drop (o + r) b)) (window_cut n)
      ∙ mid_take (x ++ bits r (n / 2 ^ (w + z))) (bits w (n / 2 ^ z)) (bits z n ++ q) (o + r) w (front (n / 2 ^ (w + z)) o l) (length-bits w (n / 2 ^ z))

  -- bits written there are a number patched
  window_splice : (n o v : ℕ) → length x ≡ o → v < 2 ^ w → splice (x ++ (bits m n ++ q)) (o + r) (bits w v) ≡ x ++ (bits m (patched n z w v) ++ q)
  unfolding patched
  window_splice n o v l hv =
      let p : ℕ = patched n z w v in
      let hi : ℕ = n / 2 ^ z / 2 ^ w in
      let lo : n % 2 ^ z < 2 ^ z = mod-lt n (pow_pos z) in
      let ez : p / 2 ^ z ≡ hi * 2 ^ w + v = high (hi * 2 ^ w + v) z lo in
      let eh : p / 2 ^ (w + z) ≡ n / 2 ^ (w + z) = shr_two p w z ∙ ap (λ (k : ℕ). k / 2 ^ w) ez ∙ high hi w hv ∙ sym (shr_two n w z) in
      let ew : bits w (p / 2 ^ z) ≡ bits w v = ap (bits w) ez ∙ bits-mod w (hi * 2 ^ w + v) v (low hi w hv ∙ sym (mod-eq_of_lt hv)) in
      let el : bits z p ≡ bits z n = bits-mod z p n (low (hi * 2 ^ w + v) z lo) in
      ap (λ (b : List Bool). splice b (o + r) (bits w v)) (window_cut n)
      ∙ mid_splice (x ++ bits r (n / 2 ^ (w + z))) (bits w (n / 2 ^ z)) (bits z n ++ q) (bits w v) (o + r) (front (n / 2 ^ (w + z)) o l) (length-bits w v ∙ sym (length-bits w (n / 2 ^ z)))
      ∙ sym (window_cut p ∙ cc)

  -- of bytes
  field_in : (s : List ℕ) (n o : ℕ) → bits_of s ≡ x ++ (bits m n ++ q) → length x ≡ o → bit_field s (o + r) w ≡ n / 2 ^ z % 2 ^ w
  unfolding bit_field
  field_in s n o h l = ap number (ap (λ (b : List Bool). take w (drop (o + r) b)) h ∙ window_take n o l) ∙ number-bits w (n / 2 ^ z)

front_bytes : (s : List ℕ) (i : ℕ) → i ≤ length s → length (bits_of (take i s)) ≡ 8 * i
front_bytes s i h = length_bits_of (take i s) ∙ ap (λ (n : ℕ). 8 * n) (length-take-le i s h)

-- ---- one byte

byte_bits : (s : List ℕ) (i : ℕ) → i < length s → bits_of s ≡ bits_of (take i s) ++ (bits 8 (get_or s i 0) ++ bits_of (drop (suc i) s))
unfolding bits_of
byte_bits s i h =
    ap bits_of (sym (take-append-drop i s)) ∙ bits_of_append (take i s) (drop i s)
    ∙ ap (λ (l : List ℕ). bits_of (take i s) ++ bits_of l) (drop-cons s i 0 h)

-- a field within byte i: r bits before it, z bits behind it
module _ (s : List ℕ) (i r w z : ℕ) (h : i < length s) (e : r + (w + z) ≡ 8) where
  pub field_byte : bit_field s (8 * i + r) w ≡ get_or s i 0 / 2 ^ z % 2 ^ w
  field_byte =
      field_in (bits_of (take i s)) (bits_of (drop (suc i) s)) 8 r w z e s (get_or s i 0) (8 * i) (byte_bits s i h) (front_bytes s i (omega arith))

  pub splice_byte : (v : ℕ) → v < 2 ^ w → bits_of (set s i (patched (get_or s i 0) z w v)) ≡ splice (bits_of s) (8 * i + r) (bits w v)
  splice_byte v hv =
      let p : ℕ = patched (get_or s i 0) z w v in
      let l : i < length (set s i p) = rw length-set h in
      byte_bits (set s i p) i l
      ∙ rw (take-set-le i s i p (omega arith), get_or-set_same s i p 0 h, drop-set-lt (suc i) s i p (omega arith))
      (sym (window_splice (bits_of (take i s)) (bits_of (drop (suc i) s)) 8 r w z e (get_or s i 0) (8 * i) v (front_bytes s i (omega arith)) hv))
      ∙ ap (λ (b : List Bool). splice b (8 * i + r) (bits w v)) (sym (byte_bits s i h))

-- ---- two bytes

two : (a b : ℕ) (q : List ℕ) → b < 256 → bits_of (a ∷ b ∷ q) ≡ bits 16 (a * 256 + b) ++ bits_of q
unfolding bits_of
two a b q hb =
    let n : ℕ = a * 256 + b in
    let ea : bits 8 (n / 2 ^ 8) ≡ bits 8 a = ap (bits 8) (omega arith) in
    let eb : bits 8 n ≡ bits 8 b = bits-mod 8 _ _ (omega arith) in
    sym (rw (bits-add 8 8 n, ea, eb, append_assoc))

two_cut : (s : List ℕ) (i : ℕ) → i + 2 ≤ length s → drop i s ≡ get_or s i 0 ∷ get_or s (i + 1) 0 ∷ drop (i + 2) s
two_cut s i h =
    rw (add-one, add-two)
    (drop-cons s i 0 (omega arith) ∙ ap (λ (l : List ℕ). get_or s i 0 ∷ l) (drop-cons s (suc i) 0 (omega arith)))

pair-bits : (s : List ℕ) (i : ℕ) → Bytes s → i + 2 ≤ length s → bits_of s ≡ bits_of (take i s) ++ (bits 16 (pair s i) ++ bits_of (drop (i + 2) s))
pair-bits s i bs h =
    ap bits_of (sym (take-append-drop i s)) ∙ bits_of_append (take i s) (drop i s)
    ∙ ap (λ (l : List Bool). bits_of (take i s) ++ l)
    (ap bits_of (two_cut s i h) ∙ two (get_or s i 0) (get_or s (i + 1) 0) (drop (i + 2) s) (bs (i + 1)))

-- reading
pub field-pair : (s : List ℕ) (at w : ℕ) → Bytes s → TwoBytes (length s) at w → bit_field s at w ≡ pair s (at / 8) / 2 ^ (16 - at % 8 - w) % 2 ^ w
field-pair s at w bs h =
    let i : ℕ = at / 8 in
    let a : 8 * i + at % 8 ≡ at = omega arith in
    ap (λ (o : ℕ). bit_field s o w) (sym a)
    ∙ field_in (bits_of (take i s)) (bits_of (drop (i + 2) s)) 16 (at % 8) w (16 - at % 8 - w) (omega arith) s (pair s i) (8 * i)
    (pair-bits s i bs h.room) (front_bytes s i (omega arith))

-- s with the bytes a, b at i
abbrev pair_set : List ℕ → ℕ → ℕ → ℕ → List ℕ
pair_set s i a b = set (set s i a) (i + 1) b

module _ (s : List ℕ) (i a b : ℕ) (h : i + 2 ≤ length s) where
  pair_of_set : pair (pair_set s i a b) i ≡ a * 256 + b
  pair_of_set =
      let l : length (set s i a) ≡ length s = length-set s i a in
      let a₁ : get_or (set (set s i a) (i + 1) b) i 0 ≡ a = get_or-set_other (set s i a) (i + 1) i b 0 (omega arith) ∙ get_or-set_same s i a 0 (omega arith) in
      let b₁ : get_or (set (set s i a) (i + 1) b) (i + 1) 0 ≡ b = get_or-set_same (set s i a) (i + 1) b 0 (omega arith) in
      rw (a₁, b₁)

  front_set : take i (pair_set s i a b) ≡ take i s
  front_set = take-set-le i (set s i a) (i + 1) b (omega arith) ∙ take-set-le i s i a (omega arith)

  back_set : drop (i + 2) (pair_set s i a b) ≡ drop (i + 2) s
  back_set = drop-set-lt (i + 2) (set s i a) (i + 1) b (omega arith) ∙ drop-set-lt (i + 2) s i a (omega arith)

-- writing
pub splice-pair : (s t : List ℕ) (at w v p : ℕ) → Bytes s → Bytes t → TwoBytes (length s) at w → v < 2 ^ w
    → p ≡ patched (pair s (at / 8)) (16 - at % 8 - w) w v → t ≡ pair_set s (at / 8) (p / 256) (p % 256)
    → bits_of t ≡ splice (bits_of s) at (bits w v)
splice-pair s t at w v p bs bt h hv new stored =
    let i : ℕ = at / 8 in
    let a : 8 * i + at % 8 ≡ at = omega arith in
    let k : i + 2 ≤ length s = h.room in
    let z : ℕ = 16 - at % 8 - w in
    let x : List Bool = bits_of (take i s) in
    let y : List Bool = bits_of (drop (i + 2) s) in
    let l : length t ≡ length s = ap length stored ∙ simp length-set in
    let wt : pair t i ≡ patched (pair s i) z w v = ap (λ (b : List ℕ). pair b i) stored ∙ pair_of_set s i _ _ k ∙ omega arith ∙ new in
    let ft : take i t ≡ take i s = ap (take i) stored ∙ front_set s i _ _ k in
    let dt : drop (i + 2) t ≡ drop (i + 2) s = ap (drop (i + 2)) stored ∙ back_set s i _ _ k in
    let et : bits_of t ≡ x ++ (bits 16 (patched (pair s i) z w v) ++ y) = pair-bits t i bt (omega arith) ∙ cc in
    et ∙ sym (window_splice x y 16 (at % 8) w z (omega arith) (pair s i) (8 * i) v (front_bytes s i (omega arith)) hv)
    ∙ ap₂ (λ (b : List Bool) (o : ℕ). splice b o (bits w v)) (sym (pair-bits s i bs k)) a

-- and so the bit-field law holds of it
pub field_written : (s t : List ℕ) (at w v : ℕ) → TwoBytes (length s) at w → v < 2 ^ w → bits_of t ≡ splice (bits_of s) at (bits w v) → FieldWritten s t at w v
field_written s t at w v h hv e =
    let r : at + w ≤ 8 * length s = omega (arith, h.room, h.within) in
    record { same = field_same s t at w v r e hv; before = field_before s t at w v r e; after = field-after s t at w v r e; back = field_back s t at w v r e }
