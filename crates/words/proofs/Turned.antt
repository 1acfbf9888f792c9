-- Eight bytes are the number in their 64 bits.
-- Assumes nothing.
use Prim.Native.Nat.{ℕ, ◌+◌, ◌*◌, ◌/◌, ◌%◌, ◌^◌, ◌≤◌, ◌<◌}
use native.Mathlib.Omega.{arith}
use mathlib.Core.Path.{◌≡◌, refl, sym, ap, ap₂, ◌∙◌}
use mathlib.Core.Bool.{Bool}
use mathlib.Core.List.{List, [], ◌∷◌, ◌++◌, append-nil}
use lib.ListN.{length, take, drop, get_or, length-drop}
use lib.Seq.{drop-drop, take_at}
use lib.Pow.{high, low, pow-add}
use lib.Arith.{digits_lt}
use native.Mathlib.Nat.{mod-eq_of_lt}
use Rattle.format.specs.Bits.{bits, number, bits_of, bit_field, total, read_fields, write_fields, Bytes}
use Rattle.laws.proofs.Bits.{length-bits, number-bits, bits-mod, bits-add, length_bits_of, bit_field_lt, write_fields-read_fields}
use Rattle.bits.proofs.Window.{field_byte}

module _ (s : List ℕ) where
  -- two fields, one behind the other, are one field
  pub join : (o m n : ℕ) → o + (m + n) ≤ 8 * length s → bit_field s o m * 2 ^ n + bit_field s (o + m) n ≡ bit_field s o (m + n)
  unfolding bit_field write_fields read_fields total
  join o m n h =
      let b : List Bool = drop o (bits_of s) in
      let d : drop (o + m) (bits_of s) ≡ drop m b = sym (drop-drop m o (bits_of s)) in
      let x : ℕ = number (take m b) in
      let y : ℕ = number (take n (drop m b)) in
      let v : ℕ = x * 2 ^ n + y in
      let ly : y < 2 ^ n = rw d at (bit_field_lt s (o + m) n) in
      let room : v < 2 ^ (m + n) = rw (pow-add 2 m n) (digits_lt (bit_field_lt s o m) ly) in
      let cut : bits m x ++ bits n y ≡ bits (m + n) v =
      sym (bits-add m n v ∙ ap₂ ◌++◌ (ap (bits m) (high x n ly)) (bits-mod n v y (low x n ly ∙ sym (mod-eq_of_lt ly)))) in
      let whole : (bits m x ++ (bits n y ++ [])) ++ drop (m + (n + 0)) b ≡ b =
      write_fields-read_fields (m ∷ n ∷ []) b (simp (length-drop, length_bits_of) (omega arith)) in
      let t : take (m + n) b ≡ bits (m + n) v =
      ap (take (m + n)) (sym whole ∙ ap (λ (l : List Bool). (bits m x ++ l) ++ drop (m + (n + 0)) b) (append-nil (bits n y)) ∙ ap (λ (l : List Bool). l ++ drop (m + (n + 0)) b) cut)
      ∙ take_at (bits (m + n) v) (drop (m + (n + 0)) b) (m + n) (length-bits (m + n) v) in
      ap (λ (l : List Bool). x * 2 ^ n + number (take n l)) d
      ∙ sym (ap number t ∙ number-bits (m + n) v ∙ mod-eq_of_lt room)

  -- a field of w bits, r bits into a number of bits, with z bits behind it
  pub field-within : (o r w z : ℕ) → o + (r + (w + z)) ≤ 8 * length s → bit_field s (o + r) w ≡ bit_field s o (r + (w + z)) / 2 ^ z % 2 ^ w
  field-within o r w z h =
      let a : ℕ = bit_field s o r in
      let f : ℕ = bit_field s (o + r) w in
      let q : ℕ = bit_field s (o + r + w) z in
      let e : bit_field s o (r + (w + z)) ≡ (a * 2 ^ w + f) * 2 ^ z + q =
      sym (join o r (w + z) h) ∙ ap₂ (λ (i j : ℕ). a * i + j) (pow-add 2 w z) (sym (join (o + r) w z (omega arith))) ∙ omega arith in
      sym (ap (λ (i : ℕ). i / 2 ^ z % 2 ^ w) e ∙ ap (λ (i : ℕ). i % 2 ^ w) (high (a * 2 ^ w + f) z (bit_field_lt s (o + r + w) z)) ∙ low a w (bit_field_lt s (o + r) w))

  module _ (bs : Bytes s) where
    -- a byte is a field of eight bits
    pub byte : (i : ℕ) → i < length s → bit_field s (8 * i) 8 ≡ get_or s i 0
    byte i h = ap (λ (o : ℕ). bit_field s o 8) (sym (omega arith)) ∙ field_byte s i 0 8 0 h refl ∙ omega (arith, bs i)

    -- n bits from byte i on, and the byte behind them
    pub next : (i k : ℕ) → i + k < length s → bit_field s (8 * i) (8 * k) * 256 + get_or s (i + k) 0 ≡ bit_field s (8 * i) (8 * (k + 1))
    next i k h =
        let o : 8 * (i + k) ≡ 8 * i + 8 * k = omega arith in
        let w : 8 * k + 8 ≡ 8 * (k + 1) = omega arith in
        ap (λ (x : ℕ). bit_field s (8 * i) (8 * k) * 256 + x) (sym (byte (i + k) h) ∙ ap (λ (p : ℕ). bit_field s p 8) o)
        ∙ join (8 * i) (8 * k) 8 (omega arith)
        ∙ ap (bit_field s (8 * i)) w
