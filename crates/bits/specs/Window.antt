-- What the functions ask of a bit field, and what they make of two bytes.
use Rattle.std.specs.Prelude.{ℕ, ◌+◌, ◌*◌, ◌/◌, ◌%◌, ◌^◌, ◌≤◌, ◌≡◌, List, get_or}
use Rattle.format.specs.Bits.{bits_of, bit_field}

-- a field of so many bits, from bit `at` on, that lies within two adjacent bytes of a buffer of len bytes
pub record TwoBytes (len at width : ℕ) : Type 0 where
  pub room : at / 8 + 2 ≤ len
  pub within : at % 8 + width ≤ 16

-- two bytes from i on as one number
abbrev pub pair : List ℕ → ℕ → ℕ
pair s i = get_or s i 0 * 256 + get_or s (i + 1) 0

-- n with v in place of its w bits above the z low ones
unfoldable pub patched : ℕ → ℕ → ℕ → ℕ → ℕ
patched n z w v = (n / 2 ^ z / 2 ^ w * 2 ^ w + v) * 2 ^ z + n % 2 ^ z

-- the bit-field law, for every width: t is s with v written to the w bits from bit o on. What was written is read, every
-- other field, before or after, is as it was, and what was read, written back, changes no bit
pub record FieldWritten (s t : List ℕ) (o w v : ℕ) : Type 0 where
  pub same : bit_field t o w ≡ v
  pub before : (p u : ℕ) → p + u ≤ o → bit_field t p u ≡ bit_field s p u
  pub after : (p u : ℕ) → o + w ≤ p → bit_field t p u ≡ bit_field s p u
  pub back : v ≡ bit_field s o w → bits_of t ≡ bits_of s
