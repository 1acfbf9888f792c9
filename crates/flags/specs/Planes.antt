-- Bits of many nibbles at once: of each nibble of a number the same bit, at the nibble's lowest place.
use Rattle.std.specs.Prelude.{ℕ, zero, suc, ◌+◌, ◌-◌, ◌*◌, ◌/◌, ◌^◌}
use Rattle.std.specs.Int.Bits.{bit_and, bit_or}

-- the lowest bit of n nibbles
unfoldable pub mask : ℕ → ℕ
mask zero = 0
mask (suc n) = mask n * 16 + 1

-- bit k of each nibble that a mask keeps
abbrev pub plane_of : ℕ → ℕ → ℕ → ℕ
plane_of k m w = bit_and (w / 2 ^ k) m

-- a bit for each nibble over 10
abbrev pub over_of : ℕ → ℕ → ℕ
over_of m w = bit_and (plane_of 3 m w) (bit_or (plane_of 2 m w) (bit_and (plane_of 1 m w) (plane_of 0 m w)))

-- a bit for each nibble from 2 on, the next for each from 4 on, the one after for each from 7 on
abbrev pub reached_of : ℕ → ℕ → ℕ
reached_of m w =
    bit_or (bit_or (plane_of 3 m w) (plane_of 2 m w)) (plane_of 1 m w)
    + 2 * bit_or (plane_of 3 m w) (plane_of 2 m w)
    + 4 * bit_or (plane_of 3 m w) (bit_and (bit_and (plane_of 2 m w) (plane_of 1 m w)) (plane_of 0 m w))

-- and none for one over 10
abbrev pub steps_of : ℕ → ℕ → ℕ
steps_of m w = reached_of m w - 7 * over_of m w
