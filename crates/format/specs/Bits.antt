-- FORMAT 2.1: bits, numbers and bytes. Bits are counted from the highest of byte 0; fields stand side by side, highest bit first.
use Rattle.std.specs.Prelude.{ℕ, zero, suc, ◌+◌, ◌*◌, ◌/◌, ◌%◌, ◌^◌, ◌<◌, Bool, true, false, List, [], ◌∷◌, ◌++◌, length, get_or, take, drop, eqb}

-- each number is below n; each is a byte
abbrev pub Below : ℕ → List ℕ → Type 0
Below n s = (i : ℕ) → get_or s i 0 < n

abbrev pub Bytes : List ℕ → Type 0
Bytes s = Below 256 s

abbrev pub digit : Bool → ℕ
digit true = 1
digit false = 0

-- the w low bits of x, the highest first
unfoldable pub bits : ℕ → ℕ → List Bool
bits zero x = []
bits (suc w) x = eqb (x / 2 ^ w % 2) 1 ∷ bits w x

-- the number that bits stand for, the highest first
unfoldable pub number : List Bool → ℕ
number [] = 0
number (b ∷ bs) = digit b * 2 ^ length bs + number bs

-- the bits of bytes
unfoldable pub bits_of : List ℕ → List Bool
bits_of [] = []
bits_of (x ∷ xs) = bits 8 x ++ bits_of xs

-- the number in the w bits of the bytes s from bit o on
unfoldable pub bit_field : List ℕ → ℕ → ℕ → ℕ
bit_field s o w = number (take w (drop o (bits_of s)))

-- the bits bs with fs in place of as many of them from bit o on
unfoldable pub splice : List Bool → ℕ → List Bool → List Bool
splice bs o fs = take o bs ++ (fs ++ drop (o + length fs) bs)

-- ---- fields of the widths ws, one after the other

unfoldable pub total : List ℕ → ℕ
total [] = 0
total (w ∷ ws) = w + total ws

-- the bit at which field k begins, the first being field 0
abbrev pub offset : List ℕ → ℕ → ℕ
offset ws k = total (take k ws)

-- the numbers that the fields hold
unfoldable pub read_fields : List ℕ → List Bool → List ℕ
read_fields [] b = []
read_fields (w ∷ ws) b = number (take w b) ∷ read_fields ws (drop w b)

-- the bits of fields that hold these numbers
unfoldable pub write_fields : List ℕ → List ℕ → List Bool
write_fields [] vs = []
write_fields (w ∷ ws) [] = bits w 0 ++ write_fields ws []
write_fields (w ∷ ws) (v ∷ vs) = bits w v ++ write_fields ws vs
