-- The rows: what the code knows of a field, as one number.
use Rattle.std.specs.Prelude.{ℕ, ◌+◌, ◌/◌, ◌%◌, ◌≤◌, ◌<◌, ◌≡◌, List, [], ◌∷◌, get_or, take, drop, ℤ, pos, ◌-ℤ◌}
use Rattle.format.specs.Bits.{offset}
use Rattle.format.specs.Field.{Field, field, field_at}
use Rattle.format.specs.Observation.{widths}

-- in digits of 16: the bit at which it begins (3), its bits (1), its highest coded number (3), its base and 1000 (4)
abbrev pub rows : List ℕ
rows =
    0 ∷
    0x10a28803e8 ∷  -- 1 BOX10
    0x1a80ff0aef ∷  -- 2 YEAR
    0x22400c03e8 ∷  -- 3 MONTH
    0x26501f03e8 ∷  -- 4 DAY
    0x2b501803e7 ∷  -- 5 HOUR
    0x30ce1003e7 ∷  -- 6 X
    0x3cb7090063 ∷  -- 7 Y
    0x47300403e7 ∷  -- 8 XYI
    0x4aa3e803e7 ∷  -- 9 CD
    0x5480ff03e7 ∷  -- 10 SID
    0x5c400803e7 ∷  -- 11 ST
    0x60200303e7 ∷  -- 12 QI
    0x62300603e7 ∷  -- 13 DS
    0x65200303e7 ∷  -- 14 DC
    0x67300203e7 ∷  -- 15 TC
    0x6a200303e7 ∷  -- 16 PB
    0x6c300603e7 ∷  -- 17 DI
    0x6f916a03e8 ∷  -- 18 D
    0x78400403e7 ∷  -- 19 WI
    0x7ca3ff03e7 ∷  -- 20 W
    0x86200303e7 ∷  -- 21 VI
    0x88400a0441 ∷  -- 22 VB
    0x8c706403e7 ∷  -- 23 PW
    0x93400a03e7 ∷  -- 24 W1
    0x97400a03e7 ∷  -- 25 W2
    0x9bb7ff25e3 ∷  -- 26 P
    0xa6400603e7 ∷  -- 27 TI
    0xaab7cf0000 ∷  -- 28 A
    0xb5b7cf0000 ∷  -- 29 WB
    0xc0b7cf0000 ∷  -- 30 DPT
    0xcbb7cf0000 ∷  -- 31 S
    0xd6400303e7 ∷  -- 32 BI
    0xda400a03e7 ∷  -- 33 C
    0xde400a03e7 ∷  -- 34 NH
    0xe2400b03e7 ∷  -- 35 CL
    0xe6200203e7 ∷  -- 36 HI
    0xe8400b03e7 ∷  -- 37 H
    0xec400b03e7 ∷  -- 38 CM
    0xf0400b03e7 ∷  -- 39 CH
    0xf4602703e7 ∷  -- 40 WD
    0xfa501f03e7 ∷  -- 41 WP
    0xff706403e7 ∷  -- 42 WH
    0x106602703e7 ∷  -- 43 SD
    0x10c501f03e7 ∷  -- 44 SP
    0x111706403e7 ∷  -- 45 SH
    0x118200203e7 ∷  -- 46 A6
    []

-- the base of the field that a row is of
unfoldable pub base_of : ℕ → ℤ
base_of r = pos (r % 65536) -ℤ pos 1000

-- that field
abbrev pub field_in : ℕ → Field
field_in r = field (r / 65536 % 4096) (base_of r) (r / 268435456 % 16)

-- r is the row of field k, which lies within two adjacent bytes of the card
pub record Row (k r : ℕ) : Type 0 where
  pub place : r / 4294967296 ≡ offset widths k
  pub bits : r / 268435456 % 16 ≡ get_or widths k 0
  pub highest : r / 65536 % 4096 ≡ (field_at k).highest
  pub base : base_of r ≡ (field_at k).base
  pub room : offset widths k / 8 + 2 ≤ 38
  pub within : offset widths k % 8 + get_or widths k 0 ≤ 16

-- r is the row of the field at place i
pub record RowAt (i r : ℕ) : Type 0 where
  pub place : i < 46
  pub row : r ≡ get_or rows (i + 1) 0

-- rs are the rows of the n fields from place i on
pub record RowRun (i n : ℕ) (rs : List ℕ) : Type 0 where
  pub places : i + n ≤ 46
  pub listed : rs ≡ take n (drop (i + 1) rows)
