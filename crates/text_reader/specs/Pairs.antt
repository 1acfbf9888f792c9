-- The table of the pairs.
use Rattle.std.specs.Prelude.{ℕ, List, [], ◌∷◌}

-- for the low nibble of a pair a row: in digits of 256, from the lowest on, the bytes with the high nibbles 12, 13 and 14
abbrev pub pair_rows : List ℕ
pair_rows =
    0x007d7b ∷  -- 0
    0x2f4a41 ∷  -- 1
    0x534b42 ∷  -- 2
    0x544c43 ∷  -- 3
    0x554d44 ∷  -- 4
    0x564e45 ∷  -- 5
    0x574f46 ∷  -- 6
    0x585047 ∷  -- 7
    0x595148 ∷  -- 8
    0x5a5249 ∷  -- 9
    0x002d26 ∷  -- 10
    0x00002b ∷  -- 11
    []
