-- The states of a reader of ship text as numbers, and the tables of their steps.
use Rattle.std.specs.Prelude.{ℕ, zero, suc, ◌+◌, ◌*◌, ◌/◌, ◌%◌, ◌^◌, ◌<◌, ◌≡◌, cond, List, [], ◌∷◌, get_or, ltb, eqb}
use Rattle.format.specs.ShipText.{TextState, Between, Run, Pair, Escape, Half, Invalid}

-- after a 12, 13 or 14
abbrev pub pair_places : List ℕ
pair_places = 0 ∷ 0 ∷ 0 ∷ 0 ∷ 0 ∷ 0 ∷ 0 ∷ 0 ∷ 0 ∷ 0 ∷ 0 ∷ 0 ∷ 24 ∷ 28 ∷ 32 ∷ 0 ∷ []

-- where a state stands in a row, in bits. States that take the same nibbles share a place, and 0 is invalid
unfoldable pub place : TextState → ℕ
place (Between s) = cond (eqb s 0) 4 (cond (eqb (s % 18) 0) 8 (cond (eqb (s % 18) 1) 12 16))
place (Run s) = cond (eqb (s % 18) 0) 20 0
place (Pair s z) = get_or pair_places z 0
place (Escape s) = 40
place (Half s h) = cond (ltb h 16) 36 0
place Invalid = 0

-- ---- a nibble

-- for each nibble a row: in digits of 16, from the lowest on, the state after the nibble from each state
abbrev pub state_rows : List ℕ
state_rows =
    0x91011411110 ∷  -- 0
    0x91111411110 ∷  -- 1
    0x91111411110 ∷  -- 2
    0x91111411110 ∷  -- 3
    0x91111411110 ∷  -- 4
    0x91111411110 ∷  -- 5
    0x91111411110 ∷  -- 6
    0x91111411110 ∷  -- 7
    0x91111411110 ∷  -- 8
    0x91111411110 ∷  -- 9
    0x91011404330 ∷  -- 10
    0x91001400550 ∷  -- 11
    0x91000466660 ∷  -- 12
    0x91000477770 ∷  -- 13
    0x91000488880 ∷  -- 14
    0x910002aaaa0 ∷  -- 15
    []

-- the place after a nibble, from a place
unfoldable pub next_state : ℕ → ℕ → ℕ
next_state p n = get_or state_rows n 0 * 4 / 2 ^ p / 4 % 16 * 4

-- the place after a row of nibbles
unfoldable pub place_after : ℕ → List ℕ → ℕ
place_after p [] = p
place_after p (n ∷ ns) = place_after (next_state p n) ns

-- ---- a byte

-- the place after the two nibbles of a byte
unfoldable pub byte_next : ℕ → ℕ → ℕ
byte_next p b = next_state (next_state p (b / 16)) (b % 16)

-- a place in a byte's row, whose digits have six bits
abbrev pub six : ℕ → ℕ
six p = p * 3 / 2

-- a byte's row, over the first k places: the place after the byte, shifted by the place before it. After a 15 both nibbles are a byte,
-- and what then comes is a low place, so that eleven of them fit into 64 bits
unfoldable pub row_from : ℕ → ℕ → ℕ
row_from zero b = 0
row_from (suc k) b = six (byte_next (4 * k) b) * 2 ^ (6 * k) + row_from k b

unfoldable pub byte_row : ℕ → ℕ
byte_row b = row_from 11 b

-- one of the eleven places
pub record Placed (p : ℕ) : Type 0 where
  pub low : p < 44
  pub whole : p % 4 ≡ 0

-- the place in the lowest six bits of a number
abbrev pub held : ℕ → ℕ
held w = w % 64 / 6 * 4

pub record Holds (w : ℕ) : Type 0 where
  pub low : w % 64 < 66
  pub whole : w % 64 % 6 ≡ 0
