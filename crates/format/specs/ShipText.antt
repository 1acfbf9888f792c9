-- FORMAT 3.5, the ship text of id 4: the characters and their table, symbols, the writer, the reader, the deck's set.
use Rattle.std.specs.Prelude.{ℕ, zero, suc, ◌+◌, ◌-◌, ◌*◌, ◌/◌, ◌%◌, Bool, true, false, cond, ◌&&◌, ◌||◌, List, [], ◌∷◌, ◌++◌, map, length, replicate, ltb, eqb, ℤ, pos, negsuc}
use Rattle.std.proofs.Math.Option.{Option, none, some}
use Rattle.format.specs.Order.{between}
use Rattle.format.specs.declared.Scaled.{Scaled}

-- ---- characters

-- the nibbles of a byte, read as one number: one nibble is below 16, a pair below 256, and 15 and the byte at least 3840
unfoldable pub char_code : ℕ → ℕ
char_code b =
    cond (between 48 57 b) (b - 48)  -- 0 to 9
    (cond (eqb b 32) 10  -- space
    (cond (between 65 73 b) (12 * 16 + (b - 64))  -- A to I: 12,1 to 12,9
    (cond (between 74 82 b) (13 * 16 + (b - 73))  -- J to R: 13,1 to 13,9
    (cond (between 83 90 b) (14 * 16 + (b - 81))  -- S to Z: 14,2 to 14,9
    (cond (eqb b 47) (14 * 16 + 1)  -- /
    (cond (eqb b 38) (12 * 16 + 10)  -- &
    (cond (eqb b 43) (12 * 16 + 11)  -- +
    (cond (eqb b 45) (13 * 16 + 10)  -- -
    (cond (eqb b 123) (12 * 16 + 0)  -- {
    (cond (eqb b 125) (13 * 16 + 0)  -- }
    (15 * 256 + b)))))))))))

unfoldable pub short : ℕ → Bool
short b = ltb (char_code b) 256

-- the byte of a pair that begins with 12, 13 or 14; 0, which has no short code, where the pair is undefined
unfoldable pub pair_byte : ℕ → ℕ → ℕ
pair_byte z n =
    cond (eqb z 12) (cond (eqb n 0) 123 (cond (ltb n 10) (64 + n) (cond (eqb n 10) 38 (cond (eqb n 11) 43 0))))
    (cond (eqb z 13) (cond (eqb n 0) 125 (cond (ltb n 10) (73 + n) (cond (eqb n 10) 45 0)))
    (cond (eqb z 14) (cond (eqb n 0) 0 (cond (eqb n 1) 47 (cond (ltb n 10) (81 + n) 0))) 0))

-- a code's nibbles
unfoldable pub code_nibbles : ℕ → List ℕ
code_nibbles v = cond (ltb v 16) (v ∷ []) (cond (ltb v 256) (v / 16 ∷ v % 16 ∷ []) (v / 256 ∷ v / 16 % 16 ∷ v % 16 ∷ []))

-- ---- the table of the characters

-- so many numbers in their order, from a on
unfoldable pub up_from : ℕ → ℕ → List ℕ
up_from a zero = []
up_from a (suc n) = a ∷ up_from (suc a) n

-- a byte's entry: the number of its nibbles, and below it, in three digits of 16, their value
unfoldable pub entry : ℕ → ℕ
entry b = length (code_nibbles (char_code b)) * 4096 + char_code b

-- the entries of the 256 bytes
unfoldable pub char_table : List ℕ
char_table = map entry (up_from 0 256)

-- ---- symbols

-- a text is a row of symbols: a plain one is a character, an original one a byte of the input deck, whichever
pub data Symbol : Type 0 where
  plain : ℕ → Symbol
  original : ℕ → Symbol

unfoldable pub byte_of : Symbol → ℕ
byte_of (plain b) = b
byte_of (original b) = b

-- its mark of origin: 0 plain, 1 original
unfoldable pub origin_of : Symbol → ℕ
origin_of (plain b) = 0
origin_of (original b) = 1

-- the symbol of a byte and its mark
unfoldable pub symbol_of : ℕ → ℕ → Symbol
symbol_of b o = cond (eqb o 0) (plain b) (original b)

-- the symbols of bytes and their marks, one for each
unfoldable pub symbols_in : List ℕ → List ℕ → List Symbol
symbols_in [] os = []
symbols_in (b ∷ bs) [] = []
symbols_in (b ∷ bs) (o ∷ os) = symbol_of b o ∷ symbols_in bs os

-- the symbols that a text may hold: a plain one has a short code
unfoldable pub admitted : Symbol → Bool
admitted (plain b) = ltb b 256 && short b
admitted (original b) = ltb b 256

unfoldable pub all_admitted : List Symbol → Bool
all_admitted [] = true
all_admitted (x ∷ xs) = admitted x && all_admitted xs

unfoldable pub is_space : Symbol → Bool
is_space (plain b) = eqb b 32
is_space (original b) = false

-- of the symbols that a text may hold a plain one has its short code; an original one has 15 and its byte
unfoldable pub symbol_nibbles : Symbol → List ℕ
symbol_nibbles (plain b) = code_nibbles (char_code b)
symbol_nibbles (original b) = 15 ∷ b / 16 ∷ b % 16 ∷ []

-- ---- the writer

-- the nibbles of so many full eighteens of spaces
unfoldable pub fulls : ℕ → List ℕ
fulls zero = []
fulls (suc k) = 11 ∷ 15 ∷ fulls k

-- the nibbles of the spaces that are left over, under 18
unfoldable pub rest : ℕ → List ℕ
rest zero = []
rest (suc zero) = 10 ∷ []
rest (suc (suc zero)) = 10 ∷ 10 ∷ []
rest (suc (suc (suc r))) = 11 ∷ r ∷ []

-- a run of s spaces that another symbol follows
unfoldable pub space_run : ℕ → List ℕ
space_run s = fulls (s / 18) ++ rest (s % 18)

-- symbols after s spaces that none has followed yet; spaces at the end are not written
unfoldable pub write_from : ℕ → List Symbol → List ℕ
write_from s [] = []
write_from s (x ∷ xs) = elim (is_space x) [ true ↦ write_from (suc s) xs | false ↦ space_run s ++ (symbol_nibbles x ++ write_from 0 xs) ]

-- the writer: the nibbles of a row of symbols
unfoldable pub write_text : List Symbol → List ℕ
write_text xs = write_from 0 xs

-- how many nibbles a row takes
abbrev pub nibble_count : List Symbol → ℕ
nibble_count xs = length (write_text xs)

-- whether the last symbol of a row is a plain space
unfoldable pub ends_in_space : List Symbol → Bool
ends_in_space [] = false
ends_in_space (x ∷ []) = is_space x
ends_in_space (x ∷ y ∷ ys) = ends_in_space (y ∷ ys)

-- ---- the reader

unfoldable pub spaces : ℕ → List Symbol
spaces s = replicate s (plain 32)

-- where a reader stands, with so many spaces that no symbol has followed yet
pub data TextState : Type 0 where
  Between : ℕ → TextState  -- between two codes
  Run : ℕ → TextState  -- after an 11
  Pair : ℕ → ℕ → TextState  -- after a 12, 13 or 14
  Escape : ℕ → TextState  -- after a 15
  Half : ℕ → ℕ → TextState  -- after a 15 and the high half of a byte
  Invalid : TextState  -- the writer gives no such nibbles

-- another state, or a symbol behind so many spaces
pub data TextStep : Type 0 where
  On : TextState → TextStep
  Plain : ℕ → ℕ → TextStep
  Original : ℕ → ℕ → TextStep

-- what one nibble brings. In a run as the writer gives it, 10 follows a rest of 0 or 1 so far, and 11 full eighteens only
unfoldable pub text_step : TextState → ℕ → TextStep
text_step (Between s) n =
    cond (ltb n 10) (Plain s (48 + n))
    (cond (eqb n 10) (cond (ltb (s % 18) 2) (On (Between (s + 1))) (On Invalid))
    (cond (eqb n 11) (On (Run s))
    (cond (ltb n 15) (On (Pair s n))
    (cond (eqb n 15) (On (Escape s))
    (On Invalid)))))
text_step (Run s) n = cond (eqb (s % 18) 0 && ltb n 16) (On (Between (s + (n + 3)))) (On Invalid)
text_step (Pair s z) n = cond (eqb (pair_byte z n) 0) (On Invalid) (Plain s (pair_byte z n))
text_step (Escape s) n = cond (ltb n 16) (On (Half s n)) (On Invalid)
text_step (Half s h) n = cond (ltb h 16 && ltb n 16) (Original s (h * 16 + n)) (On Invalid)
text_step Invalid n = On Invalid

unfoldable pub state_after : TextStep → TextState
state_after (On st) = st
state_after (Plain s b) = Between 0
state_after (Original s b) = Between 0

unfoldable pub symbols_of : TextStep → List Symbol
symbols_of (On st) = []
symbols_of (Plain s b) = spaces s ++ (plain b ∷ [])
symbols_of (Original s b) = spaces s ++ (original b ∷ [])

unfoldable pub read_from : TextState → List ℕ → List Symbol
read_from st [] = []
read_from st (n ∷ ns) = symbols_of (text_step st n) ++ read_from (state_after (text_step st n)) ns

unfoldable pub end_from : TextState → List ℕ → TextState
end_from st [] = st
end_from st (n ∷ ns) = end_from (state_after (text_step st n)) ns

-- between two codes, with no space waiting
unfoldable pub at_end : TextState → Bool
at_end (Between s) = eqb s 0
at_end (Run s) = false
at_end (Pair s z) = false
at_end (Escape s) = false
at_end (Half s h) = false
at_end Invalid = false

-- a valid content of id 4. That it is one that the writer gives for some row of symbols that a text may hold is proved (crate laws)
unfoldable pub text_valid : List ℕ → Bool
text_valid ns = at_end (end_from (Between 0) ns)

-- the symbols of a valid content. That they are the shortest row for which the writer gives it, of those that a text may hold, is
-- proved (crate laws)
unfoldable pub read_text : List ℕ → List Symbol
read_text ns = read_from (Between 0) ns

-- ---- the deck's set

-- the character set of the input deck
pub data DeckSet : Type 0 where
  unknown : DeckSet
  ebcdic : DeckSet
  ascii : DeckSet

-- by the source ID
unfoldable pub set_of_source : ℕ → DeckSet
set_of_source n =
    cond (between 1 3 n || (between 5 17 n || (between 19 21 n || between 23 24 n))) ebcdic
    (cond (eqb n 4 || eqb n 18) ascii unknown)

unfoldable pub set_of_number : ℤ → DeckSet
set_of_number (pos n) = set_of_source n
set_of_number (negsuc n) = unknown

-- by the scaled SID, where it is present
unfoldable pub deck_set : Option Scaled → DeckSet
deck_set none = unknown
deck_set (some v) = set_of_number v.0

-- as a number that is given, by convention
unfoldable pub set_number : DeckSet → ℕ
set_number unknown = 0
set_number ebcdic = 1
set_number ascii = 2
