-- The field table, the weights and the character table against those of the source (supplement F of COADS Release 1), computed
-- over the whole of each.
-- Assumes nothing.
use Prim.Native.Nat.{ℕ, zero, suc, ◌+◌, ◌/◌, ◌%◌, ◌^◌}
use mathlib.Core.Bool.{Bool, true, false, cond, not, ◌&&◌}
use mathlib.Core.List.{List, [], ◌∷◌, map}
use lib.ListN.{length}
use lib.Dec.{T, eqb, ltb}
use lib.IntN.{ℤ, pos, negsuc, ◌+ℤ◌}
use Rattle.format.specs.Field.{Field, minus, table}
use Rattle.format.specs.Bits.{total}
use Rattle.format.specs.Observation.{widths}
use Rattle.format.specs.Flags.{weights}
use Rattle.format.specs.ShipText.{char_code, short, code_nibbles, pair_byte, Symbol, plain, original, byte_of, origin_of, is_space, symbol_nibbles, fulls, rest, space_run, write_from}
use Rattle.format.specs.ShipText.{write_text, spaces, text_step, state_after, symbols_of, read_from, end_from, at_end, text_valid, read_text}
use Rattle.format.proofs.Test.{same}

-- ---- fields: tables F0-1 and F0-2

-- lowest and highest true value in units, base, lowest and highest coded value, bits
pub record Row : Type 0 where
  pub low : ℤ
  pub high : ℤ
  pub base : ℤ
  pub low_code : ℕ
  pub high_code : ℕ
  pub bits : ℕ

abbrev pub row : ℤ → ℤ → ℤ → ℕ → ℕ → ℕ → Row
row low high base low_code high_code bits =
    record { low = low; high = high; base = base; low_code = low_code; high_code = high_code; bits = bits }

unfoldable pub source_rows : List Row
source_rows =
    row (pos 1) (pos 648) (pos 0) 1 648 10 ∷  -- 1 BOX10
    row (pos 1800) (pos 2054) (pos 1799) 1 255 8 ∷  -- 2 YEAR
    row (pos 1) (pos 12) (pos 0) 1 12 4 ∷  -- 3 MONTH
    row (pos 1) (pos 31) (pos 0) 1 31 5 ∷  -- 4 DAY
    row (pos 0) (pos 23) (minus 1) 1 24 5 ∷  -- 5 HOUR
    row (pos 0) (pos 3599) (minus 1) 1 3600 12 ∷  -- 6 X
    row (minus 900) (pos 900) (minus 901) 1 1801 11 ∷  -- 7 Y
    row (pos 0) (pos 3) (minus 1) 1 4 3 ∷  -- 8 XYI
    row (pos 0) (pos 999) (minus 1) 1 1000 10 ∷  -- 9 CD
    row (pos 0) (pos 254) (minus 1) 1 255 8 ∷  -- 10 SID
    row (pos 0) (pos 7) (minus 1) 1 8 4 ∷  -- 11 ST
    row (pos 0) (pos 2) (minus 1) 1 3 2 ∷  -- 12 QI
    row (pos 0) (pos 5) (minus 1) 1 6 3 ∷  -- 13 DS
    row (pos 0) (pos 2) (minus 1) 1 3 2 ∷  -- 14 DC
    row (pos 0) (pos 1) (minus 1) 1 2 3 ∷  -- 15 TC
    row (pos 0) (pos 2) (minus 1) 1 3 2 ∷  -- 16 PB
    row (pos 0) (pos 5) (minus 1) 1 6 3 ∷  -- 17 DI
    row (pos 1) (pos 362) (pos 0) 1 362 9 ∷  -- 18 D
    row (pos 0) (pos 3) (minus 1) 1 4 4 ∷  -- 19 WI
    row (pos 0) (pos 1022) (minus 1) 1 1023 10 ∷  -- 20 W
    row (pos 0) (pos 2) (minus 1) 1 3 2 ∷  -- 21 VI
    row (pos 90) (pos 99) (pos 89) 1 10 4 ∷  -- 22 VB
    row (pos 0) (pos 99) (minus 1) 1 100 7 ∷  -- 23 PW
    row (pos 0) (pos 9) (minus 1) 1 10 4 ∷  -- 24 W1
    row (pos 0) (pos 9) (minus 1) 1 10 4 ∷  -- 25 W2
    row (pos 8700) (pos 10746) (pos 8699) 1 2047 11 ∷  -- 26 P
    row (pos 0) (pos 5) (minus 1) 1 6 4 ∷  -- 27 TI
    row (minus 999) (pos 999) (minus 1000) 1 1999 11 ∷  -- 28 A
    row (minus 999) (pos 999) (minus 1000) 1 1999 11 ∷  -- 29 WB
    row (minus 999) (pos 999) (minus 1000) 1 1999 11 ∷  -- 30 DPT
    row (minus 999) (pos 999) (minus 1000) 1 1999 11 ∷  -- 31 S
    row (pos 0) (pos 2) (minus 1) 1 3 4 ∷  -- 32 BI
    row (pos 0) (pos 9) (minus 1) 1 10 4 ∷  -- 33 C
    row (pos 0) (pos 9) (minus 1) 1 10 4 ∷  -- 34 NH
    row (pos 0) (pos 10) (minus 1) 1 11 4 ∷  -- 35 CL
    row (pos 0) (pos 1) (minus 1) 1 2 2 ∷  -- 36 HI
    row (pos 0) (pos 10) (minus 1) 1 11 4 ∷  -- 37 H
    row (pos 0) (pos 10) (minus 1) 1 11 4 ∷  -- 38 CM
    row (pos 0) (pos 10) (minus 1) 1 11 4 ∷  -- 39 CH
    row (pos 0) (pos 38) (minus 1) 1 39 6 ∷  -- 40 WD
    row (pos 0) (pos 30) (minus 1) 1 31 5 ∷  -- 41 WP
    row (pos 0) (pos 99) (minus 1) 1 100 7 ∷  -- 42 WH
    row (pos 0) (pos 38) (minus 1) 1 39 6 ∷  -- 43 SD
    row (pos 0) (pos 30) (minus 1) 1 31 5 ∷  -- 44 SP
    row (pos 0) (pos 99) (minus 1) 1 100 7 ∷  -- 45 SH
    row (pos 0) (pos 1) (minus 1) 1 2 2 ∷  -- 46 A6
    []

unfoldable pub eq_z : ℤ → ℤ → Bool
eq_z (pos a) (pos b) = eqb a b
eq_z (pos a) (negsuc b) = false
eq_z (negsuc a) (pos b) = false
eq_z (negsuc a) (negsuc b) = eqb a b

unfoldable pub agree : Field → Row → Bool
agree f r =
    eq_z r.base f.base
    && (eq_z r.low (f.base +ℤ pos 1)
    && (eq_z r.high (f.base +ℤ pos f.highest)
    && (eqb r.low_code 1 && (eqb r.high_code f.highest && (eqb r.bits f.bits && ltb f.highest (2 ^ f.bits))))))

unfoldable pub agree_all : List Field → List Row → Bool
agree_all [] [] = true
agree_all [] (r ∷ rs) = false
agree_all (f ∷ fs) [] = false
agree_all (f ∷ fs) (r ∷ rs) = agree f r && agree_all fs rs

-- the table agrees with the source at all 46 fields, and the card has 300 bits
pub table_agrees : T (agree_all table source_rows && (eqb (length table) 46 && eqb (total widths) 300))
unfolding table source_rows eq_z agree agree_all total widths
table_agrees = tt

-- ---- flags: the weights of R A B J K L M N Q S, table F4-1

pub weights_agree : T (same weights (0 ∷ 1 ∷ 1 ∷ 2 ∷ 2 ∷ 2 ∷ 3 ∷ 3 ∷ 3 ∷ 3 ∷ []))
unfolding same weights
weights_agree = tt

-- ---- characters: table F4-3, with { and } for its two overpunches

-- what is read is this symbol
unfoldable pub alike : List Symbol → Symbol → Bool
alike xs x = same (map byte_of xs) (byte_of x ∷ []) && same (map origin_of xs) (origin_of x ∷ [])

-- the bytes of a column's rows, from row n on
unfoldable pub column : ℕ → ℕ → List ℕ → Bool
column z n [] = true
column z n (b ∷ bs) =
    same (write_text (plain b ∷ [])) (z ∷ n ∷ []) && (alike (read_text (z ∷ n ∷ [])) (plain b) && column z (suc n) bs)

unfoldable pub single : ℕ → List ℕ → Bool
single n [] = true
single n (b ∷ bs) = same (write_text (plain b ∷ [])) (n ∷ []) && (alike (read_text (n ∷ [])) (plain b) && single (suc n) bs)

-- the pairs of a column from row n on are undefined, m of them
unfoldable pub blank_from : ℕ → ℕ → ℕ → Bool
blank_from z n zero = true
blank_from z n (suc m) = not (text_valid (z ∷ n ∷ [])) && blank_from z (suc n) m

-- how many bytes below n have a short code, and whether each byte, as an original symbol, is 15 and the byte, there and back
unfoldable pub count_short : ℕ → ℕ
count_short zero = 0
count_short (suc n) = cond (short n) 1 0 + count_short n

unfoldable pub escaped : ℕ → Bool
escaped zero = true
escaped (suc n) =
    same (write_text (original n ∷ [])) (15 ∷ n / 16 ∷ n % 16 ∷ []) && (alike (read_text (15 ∷ n / 16 ∷ n % 16 ∷ [])) (original n) && escaped n)

pub characters_agree : T (
    -- the digits, and a space
    single 0 (48 ∷ 49 ∷ 50 ∷ 51 ∷ 52 ∷ 53 ∷ 54 ∷ 55 ∷ 56 ∷ 57 ∷ []) && (same (write_text (plain 32 ∷ plain 48 ∷ [])) (10 ∷ 0 ∷ [])
    -- 12: { A B C D E F G H I & +
    && (column 12 0 (123 ∷ 65 ∷ 66 ∷ 67 ∷ 68 ∷ 69 ∷ 70 ∷ 71 ∷ 72 ∷ 73 ∷ 38 ∷ 43 ∷ [])
    -- 13: } J K L M N O P Q R -
    && (column 13 0 (125 ∷ 74 ∷ 75 ∷ 76 ∷ 77 ∷ 78 ∷ 79 ∷ 80 ∷ 81 ∷ 82 ∷ 45 ∷ [])
    -- 14: nothing, / S T U V W X Y Z
    && (column 14 1 (47 ∷ 83 ∷ 84 ∷ 85 ∷ 86 ∷ 87 ∷ 88 ∷ 89 ∷ 90 ∷ [])
    -- the blank positions, and no other byte is short
    && (blank_from 12 12 4 && (blank_from 13 11 5 && (blank_from 14 0 1 && (blank_from 14 10 6 && (eqb (count_short 256) 43 && escaped 256)))))))))
    )
unfolding same char_code short code_nibbles pair_byte byte_of origin_of alike is_space symbol_nibbles fulls rest space_run write_from write_text spaces text_step state_after
    symbols_of read_from end_from at_end text_valid read_text column single blank_from count_short escaped
characters_agree = tt
