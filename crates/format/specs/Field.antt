-- FORMAT 2.2 and 2.3: the field table; the coded number and the scaled value of a field.
use Rattle.std.specs.Prelude.{ℕ, ◌-◌, Bool, true, false, cond, ◌&&◌, ◌||◌, List, [], ◌∷◌, get_or, eqb, ℤ, pos, neg_ℤ, nat_abs, ◌+ℤ◌, ◌-ℤ◌}
use Rattle.std.proofs.Math.Option.{Option, none, some}
use Rattle.std.specs.Int.Signed.{le_z}
use Rattle.format.specs.Order.{between}
use Rattle.format.specs.declared.Coded.{Coded}
use Rattle.format.specs.declared.Scaled.{Scaled}

-- a row of the table: highest coded number, base, bits
pub record Field : Type 0 where
  pub highest : ℕ
  pub base : ℤ
  pub bits : ℕ

abbrev pub field : ℕ → ℤ → ℕ → Field
field highest base bits = record { highest = highest; base = base; bits = bits }

abbrev pub minus : ℕ → ℤ
minus n = neg_ℤ (pos n)

-- fields 1 to 46
unfoldable pub table : List Field
table =
    field 648 (pos 0) 10 ∷  -- 1 BOX10
    field 255 (pos 1799) 8 ∷  -- 2 YEAR
    field 12 (pos 0) 4 ∷  -- 3 MONTH
    field 31 (pos 0) 5 ∷  -- 4 DAY
    field 24 (minus 1) 5 ∷  -- 5 HOUR
    field 3600 (minus 1) 12 ∷  -- 6 X
    field 1801 (minus 901) 11 ∷  -- 7 Y
    field 4 (minus 1) 3 ∷  -- 8 XYI
    field 1000 (minus 1) 10 ∷  -- 9 CD
    field 255 (minus 1) 8 ∷  -- 10 SID
    field 8 (minus 1) 4 ∷  -- 11 ST
    field 3 (minus 1) 2 ∷  -- 12 QI
    field 6 (minus 1) 3 ∷  -- 13 DS
    field 3 (minus 1) 2 ∷  -- 14 DC
    field 2 (minus 1) 3 ∷  -- 15 TC
    field 3 (minus 1) 2 ∷  -- 16 PB
    field 6 (minus 1) 3 ∷  -- 17 DI
    field 362 (pos 0) 9 ∷  -- 18 D
    field 4 (minus 1) 4 ∷  -- 19 WI
    field 1023 (minus 1) 10 ∷  -- 20 W
    field 3 (minus 1) 2 ∷  -- 21 VI
    field 10 (pos 89) 4 ∷  -- 22 VB
    field 100 (minus 1) 7 ∷  -- 23 PW
    field 10 (minus 1) 4 ∷  -- 24 W1
    field 10 (minus 1) 4 ∷  -- 25 W2
    field 2047 (pos 8699) 11 ∷  -- 26 P
    field 6 (minus 1) 4 ∷  -- 27 TI
    field 1999 (minus 1000) 11 ∷  -- 28 A
    field 1999 (minus 1000) 11 ∷  -- 29 WB
    field 1999 (minus 1000) 11 ∷  -- 30 DPT
    field 1999 (minus 1000) 11 ∷  -- 31 S
    field 3 (minus 1) 4 ∷  -- 32 BI
    field 10 (minus 1) 4 ∷  -- 33 C
    field 10 (minus 1) 4 ∷  -- 34 NH
    field 11 (minus 1) 4 ∷  -- 35 CL
    field 2 (minus 1) 2 ∷  -- 36 HI
    field 11 (minus 1) 4 ∷  -- 37 H
    field 11 (minus 1) 4 ∷  -- 38 CM
    field 11 (minus 1) 4 ∷  -- 39 CH
    field 39 (minus 1) 6 ∷  -- 40 WD
    field 31 (minus 1) 5 ∷  -- 41 WP
    field 100 (minus 1) 7 ∷  -- 42 WH
    field 39 (minus 1) 6 ∷  -- 43 SD
    field 31 (minus 1) 5 ∷  -- 44 SP
    field 100 (minus 1) 7 ∷  -- 45 SH
    field 2 (minus 1) 2 ∷  -- 46 A6
    []

-- the row of field k, from 1 to 46 (8 is judged before it is read)
unfoldable pub field_at : ℕ → Field
field_at k = get_or table (k - 1) (field 0 (pos 0) 0)

abbrev pub is_field : ℕ → Bool
is_field k = between 1 46 k

-- the required fields
abbrev pub BOX10 : ℕ
BOX10 = 1

abbrev pub YEAR : ℕ
YEAR = 2

abbrev pub MONTH : ℕ
MONTH = 3

abbrev pub X : ℕ
X = 6

abbrev pub Y : ℕ
Y = 7

unfoldable pub required : ℕ → Bool
required k = eqb k BOX10 || (eqb k YEAR || (eqb k MONTH || (eqb k X || eqb k Y)))

-- ---- coded and scaled

abbrev pub coded : ℕ → Coded
coded n = record { 0 = n }

abbrev pub scaled : ℤ → Scaled
scaled z = record { 0 = z }

-- across by the base, and back (for a value in range): no other definition turns the one quantity into the other
unfoldable pub scaled_of : Field → Coded → Scaled
scaled_of f c = scaled (pos c.0 +ℤ f.base)

unfoldable pub coded_of : Field → Scaled → Coded
coded_of f v = coded (nat_abs (v.0 -ℤ f.base))

-- the range of a field: base + 1 and base + highest are its ends
unfoldable pub in_range : Field → Scaled → Bool
in_range f v = le_z (f.base +ℤ pos 1) v.0 && le_z v.0 (f.base +ℤ pos f.highest)

-- a field's entry in an observation: missing where the coded number is 0
unfoldable pub entry_of : Field → Coded → Option Scaled
entry_of f c = cond (eqb c.0 0) none (some (scaled_of f c))

abbrev pub is_present : Option Scaled → Bool
is_present none = false
is_present (some v) = true

unfoldable pub code_of : Field → Option Scaled → Coded
code_of f none = coded 0
code_of f (some v) = coded_of f v

-- the entries of coded numbers, and back, field by field
unfoldable pub entries : List Field → List ℕ → List (Option Scaled)
entries [] cs = []
entries (f ∷ fs) [] = []
entries (f ∷ fs) (c ∷ cs) = entry_of f (coded c) ∷ entries fs cs

unfoldable pub codes : List Field → List (Option Scaled) → List ℕ
codes [] es = []
codes (f ∷ fs) [] = []
codes (f ∷ fs) (e ∷ es) = (code_of f e).0 ∷ codes fs es
