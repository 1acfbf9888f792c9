-- The values that a caller gives with a presence word.
use Rattle.std.specs.Prelude.{ℕ, ◌+◌, ◌≡◌, Bool, cond, not, ◌&&◌, List, length, get_or, take, ℤ, pos, Result, Ok, Err, is_err}
use Rattle.std.proofs.Math.Seq.{paste}
use Rattle.format.specs.Order.{Refusal}
use Rattle.format.specs.Field.{table, field_at, required, in_range, scaled, codes}
use Rattle.format.specs.Report.{numbers_of, tail_of}
use Rattle.format.specs.Whole.{bit_at, entries_given}
use Rattle.card.specs.Runs.{SetAndSummed}

-- the coded fields of the values that are present
abbrev pub codes_given : List ℤ → ℕ → List ℕ
codes_given values word = codes table (entries_given 1 word (take 46 values))

-- that of the field at place i
abbrev pub code_given : List ℤ → ℕ → ℕ → ℕ
code_given values word i = get_or (codes_given values word) i 0

-- the card's numbers with the first n of these coded fields
abbrev pub fielded : List ℕ → List ℕ → ℕ → List ℕ
fielded numbers cs n = paste numbers 1 cs n

-- a run of n fields written from place i on: what was on the card, and behind it
pub record CodesWritten (values : List ℤ) (word i n : ℕ) (before after : List ℕ) (sum r : ℕ) : Type 0 where
  pub fields : SetAndSummed (code_given values word) (code_given values word) 1 65535 i n (numbers_of before) (numbers_of after) sum r
  pub behind : tail_of after ≡ tail_of before
  pub long : length after ≡ length before

-- the refusal of a field by its two tests: 10, 9
abbrev pub by_tests : Bool → Bool → ℕ → Result Unit Refusal
by_tests missing outside k = cond missing (Err (record { number = 10; place = k })) (cond outside (Err (record { number = 9; place = k })) (Ok tt))

-- that of field k, given as a presence word and a value
unfoldable pub given_check : ℕ → ℕ → ℤ → Result Unit Refusal
given_check k word v = by_tests (required k && not (bit_at word k)) (bit_at word k && not (in_range (field_at k) (scaled v))) k

-- that of the field at place i
abbrev pub check_at : List ℤ → ℕ → ℕ → Result Unit Refusal
check_at values word i = given_check (i + 1) word (get_or values i (pos 0))

-- its number: the refusal of field k, or 0
unfoldable pub value_refusal : ℕ → ℕ → ℤ → ℕ
value_refusal k word v =
    cond (required k && not (bit_at word k)) 10 (cond (bit_at word k && not (in_range (field_at k) (scaled v))) 9 0)

-- of the field at place i
abbrev pub refusal_at : List ℤ → ℕ → ℕ → ℕ
refusal_at values word i = value_refusal (i + 1) word (get_or values i (pos 0))

-- 1 where it is refused, else 0
abbrev pub fault_at : List ℤ → ℕ → ℕ → ℕ
fault_at values word i = cond (is_err (check_at values word i)) 1 0
