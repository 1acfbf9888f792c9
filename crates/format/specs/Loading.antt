-- FORMAT 7.7: a library loads its own table of permitted flags.
use Rattle.std.specs.Prelude.{ℕ, zero, suc, Bool, true, false, not, ◌&&◌, ◌||◌, List, [], ◌∷◌, length, take, drop, eqb}
use Rattle.std.proofs.Math.Option.{Option, none, some}
use Rattle.format.specs.Order.{Refusal, Check, check, first, all_marks}
use Rattle.format.specs.Flags.{FlagTable}
use Rattle.format.specs.Calls.{Answer, done_by}

-- a table is lent row after row, a byte a mark: its first n rows
unfoldable pub rows : ℕ → List ℕ → FlagTable
rows zero lent = []
rows (suc n) lent = take 10 lent ∷ rows n (drop 10 lent)

abbrev pub table_of : List ℕ → FlagTable
table_of lent = rows 14 lent

-- a row with a yes; and every row has one
unfoldable pub some_yes : List ℕ → Bool
some_yes [] = false
some_yes (m ∷ ms) = eqb m 1 || some_yes ms

unfoldable pub every_row : FlagTable → Bool
every_row [] = true
every_row (row ∷ more) = some_yes row && every_row more

-- 16: not 140 bytes, a byte other than 0 or 1, or a row without a yes
unfoldable pub load_checks : List ℕ → List Check
load_checks lent = check (not (eqb (length lent) 140) || (not (all_marks lent) || not (every_row (table_of lent)))) 16 0 ∷ []

-- acceptance, which gives nothing, or the refusal
unfoldable pub load_answer : List ℕ → Answer
load_answer lent = done_by (first (load_checks lent))

-- the table in force afterwards: the lent one, or where that is refused the former one
abbrev pub in_force_by : Option Refusal → FlagTable → List ℕ → FlagTable
in_force_by (some r) former lent = former
in_force_by none former lent = table_of lent

unfoldable pub in_force : FlagTable → List ℕ → FlagTable
in_force former lent = in_force_by (first (load_checks lent)) former lent
