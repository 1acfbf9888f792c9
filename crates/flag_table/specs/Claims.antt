-- What is claimed of tables of permitted flags beside their definitions.
use Rattle.std.specs.Prelude.{ℕ, ◌+◌, ◌-◌, ◌*◌, ◌≡◌, true, List, get_or}
use Rattle.format.specs.Order.{between}
use Rattle.format.specs.Flags.{is_flag, FlagTable, mark_of, flag_in_range}
use Rattle.format.specs.Loading.{table_of}

-- FORMAT 3.4: under this table every flag may have any of the ten values, and no other
abbrev pub AnyValue : FlagTable → Type 0
AnyValue marks = (j v : ℕ) → is_flag j ≡ true → flag_in_range marks j v ≡ between 1 10 v

-- FORMAT 7.7: where the mark of a flag and a value stands in a table that is lent
abbrev pub RowByRow : List ℕ → Type 0
RowByRow lent = (j v : ℕ) → is_flag j ≡ true → between 1 10 v ≡ true → mark_of (table_of lent) j v ≡ get_or lent (10 * (j - 1) + (v - 1)) 0
