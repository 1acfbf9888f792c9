-- The walk over the fields, one after the other.
use Rattle.std.specs.Prelude.{ℕ, Bool, cond, ◌&&◌, ltb, eqb, Result, Ok, Err}
use Rattle.format.specs.Order.{Refusal}
use Rattle.format.specs.Field.{field_at, required}

-- the refusal of field k by its two tests: 2, 3
abbrev pub by_tests : Bool → Bool → ℕ → Result Unit Refusal
by_tests above missing k = cond above (Err (record { number = 2; place = k })) (cond missing (Err (record { number = 3; place = k })) (Ok tt))

-- that of a coded number of field k
unfoldable pub code_check : ℕ → ℕ → Result Unit Refusal
code_check k c = by_tests (ltb (field_at k).highest c) (required k && eqb c 0) k
