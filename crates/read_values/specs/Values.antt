-- The values that a card shows.
use Rattle.std.specs.Prelude.{ℕ, suc, ◌^◌, cond, List, map, get_or, ℤ, pos}
use Rattle.std.proofs.Math.Option.{none}
use Rattle.format.specs.Field.{is_present}
use Rattle.format.specs.Whole.{value_or_zero}
use Rattle.card.specs.Answers.{entries_of}
use Rattle.card.specs.Runs.{SetAndSummed}

-- of the field at place i: the value, 0 where it is missing, and its bit of the presence word
abbrev pub value_or_zero_at : List ℕ → ℕ → ℤ
value_or_zero_at b i = get_or (map value_or_zero (entries_of b)) i (pos 0)

abbrev pub bit_of : List ℕ → ℕ → ℕ
bit_of b i = cond (is_present (get_or (entries_of b) i none)) (2 ^ suc i) 0

-- n fields from place i on read, their values stored and their bits added
abbrev pub ValuesRead : List ℕ → ℕ → ℕ → List ℤ → List ℤ → ℕ → ℕ → Type 0
ValuesRead b i n before after word r = SetAndSummed (value_or_zero_at b) (bit_of b) 0 70368744177664 i n before after word r
