-- What the card's functions answer and leave.
use Rattle.std.specs.Prelude.{ℕ, ◌≡◌, cond, List, length, Option, Some, None}
use Rattle.std.proofs.Math.Option as logic
use Rattle.format.specs.Field.{Field, table, entries, in_range, coded_of}
use Rattle.format.specs.Report.{numbers_of, codes_of, tail_of}
use Rattle.format.specs.declared.Coded.{Coded}
use Rattle.format.specs.declared.Scaled.{Scaled}

-- the entries that a card shows
abbrev pub entries_of : List ℕ → List (logic.Option Scaled)
entries_of b = entries table (codes_of b)

-- the coded number of a value, none where it is out of range
unfoldable pub coding_of : Field → Scaled → Option Coded
coding_of f v = cond (in_range f v) (Some (coded_of f v)) None

-- the buffer after is the buffer before with these numbers on its card
pub record Carded (before after numbers : List ℕ) : Type 0 where
  pub card : numbers_of after ≡ numbers
  pub behind : tail_of after ≡ tail_of before
  pub long : length after ≡ length before
