-- What a code stored in a field leaves of the card.
use Rattle.std.specs.Prelude.{ℕ, ◌-◌, List, set}
use Rattle.format.specs.Observation.{checksum}
use Rattle.format.specs.Report.{numbers_of, codes_of}

-- the numbers of a card with code c in field k, and the checksum
abbrev pub replaced : List ℕ → ℕ → ℕ → List ℕ
replaced b k c = set (set (numbers_of b) k c) 47 (checksum (set (codes_of b) (k - 1) c))
