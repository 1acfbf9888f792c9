-- What finding indicators leaves of an output, under every table by which the buffer begins with a report.
use Rattle.std.specs.Prelude.{ℕ, ◌≡◌, List}
use Rattle.format.specs.Flags.{FlagTable}
use Rattle.format.specs.Whole.{Wrote}
use Rattle.format.specs.Finding.{find}
use Rattle.report.specs.Found.{Accepted}

abbrev pub Finds : List ℕ → List ℕ → Wrote → Type 0
Finds b out w = (marks : FlagTable) → Accepted marks b → w ≡ find marks b out
