-- What a call knows of a report that was inspected and accepted, and what it leaves of it.
use Rattle.std.specs.Prelude.{ℕ, ◌≡◌, List}
use Rattle.format.specs.Flags.{FlagTable}
use Rattle.format.specs.Report.{observation_of, accepted, judge}
use Rattle.format.specs.Calls.{Call}
use Rattle.format.specs.Buffer.{After, effect}
use Rattle.report.specs.Answers.{report_of}
use Rattle.report.specs.declared.Report.{Report}

-- the buffer b begins with a report, under a table of permitted flags; under one table or another
abbrev pub Accepted : FlagTable → List ℕ → Type 0
Accepted marks b = judge marks b ≡ accepted (observation_of b)

abbrev pub AcceptedBySome : List ℕ → Type 0
AcceptedBySome b = (marks : FlagTable) × Accepted marks b

-- what call c leaves of b, under every table by which b begins with a report: for code that judges nothing more by the table
abbrev pub Leaves : List ℕ → Call → After → Type 0
Leaves b c a = (marks : FlagTable) → Accepted marks b → a ≡ effect marks b c

-- and r is what that report shows, with the place and AL of id i
pub record Found (marks : FlagTable) (b : List ℕ) (i : ℕ) (r : Report) : Type 0 where
  pub judged : Accepted marks b
  pub is : r ≡ report_of b i (observation_of b).attachments

abbrev pub FoundBySome : List ℕ → ℕ → Report → Type 0
FoundBySome b i r = (marks : FlagTable) × Found marks b i r
