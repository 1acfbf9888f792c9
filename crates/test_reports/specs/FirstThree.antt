-- FORMAT 7.8: the first three steps of a reader for display.
use Rattle.std.specs.Prelude.{ℕ, ◌≡◌, List, Option, Some, None}
use Rattle.format.specs.Flags.{FlagTable}
use Rattle.format.specs.Display.{opening_refusal, displayed, handed}
use Rattle.text_display.specs.declared.Step.{Step}
use Rattle.text_display.specs.Steps.{symbol_given, refusal_in}
use Rattle.test_reports.specs.declared.FirstSteps.{FirstSteps}
use Rattle.test_reports.specs.declared.Standing.{Standing}

-- where a reader stands behind a step from a place: at the end it stays, and has no spaces to give
abbrev pub stands_behind : Option Step → ℕ → Standing
stands_behind (Some s) at = record { at = s.at; spaces = s.spaces }
stands_behind None at = record { at = at; spaces = 0 }

-- the refusal is that of the opening, and each step gives what the display hands out in its turn
pub record InTurn (marks : FlagTable) (b : List ℕ) (r : FirstSteps) : Type 0 where
  pub refusal : refusal_in r.refusal ≡ opening_refusal marks b
  pub first : symbol_given r.first ≡ handed (displayed marks b) 0
  pub second : symbol_given r.second ≡ handed (displayed marks b) 1
  pub third : symbol_given r.third ≡ handed (displayed marks b) 2
