-- FORMAT 7.8: the reader of the ship text for display.
use Rattle.std.specs.Prelude.{ℕ, zero, suc, List, [], ◌∷◌}
use Rattle.std.proofs.Math.Option.{Option, none, some}
use Rattle.format.specs.Order.{Refusal, first}
use Rattle.format.specs.Flags.{FlagTable}
use Rattle.format.specs.ShipText.{Symbol}
use Rattle.format.specs.Report.{Verdict, refused, accepted, observation_of, judge}
use Rattle.format.specs.Calls.{fetches, fetch_text, call_checks, ship_text}

-- what refuses an opening: the checks of fetch text without that of its outputs
abbrev pub opening_on : FlagTable → Verdict → Option Refusal
opening_on marks (refused r) = some r
opening_on marks (accepted s) = first (call_checks marks s (fetches (fetch_text [] [])))

unfoldable pub opening_refusal : FlagTable → List ℕ → Option Refusal
opening_refusal marks b = opening_on marks (judge marks b)

-- the symbols that it hands out: those of fetch text, or none where it is refused
abbrev pub displayed_by : Option Refusal → List Symbol → List Symbol
displayed_by (some r) xs = []
displayed_by none xs = xs

unfoldable pub displayed : FlagTable → List ℕ → List Symbol
displayed marks b = displayed_by (opening_refusal marks b) (ship_text (observation_of b))

-- what step n hands out, counted from 0: each symbol in its turn, and the end behind the last for ever
unfoldable pub handed : List Symbol → ℕ → Option Symbol
handed [] n = none
handed (x ∷ xs) zero = some x
handed (x ∷ xs) (suc n) = handed xs n
