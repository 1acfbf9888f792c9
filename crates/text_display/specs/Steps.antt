-- FORMAT 7.8: the steps of a reader for display. It stands at a place, with an end, both in nibbles, and has so many spaces of a
-- run still to give.
use Rattle.std.specs.Prelude.{ℕ, zero, suc, ◌+◌, ◌-◌, ◌≡◌, cond, List, [], ◌∷◌, ◌++◌, take, drop, ltb, Option, Some, None}
use Rattle.std.proofs.Math.Option as math
use Rattle.std.proofs.Math.Option.{none, some}
use Rattle.format.specs.Order as order
use Rattle.format.specs.Nibbles.{nibbles}
use Rattle.format.specs.Flags.{FlagTable}
use Rattle.format.specs.ShipText.{Symbol, symbol_of, nibble_count}
use Rattle.format.specs.Display.{opening_refusal, displayed, handed}
use Rattle.format.specs.Reply.{refusal_of}
use Rattle.format.specs.declared.Refusal.{Refusal}
use Rattle.report.specs.Found.{Accepted}
use Rattle.text_reader.specs.declared.Code.{Code}
use Rattle.text_reader.specs.declared.Origin.{Origin}
use Rattle.text_reader.specs.declared.Origin.TheVariants.{Plain}
use Rattle.text_reader.specs.Codes.{mark, code_in}
use Rattle.text_display.specs.declared.Opening.{Opening}
use Rattle.text_display.specs.declared.Reader.{Reader}
use Rattle.text_display.specs.declared.Step.{Step}

abbrev pub step : ℕ → Origin → ℕ → ℕ → Step
step b o at waiting = record { byte = b; origin = o; at = at; spaces = waiting }

-- a code's first symbol, and how many are still to come of it; the end where there is no code
abbrev pub step_by : ℕ → Option Code → Option Step
step_by at None = None
step_by at (Some c) = Some (step c.byte c.origin (at + c.nibbles) (c.count - 1))

-- a step on the bytes b, whatever they are: the symbol with the place and the spaces after it, or none at the end
unfoldable pub step_at : List ℕ → ℕ → ℕ → ℕ → Option Step
step_at b at end waiting =
    cond (ltb 0 waiting) (Some (step 32 Plain at (waiting - 1))) (step_by at (code_in (take (end - at) (drop at (nibbles b)))))

-- what a step gives
abbrev pub step_symbol : Step → Symbol
step_symbol s = symbol_of s.byte (mark s.origin)

abbrev pub symbol_given : Option Step → math.Option Symbol
symbol_given None = none
symbol_given (Some s) = some (step_symbol s)

-- step n, counted from 0, of a reader that only its steps move. At the end it stays
unfoldable pub step_number : ℕ → List ℕ → ℕ → ℕ → ℕ → Option Step
step_number zero b at end waiting = step_at b at end waiting
step_number (suc n) b at end waiting =
    elim (step_at b at end waiting) [
      | None ↦ step_number n b at end waiting
      | Some s ↦ step_number n b s.at end s.spaces
    ]

-- from here on a reader gives these symbols in their order, each once, and then the end for ever
abbrev pub Gives : List ℕ → ℕ → ℕ → ℕ → List Symbol → Type 0
Gives b at end waiting xs = (n : ℕ) → symbol_given (step_number n b at end waiting) ≡ handed xs n

-- the steps of the spaces that a reader has still to give
abbrev pub spaces_left : ℕ → ℕ → List Step
spaces_left zero at = []
spaces_left (suc n) at = step 32 Plain at n ∷ spaces_left n at

-- those of the codes from a place on, n codes at most
unfoldable pub codes_left : ℕ → List ℕ → ℕ → ℕ → List Step
codes_left zero b at end = []
codes_left (suc n) b at end =
    elim (code_in (take (end - at) (drop at (nibbles b)))) [
      | None ↦ []
      | Some c ↦ step c.byte c.origin (at + c.nibbles) (c.count - 1) ∷ spaces_left (c.count - 1) (at + c.nibbles) ++ codes_left n b (at + c.nibbles) end
    ]

-- all the steps that a reader has left
abbrev pub steps_left : Reader → List Step
steps_left r = spaces_left r.spaces r.at ++ codes_left (r.end - r.at) r.report.now r.at r.end

-- a refusal's number and place, 0 where there is none
abbrev pub number_of : math.Option order.Refusal → ℕ
number_of none = 0
number_of (some r) = r.number

abbrev pub place_of : math.Option order.Refusal → ℕ
place_of none = 0
place_of (some r) = r.place

-- a refusal by its number and place
abbrev pub refusal_in : Option Refusal → math.Option order.Refusal
refusal_in None = none
refusal_in (Some r) = some (refusal_of r)

abbrev pub numbers_of : ℕ → ℕ → Option Refusal → Opening
numbers_of at end r = record { at = at; end = end; refusal = r }

-- the numbers of a reader that is opened on b under a table
pub record Opens (marks : FlagTable) (b : List ℕ) (o : Opening) : Type 0 where
  pub refusal : refusal_in o.refusal ≡ opening_refusal marks b
  pub gives : Gives b o.at o.end 0 (displayed marks b)
  -- the place and the end are as many nibbles apart as the symbols take
  pub apart : o.end ≡ o.at + nibble_count (displayed marks b)

-- the same under every table by which b begins with a report
abbrev pub OpensAlways : List ℕ → Opening → Type 0
OpensAlways b o = (marks : FlagTable) → Accepted marks b → Opens marks b o
