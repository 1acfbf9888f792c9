-- The reader of the ship text as a program in another language holds it: five numbers. They are the place and the end in nibbles, the
-- spaces of a run that are still to come, and the refusal's number and place, 0 where opening was not refused. Their values are the
-- library's choice but for the last two.
use Rattle.std.specs.Prelude.{ℕ, ◌+◌, ◌≡◌, List, length, get_or, set, Option, Some, None}
use Rattle.format.specs.Flags.{FlagTable}
use Rattle.format.specs.Calls.{done_by}
use Rattle.format.specs.Display.{opening_refusal, displayed}
use Rattle.text_display.specs.declared.Step.{Step}
use Rattle.text_reader.specs.Codes.{mark}
use Rattle.text_display.specs.Steps.{step_at, Gives, number_of, place_of}
use Rattle.lmr5.specs.declared.Answer.{Answer}
use Rattle.lmr5.specs.declared.Symbol.{Symbol}
use Rattle.lmr5.specs.Numbered.{numbered}

-- the answer, the refusal in the reader, and what every choice of the other numbers has in common: the steps give the symbols
pub record ReaderOpened (marks : FlagTable) (b reader : List ℕ) (r : Answer) : Type 0 where
  pub answer : r ≡ numbered (done_by (opening_refusal marks b))
  pub five : length reader ≡ 5
  pub number : get_or reader 3 0 ≡ number_of (opening_refusal marks b)
  pub place : get_or reader 4 0 ≡ place_of (opening_refusal marks b)
  pub gives : Gives b (get_or reader 0 0) (get_or reader 1 0) (get_or reader 2 0) (displayed marks b)

-- a step as a symbol, and the reader after it: at the end it stays
abbrev pub symbol_of_step : Option Step → Symbol
symbol_of_step None = record { kind = 0; byte = 0 }
symbol_of_step (Some s) = record { kind = mark s.origin + 1; byte = s.byte }

abbrev pub reader_after : List ℕ → Option Step → List ℕ
reader_after reader None = reader
reader_after reader (Some s) = set (set reader 0 s.at) 2 s.spaces

pub record Stepped (b before after : List ℕ) (r : Symbol) : Type 0 where
  pub symbol : r ≡ symbol_of_step (step_at b (get_or before 0 0) (get_or before 1 0) (get_or before 2 0))
  pub reader : after ≡ reader_after before (step_at b (get_or before 0 0) (get_or before 1 0) (get_or before 2 0))
