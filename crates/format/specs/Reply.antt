-- FORMAT 6.1: what the code answers to the twelve calls, to the costliest text (7.9) and to the finding call (7.10): the number and place of the refusal, or what is given, for each case.
use Rattle.std.specs.Prelude.{ℕ, ◌≡◌, List, [], ◌∷◌, length, pos, Some, None, Result, Ok, Err}
use Rattle.std.proofs.Math.Option.{none, some}
use Rattle.format.specs.Order as order
use Rattle.format.specs.ShipText as text
use Rattle.format.specs.ShipText.{set_number}
use Rattle.format.specs.Report.{observation_of}
use Rattle.format.specs.Calls.{Given, value, flag, count, nibbles, deck, given, counted, content, Answer, refused, accepted}
use Rattle.format.specs.declared.Refusal.{Refusal}
use Rattle.format.specs.declared.Refusal.TheVariants.{Short, Code, Missing, Checksum, Attachment, Body, Padding, Number, Value, Required, NoSuch, Length, Room, Content, Table}
use Rattle.format.specs.declared.DeckSet.{DeckSet}
use Rattle.format.specs.declared.DeckSet.TheVariants.{Unknown, Ebcdic, Ascii}
use Rattle.format.specs.declared.Outcome.{Outcome}
use Rattle.format.specs.declared.Outcome.TheVariants as outcome

-- the number and the place of each refusal (5.1)
abbrev pub refusal_of : Refusal → order.Refusal
refusal_of (Short p) = record { number = 1; place = p }
refusal_of (Code p) = record { number = 2; place = p }
refusal_of (Missing p) = record { number = 3; place = p }
refusal_of Checksum = record { number = 4; place = 0 }
refusal_of (Attachment p) = record { number = 5; place = p }
refusal_of (Body p) = record { number = 6; place = p }
refusal_of Padding = record { number = 7; place = 0 }
refusal_of Number = record { number = 8; place = 0 }
refusal_of (Value p) = record { number = 9; place = p }
refusal_of (Required p) = record { number = 10; place = p }
refusal_of NoSuch = record { number = 11; place = 0 }
refusal_of Length = record { number = 12; place = 0 }
refusal_of Room = record { number = 13; place = 0 }
refusal_of Content = record { number = 14; place = 0 }
refusal_of Table = record { number = 16; place = 0 }

-- a result with its refusal by number and place
abbrev pub by_number : {T : Type 0} → Result T Refusal → Result T order.Refusal
by_number (Err e) = Err (refusal_of e)
by_number (Ok x) = Ok x

-- the refusal of this number and place
abbrev pub refusal : ℕ → ℕ → Answer
refusal n p = refused (record { number = n; place = p })

-- the deck's set (3.5)
abbrev pub set_of : DeckSet → text.DeckSet
set_of Unknown = text.unknown
set_of Ebcdic = text.ebcdic
set_of Ascii = text.ascii

-- the numbers that are given
abbrev pub givens_of : Outcome → List Given
givens_of outcome.Nothing = []
givens_of (outcome.Value (Some v)) = given value (some v.0) ∷ []
givens_of (outcome.Value None) = given value none ∷ []
givens_of (outcome.Flag (Some v)) = given flag (some (pos v)) ∷ []
givens_of (outcome.Flag None) = given flag none ∷ []
givens_of (outcome.Count n) = counted count n ∷ []
givens_of (outcome.Nibbles n) = counted nibbles n ∷ []
givens_of (outcome.Text n k m) = counted count n ∷ counted deck (set_number (set_of k)) ∷ counted nibbles m ∷ []

abbrev pub answer_of : Result Outcome Refusal → Answer
answer_of (Err e) = refused (refusal_of e)
answer_of (Ok o) = accepted (givens_of o)

-- the nibbles that an outcome gives are as many as id 4's content has in the report that the buffer begins with
abbrev pub CountsNibbles : Outcome → List ℕ → Type 0
CountsNibbles outcome.Nothing b = Unit {0}
CountsNibbles (outcome.Value v) b = Unit {0}
CountsNibbles (outcome.Flag v) b = Unit {0}
CountsNibbles (outcome.Count n) b = Unit {0}
CountsNibbles (outcome.Nibbles n) b = n ≡ length (content (observation_of b) 4)
CountsNibbles (outcome.Text n k m) b = m ≡ length (content (observation_of b) 4)

-- the nibbles that a text call gives are as many as id 4's content has in the report that its buffer then begins with
abbrev pub CountsId4 : Result Outcome Refusal → List ℕ → Type 0
CountsId4 (Err e) b = Unit {0}
CountsId4 (Ok o) b = CountsNibbles o b
