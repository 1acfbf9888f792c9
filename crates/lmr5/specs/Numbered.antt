-- The answers of the definitions as the numbers that a program in another language gets; include/lmr5.h describes them.
use Rattle.std.specs.Prelude.{ℕ, zero, suc, ◌+◌, ◌*◌, List, [], ◌∷◌, get_or, map, ℤ, pos}
use Rattle.numbers.specs.Words.{signed, unsigned}
use Rattle.format.specs.Observation.{size}
use Rattle.format.specs.Report.{Verdict}
use Rattle.format.specs.Calls as call
use Rattle.format.specs.Calls.{Given, refused, accepted}
use Rattle.format.specs.Buffer.{After}
use Rattle.format.specs.Whole.{Wrote, Unpacked, pack_gives}
use Rattle.script.specs.Labels.{number_or_zero, labels}
use Rattle.script.specs.declared.Labelled.{Labelled}
use Rattle.lmr5.specs.declared.Answer.{Answer}

abbrev pub answer : ℕ → ℕ → ℕ → ℤ → ℤ → ℤ → Answer
answer refusal given place first second third =
    record { refusal = refusal; given = given; place = place; first = first; second = second; third = third }

-- the number at a place of a row, 0 where there is none or it is missing
abbrev pub number_in : List Given → ℕ → ℤ
number_in [] i = pos 0
number_in (g ∷ gs) zero = number_or_zero g.number
number_in (g ∷ gs) (suc i) = number_in gs i

-- the refusal's number and place, 0 where it is accepted; the labels of what is given; and up to three numbers
abbrev pub numbered : call.Answer → Answer
numbered (refused r) = answer r.number 0 r.place (pos 0) (pos 0) (pos 0)
numbered (accepted gs) = answer 0 (labels gs) 0 (number_in gs 0) (number_in gs 1) (number_in gs 2)

-- the same of a row of three numbers with their labels, as a log has them
abbrev pub in_row : List Labelled → ℕ → Labelled
in_row r i = get_or r i (record { label = 0; number = 0 })

abbrev pub told : List Labelled → Answer
told r =
    answer 0 ((in_row r 0).label + 256 * ((in_row r 1).label + 256 * (in_row r 2).label)) 0
    (signed (in_row r 0).number) (signed (in_row r 1).number) (signed (in_row r 2).number)

-- ---- the twelve calls: the answer, the buffer and the outputs after one

pub record Left : Type 0 where
  pub answer : Answer
  pub buffer : List ℕ
  pub outs : List (List ℕ)

abbrev pub left : Answer → List ℕ → List (List ℕ) → Left
left a b outs = record { answer = a; buffer = b; outs = outs }

abbrev pub numbered_after : After → Left
numbered_after a = left (numbered a.answer) a.buffer a.outs

-- ---- whole reports

-- judging gives the report's size in bytes
abbrev pub judging : Verdict → call.Answer
judging (Verdict.refused r) = refused r
judging (Verdict.accepted s) = accepted (pack_gives (size s))

-- the answer of fresh, pack or the finding call, and the output after it
pub record Written : Type 0 where
  pub answer : Answer
  pub out : List ℕ

abbrev pub numbered_wrote : Wrote → Written
numbered_wrote w = record { answer = numbered w.answer; out = w.out }

-- the answer of unpack, and the values, the tail and the six contents after it
pub record Opened : Type 0 where
  pub answer : Answer
  pub values : List ℤ
  pub tail : List ℕ
  pub contents : List ℕ

abbrev pub opening : Answer → List ℤ → List ℕ → List ℕ → Opened
opening a vs ns contents = record { answer = a; values = vs; tail = ns; contents = contents }

abbrev pub word : Given → ℕ
word g = unsigned (number_or_zero g.number)

-- what unpack gives stands in the contents; refused, it leaves them
abbrev pub opened_by : call.Answer → List ℤ → List ℕ → List ℕ → Opened
opened_by (refused r) vs ns contents = opening (numbered (refused r)) vs ns contents
opened_by (accepted gs) vs ns contents = opening (numbered (accepted [])) vs ns (map word gs)

abbrev pub numbered_unpacked : Unpacked → List ℕ → Opened
numbered_unpacked u contents = opened_by u.answer u.values u.tail contents
