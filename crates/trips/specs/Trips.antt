-- FORMAT 7.5: the two round trips, pack after unpack, and unpack after pack.
use Rattle.std.specs.Prelude.{ℕ, ◌≤◌, ◌≡◌, ◌||◌, List, [], ◌∷◌, ◌++◌, map, length, take, ltb, ℤ}
use Rattle.std.proofs.Math.Option.{Option, none, some}
use Rattle.std.specs.Int.Count.{ones}
use Rattle.format.specs.Order.{Refusal, Check, check, first}
use Rattle.format.specs.Flags.{FlagTable}
use Rattle.format.specs.Observation.{Observation, packing, size}
use Rattle.format.specs.Report.{Verdict, judge}
use Rattle.format.specs.Calls.{Answer, over}
use Rattle.format.specs.Whole.{contents, value_or_zero, tail, unpack_checks, count_in, pack_observation, pack_order, pack_gives, masked}

-- the answer of a round trip, and the values, the tail and the report after it
pub record Trip : Type 0 where
  pub answer : Answer
  pub values : List ℤ
  pub tail : List ℕ
  pub report : List ℕ

abbrev pub trip : Answer → List ℤ → List ℕ → List ℕ → Trip
trip a vs ns report = record { answer = a; values = vs; tail = ns; report = report }

-- ---- pack after unpack

-- those of unpack, then pack's 13. What unpack gave is refused by nothing else
abbrev pub restore_checks : Observation → List ℤ → List ℕ → List ℕ → List Check
restore_checks s vs ns out = unpack_checks s vs ns ++ (check (ltb (length out) (size s)) 13 0 ∷ [])

-- a report that is accepted comes back byte for byte; a refused trip changes nothing
abbrev pub restored_by : Option Refusal → Observation → List ℕ → List ℤ → List ℕ → List ℕ → Trip
restored_by (some r) s b vs ns out = trip (Answer.refused r) vs ns out
restored_by none s b vs ns out =
    trip (Answer.accepted (pack_gives (size s))) (over (map value_or_zero s.values) vs) (over (tail s) ns) (over (take (size s) b) out)

abbrev pub restored_on : Verdict → List ℕ → List ℤ → List ℕ → List ℕ → Trip
restored_on (Verdict.refused r) b vs ns out = trip (Answer.refused r) vs ns out
restored_on (Verdict.accepted s) b vs ns out = restored_by (first (restore_checks s vs ns out)) s b vs ns out

unfoldable pub restored : FlagTable → List ℕ → List ℤ → List ℕ → List ℕ → Trip
restored marks b vs ns out = restored_on (judge marks b) b vs ns out

-- ---- unpack after pack

-- those of pack, then unpack's 13
abbrev pub recover_checks : FlagTable → List ℤ → ℕ → ℕ → List ℕ → List ℕ → List ℤ → List ℕ → List Check
recover_checks marks values word rptin ns out vs ts =
    pack_order marks (length out) values word rptin ns ++ (check (ltb (length vs) 46 || ltb (length ts) (length ns)) 13 0 ∷ [])

-- what pack accepts comes back, the values of missing fields as 0; a refused trip changes nothing
abbrev pub recovered_by : Option Refusal → List ℤ → ℕ → ℕ → List ℕ → List ℕ → List ℤ → List ℕ → Trip
recovered_by (some r) values word rptin ns out vs ts = trip (Answer.refused r) vs ts out
recovered_by none values word rptin ns out vs ts =
    let s = pack_observation values word rptin ns in
    trip
    (Answer.accepted (contents word (ones word) rptin (count_in ns) (size s) (length ns)))
    (over (masked 1 word (take 46 values)) vs)
    (over ns ts)
    (over (packing s) out)

unfoldable pub recovered : FlagTable → List ℤ → ℕ → ℕ → List ℕ → List ℕ → List ℤ → List ℕ → Trip
recovered marks values word rptin ns out vs ts =
    recovered_by (first (recover_checks marks values word rptin ns out vs ts)) values word rptin ns out vs ts

-- ---- for the code

-- an output holds the report that b begins with
abbrev pub Holds : FlagTable → List ℕ → List ℕ → Type 0
Holds marks out b = (s : Observation) → judge marks b ≡ Verdict.accepted s → size s ≤ length out
