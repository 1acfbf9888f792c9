-- What judging a report answers.
use Rattle.std.specs.Prelude.{ℕ, ◌+◌, ◌≤◌, ◌≡◌, Bool, true, false, cond, not, ◌&&◌, List, length, get_or, take, eqb, Result, Ok, Err}
use Rattle.std.proofs.Math.Option.{Option, none, some}
use Rattle.format.specs.Field.{table}
use Rattle.format.specs.Order as order
use Rattle.format.specs.Order.{first}
use Rattle.format.specs.Flags.{FlagTable}
use Rattle.format.specs.Nibbles.{Attachment, nibbles, odd, tail_nibbles, attachments_of}
use Rattle.format.specs.Observation.{Observation, checksum, size}
use Rattle.format.specs.Report.{codes_of, checksum_of, count_of, tail_of, field_checks, report_checks, Verdict, refused, accepted, judge}
use Rattle.format.specs.Bits.{Bytes}
use Rattle.format.specs.Reply.{refusal_of, by_number}
use Rattle.format.specs.declared.Refusal.{Refusal}
use Rattle.tail.specs.Walk.{held_at}
use Rattle.report.specs.declared.Report.{Report}

-- FORMAT 7.1, judge: the refusal's number and place, or the report's size in bytes
abbrev pub judged_of : Verdict → Result ℕ order.Refusal
judged_of (refused r) = Err r
judged_of (accepted s) = Ok (size s)

-- FORMAT 3.3: an accepted report's size, and both ends are reached
pub record Sizes (marks : FlagTable) (r : Result ℕ Refusal) : Type 0 where
  pub within : (n : ℕ) → r ≡ Ok n → (38 ≤ n) × (n ≤ 1853)
  pub least : (b : List ℕ) × Bytes b × (judged_of (judge marks b) ≡ Ok 38)
  pub most : (b : List ℕ) × Bytes b × (judged_of (judge marks b) ≡ Ok 1853)

-- two accepted reports of observations s and t: equal byte for byte and by their observations, or neither
abbrev pub both_compared : Result Bool Refusal → List ℕ → List ℕ → Observation → Observation → Type 0
both_compared (Err e) a b s t = ⊥
both_compared (Ok true) a b s t = (take (size s) a ≡ take (size t) b) × (s ≡ t)
both_compared (Ok false) a b s t = (take (size s) a ≡ take (size t) b → ⊥) × (s ≡ t → ⊥)

abbrev pub compared_by : Result Bool Refusal → List ℕ → List ℕ → Verdict → Verdict → Type 0
compared_by c a b (refused r) w = by_number c ≡ Err r
compared_by c a b (accepted s) (refused r) = by_number c ≡ Err r
compared_by c a b (accepted s) (accepted t) = both_compared c a b s t

-- FORMAT 7.1: the refusal of the first report that is refused, or whether they are the same
abbrev pub comparison : FlagTable → Result Bool Refusal → List ℕ → List ℕ → Type 0
comparison marks c a b = compared_by c a b (judge marks a) (judge marks b)

-- what an accepted report shows on the way: AC, its end in nibbles, and where id i stands
abbrev pub report_of : List ℕ → ℕ → List Attachment → Report
report_of b i list = record { count = count_of b; end = 75 + length (tail_nibbles list); held = held_at 75 i list }

abbrev pub inspected_by : Option order.Refusal → Report → Result Report order.Refusal
inspected_by (some r) report = Err r
inspected_by none report = Ok report

-- the first refusal that fits, or what the report shows
unfoldable pub inspected : FlagTable → List ℕ → ℕ → Result Report order.Refusal
inspected marks b i = inspected_by (first (report_checks marks b)) (report_of b i (attachments_of (count_of b) (tail_of b)))

-- what the last nibble decides of a report that has passed so far
abbrev pub last_of : List ℕ → Report → Result Report order.Refusal
last_of b r = cond (odd r.end && not (eqb (get_or (nibbles b) r.end 0) 0)) (Err (record { number = 7; place = 0 })) (Ok r)

-- the length, the fields and the checksum have passed
pub record FrontPasses (b : List ℕ) : Type 0 where
  pub long : 38 ≤ length b
  pub fields : first (field_checks 1 table (codes_of b)) ≡ none
  pub sum : checksum_of b ≡ checksum (codes_of b)

-- they have, or this is the report's first refusal, whatever flags are permitted
abbrev pub Front : List ℕ → Result Unit Refusal → Type 0
Front b (Err e) = (marks : FlagTable) → first (report_checks marks b) ≡ some (refusal_of e)
Front b (Ok u) = FrontPasses b
