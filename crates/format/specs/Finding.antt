-- FORMAT 7.10: the call that finds the indicators that have lost their data; and what holds of clear with indicators (FORMAT 6.1) beside
-- clear field, beside the clears for which it stands, and beside the finding call.
use Rattle.std.specs.Prelude.{ℕ, ◌≡◌, Bool, true, false, cond, ◌&&◌, List, [], ◌∷◌, map, length, take, ltb}
use Rattle.std.proofs.Math.Option.{none}
use Rattle.format.specs.Order.{Check, check, first}
use Rattle.format.specs.Field.{is_present}
use Rattle.format.specs.Nibbles.{among}
use Rattle.format.specs.Flags.{FlagTable}
use Rattle.format.specs.Observation.{Observation}
use Rattle.format.specs.Indicators.{Indicator, indicators, fields_where, data_of, resting_on}
use Rattle.format.specs.Report.{observation_of, Verdict, judge}
use Rattle.format.specs.Calls.{Call, edits, clear_field, value_at, stands, data_missing, clears_of, count, Given, counted, Answer, refused, accepted}
use Rattle.format.specs.Buffer.{effect, calls}
use Rattle.format.specs.Whole.{Wrote, wrote_by}

-- ---- the call

-- the indicators that are present and whose data are all missing
unfoldable pub lost_indicators : Observation → List ℕ
lost_indicators s = fields_where (λ (i : Indicator). is_present (value_at s i.field) && data_missing s i.basis) indicators

-- those that the call finds: none of them where attachment 5 stands
unfoldable pub found : Observation → List ℕ
found s = cond (stands 5 s.attachments) [] (lost_indicators s)

-- 13: an output shorter than what is written to it
unfoldable pub find_checks : Observation → List ℕ → List Check
find_checks s out = check (ltb (length out) (length (found s))) 13 0 ∷ []

-- the answer, which gives their number, and the output after the call
abbrev pub find_on : Verdict → List ℕ → Wrote
find_on (Verdict.refused r) out = record { answer = refused r; out = out }
find_on (Verdict.accepted s) out = wrote_by (first (find_checks s out)) (counted count (length (found s)) ∷ []) (found s) out

unfoldable pub find : FlagTable → List ℕ → List ℕ → Wrote
find marks b out = find_on (judge marks b) out

-- each of these numbers is above the one before it, and the first above low
unfoldable pub ascending_from : ℕ → List ℕ → Bool
ascending_from low [] = true
ascending_from low (x ∷ xs) = ltb low x && ascending_from x xs

-- what is written ascends
abbrev pub Ascends : Wrote → Type 0
Ascends w = (n : ℕ) → w.answer ≡ accepted (counted count n ∷ []) → ascending_from 0 (take n w.out) ≡ true

-- ---- clear k with its indicators

-- the clears for which it stands
abbrev pub clear_calls : List ℕ → ℕ → List Call
clear_calls b k = map (λ (i : ℕ). edits (clear_field i)) (clears_of (observation_of b) k)

-- one of these fields is present
abbrev pub SomePresent : Observation → List ℕ → Type 0
SomePresent s ks = (k : ℕ) × (among k ks ≡ true) × (is_present (value_at s k) ≡ true)

-- the values after clear k with its indicators, field by field. It is said by each field's own data, without the clears
pub record Clears (k : ℕ) (before after : Observation) : Type 0 where
  -- k is missing
  pub named : value_at after k ≡ none
  -- so is an indicator that rests on k, if of its data none is present afterwards
  pub taken : (i : ℕ) → among k (data_of i) ≡ true → (SomePresent after (data_of i) → ⊥) → value_at after i ≡ none
  -- every other field keeps its entry
  pub kept : (i : ℕ) → (i ≡ k → ⊥) → (among k (data_of i) ≡ true → SomePresent after (data_of i)) → value_at after i ≡ value_at before i

-- its answer and the buffer after it
pub record AsClears (marks : FlagTable) (b : List ℕ) (k : ℕ) (a : Answer) (b' : List ℕ) : Type 0 where
  -- it answers as clear k does, refused or not
  pub answers : a ≡ (effect marks b (edits (clear_field k))).answer
  -- it leaves what the clears leave, made one after the other
  pub leaves : b' ≡ (calls marks b (clear_calls b k)).state
  -- accepted, these are the values
  pub values : (gs : List Given) → a ≡ accepted gs → Clears k (observation_of b) (observation_of b')
  -- no indicator that rests on k is left present with its data all missing, whether or not attachment 5 stands
  pub none_left : (gs : List Given) → a ≡ accepted gs → (i : ℕ) → among i (resting_on k) ≡ true → among i (lost_indicators (observation_of b')) ≡ false
  -- and the finding call finds none, whatever output it is lent
  pub none_found : (gs : List Given) → a ≡ accepted gs → (i : ℕ) → among i (resting_on k) ≡ true
      → (out : List ℕ) (n : ℕ) → (find marks b' out).answer ≡ accepted (counted count n ∷ []) → among i (take n (find marks b' out).out) ≡ false
