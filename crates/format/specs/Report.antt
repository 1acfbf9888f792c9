-- FORMAT 4.2 and 5.2: a report's observation, and the refusals 1 to 7. A buffer holds its report from its first byte on.
use Rattle.std.specs.Prelude.{ℕ, zero, suc, ◌+◌, Bool, true, cond, not, ◌&&◌, ◌||◌, List, [], ◌∷◌, ◌++◌, length, get_or, take, drop, ltb, eqb}
use Rattle.std.proofs.Math.Option.{Option, none, some}
use Rattle.format.specs.Order.{Refusal, Check, check, first}
use Rattle.format.specs.Field.{Field, table, required, entries}
use Rattle.format.specs.Bits.{bits_of, read_fields}
use Rattle.format.specs.Nibbles.{nibbles, odd, attachments_of, tail_nibbles, length_at, id_at, content_at, behind, among}
use Rattle.format.specs.Flags.{FlagTable, flags_valid}
use Rattle.format.specs.ShipText.{text_valid}
use Rattle.format.specs.Observation.{Observation, observation, widths, checksum}

-- ---- what the bytes show

abbrev pub numbers_of : List ℕ → List ℕ
numbers_of b = read_fields widths (bits_of b)

abbrev pub rptin_of : List ℕ → ℕ
rptin_of b = get_or (numbers_of b) 0 0

abbrev pub codes_of : List ℕ → List ℕ
codes_of b = take 46 (drop 1 (numbers_of b))

abbrev pub checksum_of : List ℕ → ℕ
checksum_of b = get_or (numbers_of b) 47 0

abbrev pub count_of : List ℕ → ℕ
count_of b = get_or (numbers_of b) 48 0

-- the nibbles behind the card, to the buffer's end
abbrev pub tail_of : List ℕ → List ℕ
tail_of b = drop 75 (nibbles b)

-- the observation that the bytes hold, accepted or not
unfoldable pub observation_of : List ℕ → Observation
observation_of b = observation (rptin_of b) (entries table (codes_of b)) (attachments_of (count_of b) (tail_of b))

-- ---- the checks, in their order, under a table of permitted flags

-- fields ascending from k: 2, 3
unfoldable pub field_checks : ℕ → List Field → List ℕ → List Check
field_checks k [] cs = []
field_checks k (f ∷ fs) [] = []
field_checks k (f ∷ fs) (c ∷ cs) =
    check (ltb f.highest c) 2 k ∷ check (required k && eqb c 0) 3 k ∷ field_checks (suc k) fs cs

-- FORMAT 3.4 to 3.6: a valid content of id i
unfoldable pub body_valid : FlagTable → ℕ → List ℕ → Bool
body_valid marks i ns = cond (eqb i 1) (flags_valid marks ns) (cond (eqb i 4) (text_valid ns) true)

-- n attachments from position i on, after the ids seen: 1 for the header, 5, 1 for the content, 6
unfoldable pub attachment_checks : FlagTable → ℕ → ℕ → List ℕ → List ℕ → List Check
attachment_checks marks zero i seen ns = []
attachment_checks marks (suc n) i seen ns =
    check (ltb (length ns) 3) 1 i
    ∷ check (eqb (length_at ns) 0 || (eqb (id_at ns) 0 || among (id_at ns) seen)) 5 i
    ∷ check (ltb (length (drop 3 ns)) (length_at ns)) 1 i
    ∷ check (not (body_valid marks (id_at ns) (content_at ns))) 6 i
    ∷ attachment_checks marks n (suc i) (id_at ns ∷ seen) (behind ns)

-- the number of nibbles behind the card that the attachments take
abbrev pub tail_length : List ℕ → ℕ
tail_length b = length (tail_nibbles (attachments_of (count_of b) (tail_of b)))

-- the five steps of FORMAT 5.2
unfoldable pub report_checks : FlagTable → List ℕ → List Check
report_checks marks b =
    check (ltb (length b) 38) 1 0
    ∷ (field_checks 1 table (codes_of b)
    ++ (check (not (eqb (checksum_of b) (checksum (codes_of b)))) 4 0
    ∷ (attachment_checks marks (count_of b) 1 [] (tail_of b)
    ++ (check (odd (75 + tail_length b) && not (eqb (get_or (tail_of b) (tail_length b) 0) 0)) 7 0 ∷ []))))

-- ---- the verdict

pub data Verdict : Type 0 where
  refused : Refusal → Verdict
  accepted : Observation → Verdict

abbrev pub verdict : Option Refusal → Observation → Verdict
verdict none s = accepted s
verdict (some r) s = refused r

-- the first check that fits refuses the report; where none does, it is accepted
unfoldable pub judge : FlagTable → List ℕ → Verdict
judge marks b = verdict (first (report_checks marks b)) (observation_of b)
