-- FORMAT 7.2 to 7.4: fresh, unpack and pack.
use Rattle.std.specs.Prelude.{ℕ, zero, suc, ◌+◌, ◌/◌, ◌%◌, ◌^◌, Bool, cond, not, ◌&&◌, ◌||◌, List, [], ◌∷◌, ◌++◌, map, length, take, replicate, ltb, eqb, ℤ, pos}
use Rattle.std.proofs.Math.Option.{Option, none, some}
use Rattle.format.specs.Order.{Refusal, Check, check, first}
use Rattle.format.specs.Field.{Field, table, required, in_range, scaled, is_present, BOX10, YEAR, MONTH, X, Y}
use Rattle.format.specs.Nibbles.{attachments_of, tail_nibbles, behind}
use Rattle.format.specs.Flags.{FlagTable}
use Rattle.format.specs.Observation.{Observation, observation, packing, size}
use Rattle.format.specs.Report.{Verdict, judge, attachment_checks}
use Rattle.format.specs.Calls.{Quantity, Given, counted, Answer, refused, accepted, value_check, with_value, all_nibbles, over}
use Rattle.format.specs.declared.Scaled.{Scaled}

-- ---- fresh: the five required values, RPTIN 0, every other field missing

abbrev pub blank : Observation
blank = observation 0 (replicate 46 none) []

abbrev pub with : ℕ → Scaled → Observation → Observation
with k v s = with_value s k (some v)

unfoldable pub fresh_observation : Scaled → Scaled → Scaled → Scaled → Scaled → Observation
fresh_observation box10 year month x y = with Y y (with X x (with MONTH month (with YEAR year (with BOX10 box10 blank))))

-- 9, fields ascending; 13
unfoldable pub fresh_checks : ℕ → Scaled → Scaled → Scaled → Scaled → Scaled → List Check
fresh_checks n box10 year month x y =
    value_check BOX10 box10 ∷ value_check YEAR year ∷ value_check MONTH month ∷ value_check X x ∷ value_check Y y ∷ check (ltb n 38) 13 0 ∷ []

-- the answer, and the bytes of the output after the call
pub record Wrote : Type 0 where
  pub answer : Answer
  pub out : List ℕ

abbrev pub wrote_by : Option Refusal → List Given → List ℕ → List ℕ → Wrote
wrote_by (some r) gs xs out = record { answer = refused r; out = out }
wrote_by none gs xs out = record { answer = accepted gs; out = over xs out }

unfoldable pub fresh : Scaled → Scaled → Scaled → Scaled → Scaled → List ℕ → Wrote
fresh box10 year month x y out =
    wrote_by (first (fresh_checks (length out) box10 year month x y)) [] (packing (fresh_observation box10 year month x y)) out

-- ---- unpack

-- a value, 0 where it is missing
abbrev pub value_or_zero : Option Scaled → ℤ
value_or_zero none = pos 0
value_or_zero (some v) = v.0

-- the presence word of the entries from field k on: 2 ^ k for each that is present
unfoldable pub presence_from : ℕ → List (Option Scaled) → ℕ
presence_from k [] = 0
presence_from k (e ∷ es) = cond (is_present e) (2 ^ k) 0 + presence_from (suc k) es

abbrev pub presence : Observation → ℕ
presence s = presence_from 1 s.values

-- how many of these entries are present
unfoldable pub count_present : List (Option Scaled) → ℕ
count_present [] = 0
count_present (e ∷ es) = cond (is_present e) 1 0 + count_present es

-- the nibbles of all attachments, without the padding nibble
abbrev pub tail : Observation → List ℕ
tail s = tail_nibbles s.attachments

-- the answer, and the two outputs after the call
pub record Unpacked : Type 0 where
  pub answer : Answer
  pub values : List ℤ
  pub tail : List ℕ

abbrev pub unpacked : Answer → List ℤ → List ℕ → Unpacked
unpacked a vs ns = record { answer = a; values = vs; tail = ns }

-- the six numbers of unpack
abbrev pub contents : ℕ → ℕ → ℕ → ℕ → ℕ → ℕ → List Given
contents word present rptin attachments bytes nibbles =
    counted Quantity.word word
    ∷ counted Quantity.present present
    ∷ counted Quantity.rptin rptin
    ∷ counted Quantity.attachments attachments
    ∷ counted Quantity.bytes bytes
    ∷ counted Quantity.nibbles nibbles
    ∷ []

unfoldable pub unpack_gives : Observation → List Given
unpack_gives s = contents (presence s) (count_present s.values) s.rptin (length s.attachments) (size s) (length (tail s))

-- 13: room for under 46 values, or a shorter output than the tail
abbrev pub unpack_checks : Observation → List ℤ → List ℕ → List Check
unpack_checks s values tail_out = check (ltb (length values) 46 || ltb (length tail_out) (length (tail s))) 13 0 ∷ []

abbrev pub unpacked_by : Option Refusal → Observation → List ℤ → List ℕ → Unpacked
unpacked_by (some r) s values tail_out = unpacked (refused r) values tail_out
unpacked_by none s values tail_out =
    unpacked (accepted (unpack_gives s)) (over (map value_or_zero s.values) values) (over (tail s) tail_out)

abbrev pub unpack_on : Verdict → List ℤ → List ℕ → Unpacked
unpack_on (Verdict.refused r) values tail_out = unpacked (refused r) values tail_out
unpack_on (Verdict.accepted s) values tail_out = unpacked_by (first (unpack_checks s values tail_out)) s values tail_out

unfoldable pub unpack : FlagTable → List ℕ → List ℤ → List ℕ → Unpacked
unpack marks b values tail_out = unpack_on (judge marks b) values tail_out

-- ---- pack

-- bit k of a word
abbrev pub bit_at : ℕ → ℕ → Bool
bit_at word k = eqb (word / 2 ^ k % 2) 1

-- a bit of the word that is none of 1 to 46
abbrev pub bit_outside : ℕ → Bool
bit_outside word = bit_at word 0 || not (eqb (word / 2 ^ 47) 0)

-- fields ascending from k: 10, 9
unfoldable pub pack_checks : ℕ → List Field → ℕ → List ℤ → List Check
pack_checks k [] word vs = []
pack_checks k (f ∷ fs) word [] = []
pack_checks k (f ∷ fs) word (v ∷ vs) =
    check (required k && not (bit_at word k)) 10 k
    ∷ check (bit_at word k && not (in_range f (scaled v))) 9 k
    ∷ pack_checks (suc k) fs word vs

-- the entries from field k on; the values of fields that the word calls missing are not looked at
unfoldable pub entries_given : ℕ → ℕ → List ℤ → List (Option Scaled)
entries_given k word [] = []
entries_given k word (v ∷ vs) = cond (bit_at word k) (some (scaled v)) none ∷ entries_given (suc k) word vs

-- AC, counted from a tail: attachment after attachment to the tail's end, m at most. One or two nibbles left over count as one,
-- whose header does not fit
unfoldable pub count_from : ℕ → List ℕ → ℕ
count_from zero ns = 0
count_from (suc m) [] = 0
count_from (suc m) (n ∷ ns) = 1 + count_from m (behind (n ∷ ns))

abbrev pub count_in : List ℕ → ℕ
count_in ns = count_from (length ns) ns

unfoldable pub pack_observation : List ℤ → ℕ → ℕ → List ℕ → Observation
pack_observation values word rptin ns = observation rptin (entries_given 1 word (take 46 values)) (attachments_of (count_in ns) ns)

-- the order of FORMAT 7.4
unfoldable pub pack_order : FlagTable → ℕ → List ℤ → ℕ → ℕ → List ℕ → List Check
pack_order marks n values word rptin ns =
    check (ltb (length values) 46) 13 0
    ∷ check (bit_outside word) 8 0
    ∷ (pack_checks 1 table word values
    ++ (check (not (all_nibbles ns)) 14 0
    ∷ (attachment_checks marks (count_in ns) 1 [] ns
    ++ (check (ltb n (size (pack_observation values word rptin ns))) 13 0 ∷ []))))

-- the report's size in bytes
abbrev pub pack_gives : ℕ → List Given
pack_gives size = counted Quantity.bytes size ∷ []

-- a refused call leaves the output
unfoldable pub pack : FlagTable → List ℤ → ℕ → ℕ → List ℕ → List ℕ → Wrote
pack marks values word rptin ns out =
    let s = pack_observation values word rptin ns in
    wrote_by (first (pack_order marks (length out) values word rptin ns)) (pack_gives (size s)) (packing s) out

-- ---- what comes back of values that were packed

-- the values of the fields from k on, 0 where the word says that the field is missing
unfoldable pub masked : ℕ → ℕ → List ℤ → List ℤ
masked k word [] = []
masked k word (v ∷ vs) = cond (bit_at word k) v (pos 0) ∷ masked (suc k) word vs
