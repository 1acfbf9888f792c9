-- FORMAT 6.1 and 6.3: the calls, their refusals 8 to 14, and the steps of the plain machine. It sees no byte of a buffer.
use Rattle.std.specs.Prelude.{ℕ, ◌-◌, Bool, true, false, cond, not, ◌&&◌, ◌||◌, List, [], ◌∷◌, ◌++◌, map, length, get_or, drop, set, ltb, leb, eqb, ℤ, pos}
use Rattle.std.proofs.Math.Option.{Option, none, some}
use Rattle.format.specs.Order.{Refusal, Check, check, first, between, all_marks}
use Rattle.format.specs.Field.{field_at, is_field, required, in_range, is_present}
use Rattle.format.specs.Nibbles.{Attachment, attachment}
use Rattle.format.specs.Flags.{is_flag, FlagTable, flag_in_range, flag_at, with_flag}
use Rattle.format.specs.ShipText.{Symbol, byte_of, origin_of, symbols_in, all_admitted, write_text, nibble_count, read_text, deck_set, set_number}
use Rattle.format.specs.Observation.{Observation, observation, size}
use Rattle.format.specs.Report.{body_valid}
use Rattle.format.specs.Indicators.{Indicator, indicators, fields_where, rests_on}
use Rattle.format.specs.declared.Scaled.{Scaled}

-- the calls, each with all that it is lent, in three groups

-- those that read: read k; read flag j
pub data Reading : Type 0 where
  read_field : ℕ → Reading
  read_flag : ℕ → Reading

-- those that edit: set k to v; clear k; clear k with its indicators; set, clear flag j; put id, content; drop id; put text with a mark of
-- origin for each symbol
pub data Editing : Type 0 where
  set_field : ℕ → Scaled → Editing
  clear_field : ℕ → Editing
  clear_with_indicators : ℕ → Editing
  set_flag : ℕ → ℕ → Editing
  clear_flag : ℕ → Editing
  put : ℕ → List ℕ → Editing
  remove : ℕ → Editing
  put_text : List ℕ → List ℕ → Editing

-- those that fetch, to an output: fetch id; fetch text, with a second output for the marks of origin
pub data Fetching : Type 0 where
  fetch : ℕ → List ℕ → Fetching
  fetch_text : List ℕ → List ℕ → Fetching

pub data Call : Type 0 where
  reads : Reading → Call
  edits : Editing → Call
  fetches : Fetching → Call

-- ---- the observation's parts

abbrev pub value_at : Observation → ℕ → Option Scaled
value_at s k = get_or s.values (k - 1) none

abbrev pub with_value : Observation → ℕ → Option Scaled → Observation
with_value s k e = observation s.rptin (set s.values (k - 1) e) s.attachments

abbrev pub with_attachments : Observation → List Attachment → Observation
with_attachments s list = observation s.rptin s.values list

unfoldable pub stands : ℕ → List Attachment → Bool
stands i [] = false
stands i (a ∷ more) = eqb a.id i || stands i more

-- the nibbles of id i, where it stands
unfoldable pub content_of : ℕ → List Attachment → List ℕ
content_of i [] = []
content_of i (a ∷ more) = cond (eqb a.id i) a.content (content_of i more)

-- the content of id i takes the place of the one that stands; where none does, it goes to the end
unfoldable pub put_in : ℕ → List ℕ → List Attachment → List Attachment
put_in i ns [] = attachment i ns ∷ []
put_in i ns (a ∷ more) = cond (eqb a.id i) (attachment i ns ∷ more) (a ∷ put_in i ns more)

-- the list without id i, the others in their order
unfoldable pub remove_from : ℕ → List Attachment → List Attachment
remove_from i [] = []
remove_from i (a ∷ more) = cond (eqb a.id i) more (a ∷ remove_from i more)

abbrev pub with_content : Observation → ℕ → List ℕ → Observation
with_content s i ns = with_attachments s (put_in i ns s.attachments)

abbrev pub content : Observation → ℕ → List ℕ
content s i = content_of i s.attachments

-- the symbols of the ship text, where id 4 stands
abbrev pub ship_text : Observation → List Symbol
ship_text s = read_text (content s 4)

-- ---- a step that is not refused

-- field k cleared
abbrev pub cleared : Observation → ℕ → Observation
cleared s k = with_value s k none

-- these fields cleared, one after the other
unfoldable pub clear_each : Observation → List ℕ → Observation
clear_each s [] = s
clear_each s (k ∷ ks) = clear_each (cleared s k) ks

-- all of these fields are missing
unfoldable pub data_missing : Observation → List ℕ → Bool
data_missing s [] = true
data_missing s (k ∷ ks) = not (is_present (value_at s k)) && data_missing s ks

-- the indicators that rest on field k and whose data are all missing, whether or not they are present
unfoldable pub lost_on : Observation → ℕ → List ℕ
lost_on s k = fields_where (λ (i : Indicator). rests_on i k && data_missing s i.basis) indicators

-- the clears for which clear k with its indicators stands, in their order: k, and each indicator that rests on it and has then lost its
-- data
unfoldable pub clears_of : Observation → ℕ → List ℕ
clears_of s k = k ∷ lost_on (cleared s k) k

-- the observation that an edit makes
unfoldable pub made : Observation → Editing → Observation
made s (set_field k v) = with_value s k (some v)
made s (clear_field k) = cleared s k
made s (clear_with_indicators k) = clear_each s (clears_of s k)
made s (set_flag j v) = with_content s 1 (with_flag (content s 1) j v)
made s (clear_flag j) = with_content s 1 (with_flag (content s 1) j 0)
made s (put i ns) = with_content s i ns
made s (remove i) = with_attachments s (remove_from i s.attachments)
made s (put_text t os) = with_content s 4 (write_text (symbols_in t os))

-- a call that reads or fetches makes none
abbrev pub edited : Observation → Call → Option Observation
edited s (reads r) = none
edited s (edits e) = some (made s e)
edited s (fetches f) = none

-- the observation after it
abbrev pub after_edit : Observation → Option Observation → Observation
after_edit s none = s
after_edit s (some t) = t

abbrev pub next : Observation → Call → Observation
next s c = after_edit s (edited s c)

-- FORMAT 8.2: what a number that is given is
pub data Quantity : Type 0 where
  value : Quantity  -- a field's scaled value
  flag : Quantity  -- a flag's value
  count : Quantity  -- how many bytes a fetch wrote to each output, or the finding call to its own
  word : Quantity  -- the presence word
  present : Quantity  -- how many fields are present
  rptin : Quantity  -- RPTIN
  attachments : Quantity  -- AC
  bytes : Quantity  -- a report's size in bytes
  nibbles : Quantity  -- so many nibbles: the length of unpack's tail, or of a ship text's content
  deck : Quantity  -- the deck's set: 0 unknown, 1 EBCDIC, 2 ASCII

-- a number that is given, or that it is missing
pub record Given : Type 0 where
  pub quantity : Quantity
  pub number : Option ℤ

abbrev pub given : Quantity → Option ℤ → Given
given q n = record { quantity = q; number = n }

-- one that is not missing, and not negative
abbrev pub counted : Quantity → ℕ → Given
counted q n = given q (some (pos n))

abbrev pub value_number : Option Scaled → Option ℤ
value_number none = none
value_number (some v) = some v.0

-- flag 0 is missing
abbrev pub flag_number : ℕ → Option ℤ
flag_number v = cond (eqb v 0) none (some (pos v))

-- what is given of a field's entry, and of a flag
abbrev pub value_given : Option Scaled → Given
value_given e = given value (value_number e)

abbrev pub flag_given : ℕ → Given
flag_given v = given flag (flag_number v)

-- what a read gives: what stands in the observation
unfoldable pub read_gives : Observation → Reading → Given
read_gives s (read_field k) = value_given (value_at s k)
read_gives s (read_flag j) = flag_given (flag_at (content s 1) j)

-- what a step gives. Set and clear give the former value: what stood in the observation before the step, as the read of that field
-- or flag gives it. Clear with indicators gives that of k alone
unfoldable pub gives : Observation → Call → List Given
gives s (reads r) = read_gives s r ∷ []
gives s (edits (set_field k v)) = read_gives s (read_field k) ∷ []
gives s (edits (clear_field k)) = read_gives s (read_field k) ∷ []
gives s (edits (clear_with_indicators k)) = read_gives s (read_field k) ∷ []
gives s (edits (set_flag j v)) = read_gives s (read_flag j) ∷ []
gives s (edits (clear_flag j)) = read_gives s (read_flag j) ∷ []
gives s (edits (put i ns)) = []
gives s (edits (remove i)) = []
gives s (edits (put_text t os)) = counted nibbles (nibble_count (symbols_in t os)) ∷ []
gives s (fetches (fetch i out)) = counted count (length (content s i)) ∷ []
gives s (fetches (fetch_text out origins)) =
    counted count (length (ship_text s)) ∷ counted deck (set_number (deck_set (value_at s 10))) ∷ counted nibbles (nibble_count (ship_text s)) ∷ []

-- the outputs that a call is lent, refused or not
unfoldable pub outputs_of : Call → List (List ℕ)
outputs_of (reads r) = []
outputs_of (edits e) = []
outputs_of (fetches (fetch i out)) = out ∷ []
outputs_of (fetches (fetch_text out origins)) = out ∷ origins ∷ []

-- what a step that is not refused writes to each of them, from the first byte on
unfoldable pub writes : Observation → Call → List (List ℕ)
writes s (reads r) = []
writes s (edits e) = []
writes s (fetches (fetch i out)) = content s i ∷ []
writes s (fetches (fetch_text out origins)) = map byte_of (ship_text s) ∷ map origin_of (ship_text s) ∷ []

-- ---- the refusals 8 to 14, by the table of permitted flags, the observation, the buffer's length n and the call

-- 8: no such number of a field, a flag or an id
abbrev pub field_number_check : ℕ → Check
field_number_check k = check (not (is_field k)) 8 0

abbrev pub flag_number_check : ℕ → Check
flag_number_check j = check (not (is_flag j)) 8 0

abbrev pub id_check : ℕ → Check
id_check i = check (not (between 1 15 i)) 8 0

-- 9: value out of range, of a flag also one that the table does not permit
abbrev pub value_check : ℕ → Scaled → Check
value_check k v = check (not (in_range (field_at k) v)) 9 k

abbrev pub flag_value_check : FlagTable → ℕ → ℕ → Check
flag_value_check marks j v = check (not (flag_in_range marks j v)) 9 j

-- 10: required field cleared
abbrev pub required_check : ℕ → Check
required_check k = check (required k) 10 k

-- 11: the id does not stand
abbrev pub stands_check : Observation → ℕ → Check
stands_check s i = check (not (stands i s.attachments)) 11 0

-- 12: too few nibbles or too many
abbrev pub length_check : List ℕ → Check
length_check ns = check (not (between 1 255 (length ns))) 12 0

unfoldable pub all_nibbles : List ℕ → Bool
all_nibbles [] = true
all_nibbles (x ∷ xs) = leb x 15 && all_nibbles xs

-- 14: a byte that is no nibble, or a content that is not valid
abbrev pub content_check : FlagTable → ℕ → List ℕ → Check
content_check marks i ns = check (not (all_nibbles ns && body_valid marks i ns)) 14 0

-- 13: no room for the report that an edit makes, or in an output for what is written to it
abbrev pub shorter : ℕ → Option Observation → Bool
shorter n none = false
shorter n (some t) = ltb n (size t)

unfoldable pub overfull : List (List ℕ) → List (List ℕ) → Bool
overfull [] outs = false
overfull (xs ∷ more) [] = true
overfull (xs ∷ more) (out ∷ outs) = ltb (length out) (length xs) || overfull more outs

abbrev pub room_check : ℕ → Observation → Call → Check
room_check n s c = check (shorter n (edited s c) || overfull (writes s c) (outputs_of c)) 13 0

-- put text, before 12. 13: not one mark for each symbol; 14: a mark over 1, or a symbol that no text may hold
abbrev pub paired_check : List ℕ → List ℕ → Check
paired_check t os = check (not (eqb (length t) (length os))) 13 0

abbrev pub symbols_check : List ℕ → List ℕ → Check
symbols_check t os = check (not (all_marks os && all_admitted (symbols_in t os))) 14 0

-- clearing a field, with or without its indicators: 8, 10
abbrev pub clear_checks : ℕ → List Check
clear_checks k = field_number_check k ∷ required_check k ∷ []

-- a call's checks before the last one, which is 13 for room: as far as it has them 8, 9, 10, 11, 12, 14, in this order; put text has
-- 13 and 14 of its own before 12. FORMAT 6.1 leaves out what never applies: the second 14 of put text, and 13 of a call that
-- lengthens no report and has no output
unfoldable pub call_checks : FlagTable → Observation → Call → List Check
call_checks marks s (reads (read_field k)) = field_number_check k ∷ []
call_checks marks s (reads (read_flag j)) = flag_number_check j ∷ stands_check s 1 ∷ []
call_checks marks s (edits (set_field k v)) = field_number_check k ∷ value_check k v ∷ []
call_checks marks s (edits (clear_field k)) = clear_checks k
call_checks marks s (edits (clear_with_indicators k)) = clear_checks k
call_checks marks s (edits (set_flag j v)) = flag_number_check j ∷ flag_value_check marks j v ∷ stands_check s 1 ∷ []
call_checks marks s (edits (clear_flag j)) = flag_number_check j ∷ stands_check s 1 ∷ []
call_checks marks s (edits (put i ns)) = id_check i ∷ length_check ns ∷ content_check marks i ns ∷ []
call_checks marks s (edits (remove i)) = id_check i ∷ stands_check s i ∷ []
call_checks marks s (edits (put_text t os)) =
    let ns = write_text (symbols_in t os) in
    paired_check t os ∷ symbols_check t os ∷ length_check ns ∷ content_check marks 4 ns ∷ []
call_checks marks s (fetches (fetch i out)) = id_check i ∷ stands_check s i ∷ []
call_checks marks s (fetches (fetch_text out origins)) = stands_check s 4 ∷ []

unfoldable pub checks : FlagTable → ℕ → Observation → Call → List Check
checks marks n s c = call_checks marks s c ++ (room_check n s c ∷ [])

-- ---- a step under a table, on a buffer of n bytes

-- what is given, or the refusal
pub data Answer : Type 0 where
  refused : Refusal → Answer
  accepted : List Given → Answer

-- the answer of a call that gives nothing
abbrev pub done_by : Option Refusal → Answer
done_by (some r) = refused r
done_by none = accepted []

-- the answer, and what the step leaves: the observation and the outputs
pub record Stepped : Type 0 where
  pub answer : Answer
  pub observation : Observation
  pub outs : List (List ℕ)

-- the bytes of an output after these were written to its front; and of each output
abbrev pub over : {A : Type 0} → List A → List A → List A
over xs out = xs ++ drop (length xs) out

unfoldable pub over_each : List (List ℕ) → List (List ℕ) → List (List ℕ)
over_each [] outs = outs
over_each (xs ∷ more) [] = []
over_each (xs ∷ more) (out ∷ outs) = over xs out ∷ over_each more outs

abbrev pub stepped_by : Option Refusal → Observation → Call → Stepped
stepped_by (some r) s c = record { answer = refused r; observation = s; outs = outputs_of c }
stepped_by none s c = record { answer = accepted (gives s c); observation = next s c; outs = over_each (writes s c) (outputs_of c) }

unfoldable pub step : FlagTable → ℕ → Observation → Call → Stepped
step marks n s c = stepped_by (first (checks marks n s c)) s c
