-- Eight lists of examples, each checked by one computed fact. The first has the figures of FORMAT 12. The second has cases in
-- which two refusals fit at once, for the orders of FORMAT 5 to 7, zeroed bytes, unpack and pack, and edges of FORMAT 2 to 9.
-- The third has the table of the characters, the fourth tables of permitted flags, the fifth plain and original symbols, the sixth
-- what texts take, the seventh former values, the eighth indicators that have lost their data.
-- Assumes nothing.
use Prim.Native.Nat.{ℕ, zero, suc, ◌+◌, ◌-◌, ◌/◌, ◌%◌, ◌^◌}
use mathlib.Core.Bool.{cond}
use mathlib.Core.List.{List, [], ◌∷◌, ◌++◌, map}
use mathlib.Core.Option.{Option, none, some}
use lib.ListN.{length, get_or, take, drop, set, replicate}
use lib.Dec.{T}
use lib.IntN.{ℤ, pos, negsuc}
use Rattle.format.specs.Order.{Refusal, Check, first, all_marks}
use Rattle.format.specs.Field.{Field, minus, table, field_at, required, scaled, coded, scaled_of, coded_of, in_range, entry_of, is_present, code_of, entries, codes}
use Rattle.format.specs.Bits.{bits, number, bits_of, bit_field, total, offset, read_fields, write_fields}
use Rattle.format.specs.Nibbles.{attachment, nibbles, bytes, padded, attachment_nibbles, tail_nibbles, attachments_of, among}
use Rattle.format.specs.Flags.{FlagTable, mark_of, weights, weight, total_weight, all_missing, quality_code, all_yes, flags_fit, flag_body, with_flag, flags_valid}
use Rattle.format.specs.ShipText.{char_code, short, pair_byte, code_nibbles, up_from, entry, char_table, Symbol, plain, original, byte_of, origin_of, symbol_of, symbols_in, admitted, all_admitted}
use Rattle.format.specs.ShipText.{is_space, symbol_nibbles, fulls, rest, space_run, write_from, write_text}
use Rattle.format.specs.ShipText.{nibble_count, ends_in_space, spaces, text_step, state_after, symbols_of, read_from, end_from, at_end, text_valid, read_text}
use Rattle.format.specs.ShipText.{set_of_source, set_of_number, deck_set, set_number}
use Rattle.format.specs.Observation.{Observation, observation, widths, checksum, card_numbers, card_nibbles, packing}
use Rattle.format.specs.Report.{observation_of, codes_of, checksum_of, field_checks, body_valid, attachment_checks, report_checks, Verdict, refused, accepted, judge}
use Rattle.format.specs.Calls.{Call, Reading, Editing, reads, edits, fetches, read_field, read_flag, fetch, fetch_text}
use Rattle.format.specs.Calls.{set_field, clear_field, clear_with_indicators, set_flag, clear_flag, put, remove, put_text, with_value, data_missing, lost_on, clears_of, clear_each}
use Rattle.format.specs.Calls.{stands, content_of, put_in, remove_from, with_attachments, made, Quantity, Given, read_gives, gives, outputs_of, writes, overfull, over_each}
use Rattle.format.specs.Calls.{all_nibbles, symbols_check, call_checks, checks, Answer, step}
use Rattle.format.specs.Machine.{course}
use Rattle.format.specs.Buffer.{layout, effect, as_read, Shown, calls, run, claim}
use Rattle.format.specs.Whole.{fresh_observation, fresh_checks, Wrote, fresh, presence_from, count_present, Unpacked, unpack_gives, unpack, pack_checks, entries_given}
use Rattle.format.specs.Whole.{count_from, pack_observation, pack_order, pack}
use Rattle.format.specs.Loading.{rows, table_of, some_yes, every_row, load_checks, load_answer, in_force}
use Rattle.format.specs.Display.{opening_refusal, displayed, handed}
use Rattle.format.specs.Costliest.{costliest_checks, costliest_refusal}
use Rattle.format.specs.Indicators.{indicators, fields_where, basis_in, data_of, resting_on}
use Rattle.format.specs.Finding.{lost_indicators, found, find_checks, find, ascending_from, clear_calls}
use Rattle.format.specs.Lister.{digits_from, field_lines, listing}
use Rattle.format.specs.declared.Scaled.{Scaled}
use Rattle.format.proofs.Test.{Example, same, every}

-- ---- observations, verdicts and answers as numbers, so that one test compares all

signed : ℤ → List ℕ
signed (pos n) = 0 ∷ n ∷ []
signed (negsuc n) = 1 ∷ n ∷ []

optional : Option ℤ → List ℕ
optional none = 0 ∷ []
optional (some z) = 1 ∷ signed z

given : List Given → List ℕ
given [] = []
given (g ∷ more) = optional g.number ++ given more

-- what the numbers of an answer are, in the order of `Quantity`
quantity_number : Quantity → ℕ
quantity_number Quantity.value = 1
quantity_number Quantity.flag = 2
quantity_number Quantity.count = 3
quantity_number Quantity.word = 4
quantity_number Quantity.present = 5
quantity_number Quantity.rptin = 6
quantity_number Quantity.attachments = 7
quantity_number Quantity.bytes = 8
quantity_number Quantity.nibbles = 9
quantity_number Quantity.deck = 10

quantities : Answer → List ℕ
quantities (Answer.refused r) = []
quantities (Answer.accepted gs) = map (λ (g : Given). quantity_number g.quantity) gs

value_numbers : List (Option Scaled) → List ℕ
value_numbers [] = []
value_numbers (none ∷ more) = 0 ∷ value_numbers more
value_numbers (some v ∷ more) = 1 ∷ (signed v.0 ++ value_numbers more)

observation_numbers : Observation → List ℕ
observation_numbers s = s.rptin ∷ (value_numbers s.values ++ tail_nibbles s.attachments)

refusal : Refusal → List ℕ
refusal r = 0 ∷ r.number ∷ r.place ∷ []

judged : Verdict → List ℕ
judged (refused r) = refusal r
judged (accepted s) = 1 ∷ observation_numbers s

answer : Answer → List ℕ
answer (Answer.refused r) = refusal r
answer (Answer.accepted g) = 1 ∷ given g

joined : List (List ℕ) → List ℕ
joined [] = []
joined (out ∷ more) = out ++ joined more

answers : List Shown → List ℕ
answers [] = []
answers (a ∷ more) = answer a.answer ++ (joined a.outs ++ answers more)

yes : List ℕ
yes = 1 ∷ []

refuses : ℕ → ℕ → List ℕ
refuses n p = 0 ∷ n ∷ p ∷ []

example : List ℕ → List ℕ → Example
example got want = record { got = got; want = want }

-- ---- the reports of FORMAT 12

-- a fresh report of BOX10 1, YEAR 1900, MONTH 1, X 0, Y 0
fresh_example : List ℕ → Wrote
fresh_example out = fresh (scaled (pos 1)) (scaled (pos 1900)) (scaled (pos 1)) (scaled (pos 0)) (scaled (pos 0)) out

fresh_bytes : List ℕ
fresh_bytes =
    0x00 ∷ 0x00 ∷ 0x00 ∷ 0x59 ∷ 0x44 ∷ 0x00 ∷ 0x00 ∷ 0x17 ∷ 0x0A ∷ (replicate 27 0 ++ (0xF0 ∷ 0x00 ∷ []))

fresh_observation_example : Observation
fresh_observation_example = fresh_observation (scaled (pos 1)) (scaled (pos 1900)) (scaled (pos 1)) (scaled (pos 0)) (scaled (pos 0))

-- S set to 286 in it
s_bytes : List ℕ
s_bytes = (effect all_yes fresh_bytes (edits (set_field 31 (scaled (pos 286))))).buffer

-- and the text A1 put, in a buffer with four bytes more
text_bytes : List ℕ
text_bytes = (effect all_yes (s_bytes ++ (7 ∷ 7 ∷ 7 ∷ 7 ∷ [])) (edits (put_text (65 ∷ 49 ∷ []) (0 ∷ 0 ∷ [])))).buffer

-- a report of these coded fields, this checksum, this count and this tail
report_with : List ℕ → ℕ → ℕ → List ℕ → List ℕ
report_with cs ck ac ns = bytes (padded (read_fields (replicate 75 4) (write_fields widths (0 ∷ (cs ++ (ck ∷ ac ∷ [])))) ++ ns))

-- with the checksum that the fields have
report_of : List ℕ → ℕ → List ℕ → List ℕ
report_of cs ac ns = report_with cs (checksum cs) ac ns

highest_codes : List ℕ
highest_codes = map (λ (f : Field). f.highest) table

fresh_codes : List ℕ
fresh_codes = codes_of fresh_bytes

-- attachment 4 with the nibbles 10 10 10 1
bad_text : List ℕ
bad_text = 10 ∷ 10 ∷ 10 ∷ 1 ∷ []

flagless : List ℕ
flagless = replicate 16 0

put1 : Call
put1 = edits (put 1 flagless)

-- the flags of the fresh report: flag 1 set to R, 1, and flag 6 to L, 6
flag_calls : List Call
flag_calls = put1 ∷ edits (set_flag 1 1) ∷ edits (set_flag 6 6) ∷ fetches (fetch 1 (replicate 17 9)) ∷ []

answers_of : List ℕ → List Call → List ℕ
answers_of b cs = answers (claim all_yes b cs).answers

-- a buffer of 60 bytes that begins with the fresh report
roomy : List ℕ
roomy = fresh_bytes ++ replicate 22 5

wide : List ℕ
wide = fresh_bytes ++ replicate 140 5

-- a text of plain symbols; symbols as numbers, first their bytes and then their marks of origin
plainly : List ℕ → List Symbol
plainly t = map plain t

symbol_numbers : List Symbol → List ℕ
symbol_numbers xs = map byte_of xs ++ map origin_of xs

-- put text of plain symbols alone
put_plain : List ℕ → Call
put_plain t = edits (put_text t (replicate (length t) 0))

-- ---- the figures of FORMAT 12, and the lister's lines

pub examples : List Example
examples =
    -- fresh: the bytes, no others, and back
    example (fresh_example (replicate 40 7)).out (fresh_bytes ++ (7 ∷ 7 ∷ []))
    ∷ example (answer (fresh_example (replicate 38 7)).answer) yes
    ∷ example (judged (judge all_yes fresh_bytes)) (judged (accepted fresh_observation_example))
    ∷ example (packing fresh_observation_example) fresh_bytes
    ∷ example (checksum_of fresh_bytes ∷ []) (240 ∷ [])
    -- the lister: 1 1, 2 1900, 3 1, 6 0, 7 0, C 240, A 0; R 1 0
    ∷ example (listing fresh_bytes)
    (49 ∷ 32 ∷ 49 ∷ 10 ∷ 50 ∷ 32 ∷ 49 ∷ 57 ∷ 48 ∷ 48 ∷ 10 ∷ 51 ∷ 32 ∷ 49 ∷ 10 ∷ 54 ∷ 32 ∷ 48 ∷ 10 ∷ 55 ∷ 32 ∷ 48 ∷ 10 ∷ 67 ∷ 32 ∷ 50 ∷ 52 ∷ 48 ∷ 10 ∷ 65 ∷ 32 ∷ 48 ∷ 10 ∷ [])
    ∷ example (listing []) (82 ∷ 32 ∷ 49 ∷ 32 ∷ 48 ∷ 10 ∷ [])
    -- S set to 286: its code and where it stands, all bytes, CK, and back
    ∷ example ((coded_of (field_at 31) (scaled (pos 286))).0 ∷ bit_field s_bytes 203 11 ∷ offset widths 31 ∷ []) (1286 ∷ 1286 ∷ 203 ∷ [])
    ∷ example s_bytes (take 25 fresh_bytes ++ (0x14 ∷ 0x18 ∷ (replicate 9 0 ++ (0xFB ∷ 0x00 ∷ []))))
    ∷ example (checksum_of s_bytes ∷ []) (251 ∷ [])
    ∷ example (answers_of s_bytes (reads (read_field 31) ∷ [])) (1 ∷ 1 ∷ 0 ∷ 286 ∷ [])
    -- text A1: all bytes, CK, and back
    ∷ example text_bytes (take 37 s_bytes ++ (0x10 ∷ 0x34 ∷ 0xC1 ∷ 0x10 ∷ 7 ∷ []))
    ∷ example (checksum_of text_bytes ∷ []) (251 ∷ [])
    ∷ example (answers_of text_bytes (fetches (fetch_text (3 ∷ 3 ∷ 3 ∷ []) (5 ∷ 5 ∷ 5 ∷ [])) ∷ [])) (1 ∷ 1 ∷ 0 ∷ 2 ∷ 1 ∷ 0 ∷ 0 ∷ 1 ∷ 0 ∷ 3 ∷ 65 ∷ 49 ∷ 3 ∷ 0 ∷ 0 ∷ 5 ∷ [])
    -- CK where every field is at its highest, and where every code is 1
    ∷ example (total highest_codes ∷ checksum highest_codes ∷ []) (19643 ∷ 8 ∷ [])
    ∷ example (checksum (replicate 46 1) ∷ []) (46 ∷ [])
    ∷ example (checksum_of (report_of highest_codes 0 []) ∷ checksum_of (report_of (replicate 46 1) 0 []) ∷ []) (8 ∷ 46 ∷ [])
    ∷ example (codes_of (packing (observation_of (report_of highest_codes 0 [])))) highest_codes
    -- S: just below its range, and its lowest value
    ∷ example (answers_of fresh_bytes (edits (set_field 31 (scaled (minus 1000))) ∷ [])) (refuses 9 31)
    ∷ example ((coded_of (field_at 31) (scaled (minus 999))).0 ∷ signed (scaled_of (field_at 31) (coded 1)).0) (1 ∷ 1 ∷ 998 ∷ [])
    -- texts with a short run of spaces, with a long one, with an original symbol; and back
    ∷ example (write_text (plainly (49 ∷ 50 ∷ 32 ∷ 32 ∷ 32 ∷ 51 ∷ []))) (1 ∷ 2 ∷ 11 ∷ 0 ∷ 3 ∷ [])
    ∷ example (symbol_numbers (read_text (1 ∷ 2 ∷ 11 ∷ 0 ∷ 3 ∷ []))) (49 ∷ 50 ∷ 32 ∷ 32 ∷ 32 ∷ 51 ∷ replicate 6 0)
    ∷ example (write_text (plainly (replicate 20 32 ++ (66 ∷ [])))) (11 ∷ 15 ∷ 10 ∷ 10 ∷ 12 ∷ 2 ∷ [])
    ∷ example (symbol_numbers (read_text (11 ∷ 15 ∷ 10 ∷ 10 ∷ 12 ∷ 2 ∷ []))) (replicate 20 32 ++ (66 ∷ replicate 21 0))
    ∷ example (write_text (original 97 ∷ [])) (15 ∷ 6 ∷ 1 ∷ [])
    ∷ example (symbol_numbers (read_text (15 ∷ 6 ∷ 1 ∷ []))) (97 ∷ 1 ∷ [])
    -- a run of three spaces in another form: in put, and in a report
    ∷ example (answers_of roomy (edits (put 4 bad_text) ∷ [])) (refuses 14 0)
    ∷ example (judged (judge all_yes (report_of fresh_codes 1 (0 ∷ 4 ∷ 4 ∷ bad_text)))) (refuses 6 1)
    -- the most original symbols that fit, and one more
    ∷ example (answers_of wide (edits (put_text (replicate 85 97) (replicate 85 1)) ∷ edits (put_text (replicate 86 97) (replicate 86 1)) ∷ [])) (1 ∷ 1 ∷ 0 ∷ 255 ∷ refuses 12 0)
    -- the quality code of flag 1 at R and flag 6 at L
    ∷ example (quality_code (1 ∷ 0 ∷ 0 ∷ 0 ∷ 0 ∷ 6 ∷ replicate 8 0) ∷ []) (3 ∷ [])
    ∷ example (answers_of roomy flag_calls)
    (1 ∷ 1 ∷ 0 ∷ 1 ∷ 0 ∷ 1 ∷ 1 ∷ 0 ∷ 16 ∷ 1 ∷ 0 ∷ 0 ∷ 0 ∷ 0 ∷ 6 ∷ 0 ∷ 0 ∷ 0 ∷ 0 ∷ 0 ∷ 0 ∷ 0 ∷ 0 ∷ 0 ∷ 3 ∷ 9 ∷ [])
    -- a field cleared that is not required, and one that is
    ∷ example (answers_of fresh_bytes (edits (clear_field 4) ∷ edits (clear_field 3) ∷ [])) (1 ∷ 0 ∷ refuses 10 3)
    ∷ []

-- every example holds: one computed fact, with all that it computes with unfolded
pub examples_hold : T (every examples)
unfolding signed optional given value_numbers observation_numbers refusal judged answer joined answers yes refuses example fresh_example fresh_bytes
    fresh_observation_example s_bytes text_bytes report_with report_of highest_codes fresh_codes bad_text flagless put1 flag_calls answers_of roomy wide examples
    same every first table field_at required scaled_of coded_of in_range entry_of code_of entries codes bits number bits_of bit_field total read_fields
    write_fields nibbles bytes padded attachment_nibbles tail_nibbles attachments_of among weights weight total_weight all_missing quality_code all_yes flags_fit
    flag_body with_flag flags_valid char_code short pair_byte code_nibbles byte_of origin_of symbol_of symbols_in admitted all_admitted all_marks set_of_source set_of_number deck_set
    set_number plainly symbol_numbers put_plain is_space symbol_nibbles fulls rest space_run write_from
    write_text spaces text_step state_after symbols_of read_from end_from at_end text_valid read_text widths checksum card_numbers card_nibbles packing
    observation_of field_checks body_valid attachment_checks report_checks judge stands content_of put_in remove_from made read_gives gives outputs_of writes overfull
    over_each all_nibbles call_checks checks step layout effect course calls run claim fresh_observation fresh_checks fresh digits_from field_lines listing
examples_hold = tt

-- ---- two refusals that fit at once, zeroed bytes, unpack and pack

-- the fresh report's codes with coded number c at field k
codes_with : ℕ → ℕ → List ℕ
codes_with k c = set fresh_codes (k - 1) c

-- and with MONTH missing too
codes_without : ℕ → ℕ → List ℕ
codes_without k c = set (codes_with k c) 2 0

-- another checksum than that of the fields
spoilt : List ℕ → List ℕ
spoilt b = set b 36 (255 - get_or b 36 0)

one : ℕ → List ℕ
one n = n ∷ []

whole_values : List ℤ
whole_values = pos 1 ∷ pos 1900 ∷ pos 1 ∷ pos 77 ∷ pos 77 ∷ pos 0 ∷ pos 0 ∷ replicate 39 (pos 77)

numbers : List ℤ → List ℕ
numbers [] = []
numbers (z ∷ zs) = signed z ++ numbers zs

packed : List ℤ → ℕ → List ℕ → List ℕ → List ℕ
packed values word ns out = let w = pack all_yes values word 513 ns out in answer w.answer ++ w.out

-- the presence bits of the required fields
required_bits : ℕ
required_bits = 2 + 4 + 8 + 64 + 128

-- attachments n to 1: one nibble each, but for id 1
many_attachments : ℕ → List ℕ
many_attachments zero = []
many_attachments (suc zero) = 1 ∷ 0 ∷ 1 ∷ flagless
many_attachments (suc (suc n)) = 0 ∷ 1 ∷ suc (suc n) ∷ 0 ∷ many_attachments (suc n)

-- fourteen attachments of 255 nibbles, ids 2 to 15, then an id 1 of 255
long_tail : ℕ → List ℕ
long_tail zero = 15 ∷ 15 ∷ 1 ∷ replicate 255 0
long_tail (suc n) = (15 ∷ 15 ∷ suc (suc n) ∷ replicate 255 0) ++ long_tail n

long_report : List ℕ
long_report = report_of fresh_codes 15 (long_tail 14)

unpacked_numbers : Unpacked → List ℕ
unpacked_numbers u = answer u.answer ++ (numbers u.values ++ u.tail)

pub orders : List Example
orders =
    -- a report: the order of FORMAT 5.2
    example (judged (judge all_yes (take 37 (spoilt fresh_bytes)))) (refuses 1 0)
    ∷ example (judged (judge all_yes (report_of (codes_without 1 700) 0 []))) (refuses 2 1)
    ∷ example (judged (judge all_yes (report_of (codes_without 5 25) 0 []))) (refuses 3 3)
    ∷ example (judged (judge all_yes (spoilt (report_of (codes_with 5 25) 0 [])))) (refuses 2 5)
    ∷ example (judged (judge all_yes (spoilt (report_of fresh_codes 1 (0 ∷ 0 ∷ 5 ∷ []))))) (refuses 4 0)
    ∷ example (judged (judge all_yes (report_of fresh_codes 1 []))) (refuses 1 1)
    ∷ example (judged (judge all_yes (report_of fresh_codes 1 (15 ∷ 15 ∷ 0 ∷ [])))) (refuses 5 1)
    ∷ example (judged (judge all_yes (report_of fresh_codes 1 (0 ∷ 9 ∷ 1 ∷ [])))) (refuses 1 1)
    ∷ example (judged (judge all_yes (report_of fresh_codes 2 (0 ∷ 1 ∷ 5 ∷ 9 ∷ 0 ∷ 1 ∷ 5 ∷ 9 ∷ [])))) (refuses 5 2)
    ∷ example (judged (judge all_yes (report_of fresh_codes 2 (0 ∷ 1 ∷ 1 ∷ 0 ∷ 0 ∷ 0 ∷ 5 ∷ 1 ∷ [])))) (refuses 6 1)
    ∷ example (judged (judge all_yes (report_of fresh_codes 1 (0 ∷ 1 ∷ 4 ∷ 10 ∷ 3 ∷ [])))) (refuses 6 1)
    ∷ example (judged (judge all_yes (report_of fresh_codes 1 (0 ∷ 2 ∷ 5 ∷ 9 ∷ 9 ∷ 3 ∷ [])))) (1 ∷ observation_numbers (with_attachments fresh_observation_example (attachment 5 (9 ∷ 9 ∷ []) ∷ [])))
    ∷ example (judged (judge all_yes (report_of fresh_codes 1 (0 ∷ 1 ∷ 5 ∷ 9 ∷ 3 ∷ [])))) (refuses 7 0)
    ∷ example (judged (judge all_yes (report_of fresh_codes 1 (0 ∷ 2 ∷ 5 ∷ 9 ∷ 9 ∷ []) ++ (1 ∷ [])))) (1 ∷ observation_numbers (with_attachments fresh_observation_example (attachment 5 (9 ∷ 9 ∷ []) ∷ [])))
    ∷ example (judged (judge all_yes (fresh_bytes ++ (255 ∷ [])))) (judged (accepted fresh_observation_example))
    ∷ example (judged (judge all_yes (set fresh_bytes 37 3))) (refuses 7 0)
    -- 8, 9, 10, 11, 12, 14, 13, after the report
    ∷ example (answers_of (spoilt fresh_bytes) (edits (set_field 47 (scaled (pos 0))) ∷ fetches (fetch 0 (3 ∷ [])) ∷ [])) (refuses 4 0 ++ (refuses 4 0 ++ one 3))
    ∷ example (answers_of fresh_bytes (edits (set_field 47 (scaled (minus 5))) ∷ edits (set_field 260 (scaled (pos 1))) ∷ edits (clear_field 0) ∷ reads (read_field 47) ∷ []))
    (refuses 8 0 ++ (refuses 8 0 ++ (refuses 8 0 ++ refuses 8 0)))
    ∷ example
    (answers_of fresh_bytes
    (edits (set_flag 15 11) ∷ edits (set_flag 14 11) ∷ edits (set_flag 1 0) ∷ edits (set_flag 1 1)
    ∷ reads (read_flag 0) ∷ reads (read_flag 14) ∷ edits (clear_flag 15) ∷ edits (clear_flag 1) ∷ []))
    (refuses 8 0 ++ (refuses 9 14 ++ (refuses 9 1 ++ (refuses 11 0 ++ (refuses 8 0 ++ (refuses 11 0 ++ (refuses 8 0 ++ refuses 11 0)))))))
    ∷ example
    (answers_of fresh_bytes
    (edits (put 16 []) ∷ edits (put 1 []) ∷ edits (put 5 (replicate 256 16)) ∷ edits (put 5 (16 ∷ [])) ∷ edits (put 1 (0 ∷ [])) ∷ edits (put 5 (1 ∷ []))
    ∷ put_plain (32 ∷ []) ∷ put_plain (65 ∷ []) ∷ []))
    (refuses 8 0 ++ (refuses 12 0 ++ (refuses 12 0 ++ (refuses 14 0 ++ (refuses 14 0 ++ (refuses 13 0 ++ (refuses 12 0 ++ refuses 13 0)))))))
    ∷ example
    (answers_of (text_bytes)
    (fetches (fetch 16 []) ∷ fetches (fetch 5 []) ∷ fetches (fetch 4 (7 ∷ 7 ∷ [])) ∷ fetches (fetch 4 (7 ∷ 7 ∷ 7 ∷ 7 ∷ [])) ∷ fetches (fetch_text (7 ∷ []) (7 ∷ 7 ∷ []))
    ∷ edits (remove 5) ∷ edits (remove 0) ∷ []))
    (refuses 8 0 ++ (refuses 11 0 ++ (refuses 13 0 ++ (7 ∷ 7 ∷ 1 ∷ 1 ∷ 0 ∷ 3 ∷ 12 ∷ 1 ∷ 1 ∷ 7 ∷ (refuses 13 0 ++ (7 ∷ 7 ∷ 7 ∷ (refuses 11 0 ++ refuses 8 0)))))))
    -- what stands behind a report that has been longer (FORMAT 6.3)
    ∷ example (drop 37 (claim all_yes roomy (edits (put 9 (1 ∷ 2 ∷ 3 ∷ [])) ∷ edits (put 8 (4 ∷ 5 ∷ [])) ∷ edits (remove 9) ∷ [])).state) (16 ∷ 40 ∷ 69 ∷ 0 ∷ 0 ∷ 0 ∷ replicate 17 5)
    ∷ example (drop 37 (claim all_yes roomy (edits (put 9 (1 ∷ 2 ∷ 3 ∷ [])) ∷ edits (remove 9) ∷ [])).state) (0 ∷ 0 ∷ 0 ∷ 0 ∷ replicate 19 5)
    ∷ example (drop 37 (effect all_yes (effect all_yes roomy (edits (put 9 (1 ∷ 2 ∷ 3 ∷ [])))).buffer (edits (remove 9))).buffer) (0 ∷ 0 ∷ 0 ∷ 0 ∷ replicate 19 5)
    -- a put where the id stands keeps the order
    ∷ example (tail_nibbles (observation_of (claim all_yes roomy (edits (put 9 (1 ∷ [])) ∷ edits (put 8 (2 ∷ [])) ∷ edits (put 9 (3 ∷ 3 ∷ [])) ∷ [])).state).attachments)
    (0 ∷ 2 ∷ 9 ∷ 3 ∷ 3 ∷ 0 ∷ 1 ∷ 8 ∷ 2 ∷ [])
    -- the last flag cleared: quality code 0; a missing flag reads as missing
    ∷ example
    (answers_of roomy
    (put1 ∷ edits (set_flag 14 10) ∷ reads (read_flag 14) ∷ fetches (fetch 1 (replicate 16 9)) ∷ edits (clear_flag 14) ∷ reads (read_flag 14)
    ∷ fetches (fetch 1 (replicate 16 9)) ∷ []))
    (1 ∷ 1 ∷ 0 ∷ 1 ∷ 1 ∷ 0 ∷ 10 ∷ 1 ∷ 1 ∷ 0 ∷ 16 ∷ (replicate 13 0 ++ (10 ∷ 0 ∷ 4 ∷ 1 ∷ 1 ∷ 0 ∷ 10 ∷ 1 ∷ 0 ∷ 1 ∷ 1 ∷ 0 ∷ 16 ∷ replicate 16 0)))
    -- fresh: the order of FORMAT 7.2
    ∷ example (let w = fresh (scaled (pos 1)) (scaled (pos 1799)) (scaled (pos 13)) (scaled (pos 0)) (scaled (pos 0)) (7 ∷ []) in answer w.answer ++ w.out) (refuses 9 2 ++ one 7)
    ∷ example (let w = fresh_example (replicate 37 7) in answer w.answer ++ w.out) (refuses 13 0 ++ replicate 37 7)
    -- unpack and pack
    ∷ example (unpacked_numbers (unpack all_yes text_bytes (replicate 47 (pos 5)) (replicate 7 5)))
    ((1 ∷ 1 ∷ 0 ∷ (required_bits + 2 ^ 31) ∷ 1 ∷ 0 ∷ 6 ∷ 1 ∷ 0 ∷ 0 ∷ 1 ∷ 0 ∷ 1 ∷ 1 ∷ 0 ∷ 41 ∷ 1 ∷ 0 ∷ 6 ∷ [])
    ++ (numbers (pos 1 ∷ pos 1900 ∷ pos 1 ∷ replicate 27 (pos 0)) ++ (numbers (pos 286 ∷ replicate 15 (pos 0)) ++ (numbers (pos 5 ∷ []) ++ (0 ∷ 3 ∷ 4 ∷ 12 ∷ 1 ∷ 1 ∷ 5 ∷ [])))))
    ∷ example (unpacked_numbers (unpack all_yes text_bytes (replicate 45 (pos 5)) (replicate 7 5))) (refuses 13 0 ++ (numbers (replicate 45 (pos 5)) ++ replicate 7 5))
    ∷ example (unpacked_numbers (unpack all_yes text_bytes [] (replicate 5 5))) (refuses 13 0 ++ replicate 5 5)
    ∷ example (packed whole_values required_bits [] (replicate 39 7)) (1 ∷ 1 ∷ 0 ∷ 38 ∷ (2 ∷ 1 ∷ (drop 2 fresh_bytes ++ one 7)))
    ∷ example (packed whole_values required_bits (0 ∷ 3 ∷ 4 ∷ 12 ∷ 1 ∷ 1 ∷ []) (replicate 41 7)) (1 ∷ 1 ∷ 0 ∷ 41 ∷ (2 ∷ 1 ∷ (take 35 (drop 2 fresh_bytes) ++ (0x10 ∷ 0x34 ∷ 0xC1 ∷ 0x10 ∷ []))))
    ∷ example (packed (take 45 whole_values) 1 [] []) (refuses 13 0)
    ∷ example (packed whole_values 1 [] []) (refuses 8 0)
    ∷ example (packed whole_values (required_bits + 2 ^ 47) [] []) (refuses 8 0)
    ∷ example (packed whole_values (required_bits - 8 + 16) (16 ∷ []) []) (refuses 10 3)
    ∷ example (packed whole_values (required_bits - 64 + 16) (16 ∷ []) []) (refuses 9 4)
    ∷ example (packed whole_values required_bits (0 ∷ 0 ∷ 16 ∷ []) []) (refuses 14 0)
    ∷ example (packed whole_values required_bits (0 ∷ 1 ∷ 5 ∷ 9 ∷ 0 ∷ 1 ∷ []) []) (refuses 1 2)
    ∷ example (packed whole_values required_bits (0 ∷ 1 ∷ 5 ∷ 9 ∷ 0 ∷ 1 ∷ 5 ∷ []) []) (refuses 5 2)
    ∷ example (packed whole_values required_bits (0 ∷ 1 ∷ 1 ∷ 9 ∷ []) []) (refuses 6 1)
    ∷ example (packed whole_values required_bits (0 ∷ 1 ∷ 5 ∷ 9 ∷ []) (replicate 39 7)) (refuses 13 0 ++ replicate 39 7)
    -- what each number is
    ∷ example (quantities (effect all_yes text_bytes (reads (read_field 1))).answer ++ quantities (effect all_yes text_bytes (reads (read_field 4))).answer) (1 ∷ 1 ∷ [])
    ∷ example (quantities (effect all_yes (effect all_yes roomy put1).buffer (reads (read_flag 1))).answer) (2 ∷ [])
    ∷ example (quantities (effect all_yes text_bytes (fetches (fetch 4 (replicate 9 7)))).answer ++ quantities (effect all_yes text_bytes (fetches (fetch_text (replicate 9 7) (replicate 9 7)))).answer)
    (3 ∷ 3 ∷ 10 ∷ 9 ∷ [])
    ∷ example (quantities (effect all_yes text_bytes (edits (put 4 (one 1)))).answer ++ quantities (effect all_yes text_bytes (edits (remove 4))).answer) []
    ∷ example (quantities (unpack all_yes text_bytes (replicate 46 (pos 5)) (replicate 7 5)).answer) (4 ∷ 5 ∷ 6 ∷ 7 ∷ 8 ∷ 9 ∷ [])
    ∷ example (quantities (pack all_yes whole_values required_bits 0 [] (replicate 39 7)).answer) (8 ∷ [])
    -- all 14 bits of CK are compared; a sum of 1020, which is 4 times 255, has CK 0, and 255 is refused
    ∷ example (judged (judge all_yes (report_with fresh_codes 496 0 []))) (refuses 4 0)
    ∷ example (take 1 (judged (judge all_yes (report_with (codes_with 10 15) 0 0 []))) ++ judged (judge all_yes (report_with (codes_with 10 15) 255 0 []))) (1 ∷ refuses 4 0)
    -- the highest codes are accepted
    ∷ example (take 1 (judged (judge all_yes (report_of highest_codes 0 [])))) yes
    -- an attachment of 17 nibbles, and back
    ∷ example (drop 37 (effect all_yes roomy (edits (put 9 (replicate 17 3)))).buffer) ((0x11 ∷ 0x19 ∷ replicate 8 0x33) ++ (0x30 ∷ replicate 12 5))
    ∷ example (answers_of roomy (edits (put 9 (replicate 17 3)) ∷ fetches (fetch 9 (replicate 18 8)) ∷ [])) (1 ∷ 1 ∷ 1 ∷ 0 ∷ 17 ∷ (replicate 17 3 ++ one 8))
    -- a quality code of 43, and the rule
    ∷ example (answers_of roomy (edits (put 1 (replicate 14 10 ++ (2 ∷ 10 ∷ []))) ∷ edits (put 1 (replicate 14 10 ++ (2 ∷ 11 ∷ []))) ∷ edits (clear_flag 1) ∷ fetches (fetch 1 (replicate 16 8)) ∷ []))
    (refuses 14 0 ++ (1 ∷ 1 ∷ 1 ∷ 0 ∷ 10 ∷ 1 ∷ 1 ∷ 0 ∷ 16 ∷ 0 ∷ (replicate 13 10 ++ (2 ∷ 8 ∷ []))))
    ∷ example
    (answers_of roomy
    (edits (put 1 (11 ∷ replicate 15 0)) ∷ edits (put 1 (replicate 15 0)) ∷ edits (put 1 (replicate 14 0 ++ (0 ∷ 1 ∷ [])))
    ∷ edits (put 1 (1 ∷ (replicate 14 0 ++ (1 ∷ [])))) ∷ []))
    (refuses 14 0 ++ (refuses 14 0 ++ (refuses 14 0 ++ yes)))
    -- field 1, and the required fields
    ∷ example (answers_of fresh_bytes (reads (read_field 1) ∷ reads (read_field 46) ∷ reads (read_field 0) ∷ [])) (1 ∷ 1 ∷ 0 ∷ 1 ∷ 1 ∷ 0 ∷ refuses 8 0)
    ∷ example (answers_of fresh_bytes (edits (clear_field 1) ∷ edits (clear_field 2) ∷ edits (clear_field 6) ∷ edits (clear_field 7) ∷ edits (clear_field 5) ∷ []))
    (refuses 10 1 ++ (refuses 10 2 ++ (refuses 10 6 ++ (refuses 10 7 ++ (1 ∷ 0 ∷ [])))))
    -- runs of 17, 18 and 36 spaces, and 21
    ∷ example (write_text (plainly (replicate 17 32 ++ (66 ∷ [])))) (11 ∷ 14 ∷ 12 ∷ 2 ∷ [])
    ∷ example (write_text (plainly (replicate 18 32 ++ (66 ∷ [])))) (11 ∷ 15 ∷ 12 ∷ 2 ∷ [])
    ∷ example (write_text (plainly (replicate 36 32 ++ (66 ∷ [])))) (11 ∷ 15 ∷ 11 ∷ 15 ∷ 12 ∷ 2 ∷ [])
    ∷ example (symbol_numbers (read_text (11 ∷ 15 ∷ 11 ∷ 0 ∷ 1 ∷ []))) (replicate 21 32 ++ (49 ∷ replicate 22 0))
    ∷ example (answers_of roomy (edits (put 4 (11 ∷ 15 ∷ 11 ∷ 0 ∷ 1 ∷ [])) ∷ edits (put 4 (15 ∷ 8 ∷ 0 ∷ [])) ∷ fetches (fetch_text (7 ∷ 7 ∷ []) (9 ∷ 9 ∷ [])) ∷ []))
    (1 ∷ 1 ∷ 1 ∷ 1 ∷ 0 ∷ 1 ∷ 1 ∷ 0 ∷ 0 ∷ 1 ∷ 0 ∷ 3 ∷ 128 ∷ 7 ∷ 1 ∷ 9 ∷ [])
    -- bodies that end within a code
    ∷ example (answers_of roomy (edits (put 4 (1 ∷ 11 ∷ [])) ∷ edits (put 4 (1 ∷ 12 ∷ [])) ∷ edits (put 4 (1 ∷ 15 ∷ [])) ∷ [])) (refuses 14 0 ++ (refuses 14 0 ++ refuses 14 0))
    -- the lister: a field of two digits, values 10 and -10, and input past 1856 bytes
    ∷ example (drop 23 (listing (claim all_yes fresh_bytes (edits (set_field 10 (scaled (pos 10))) ∷ edits (set_field 31 (scaled (minus 10))) ∷ [])).state))
    (49 ∷ 48 ∷ 32 ∷ 49 ∷ 48 ∷ 10 ∷ 51 ∷ 49 ∷ 32 ∷ 45 ∷ 49 ∷ 48 ∷ 10 ∷ 67 ∷ 32 ∷ 50 ∷ 50 ∷ 49 ∷ 10 ∷ 65 ∷ 32 ∷ 48 ∷ 10 ∷ [])
    ∷ example (listing long_report) (82 ∷ 32 ∷ 49 ∷ 32 ∷ 49 ∷ 53 ∷ 10 ∷ [])
    ∷ example (judged (judge all_yes long_report)) (refuses 6 15)
    -- fresh with X and Y out of range
    ∷ example (answer (fresh (scaled (pos 1)) (scaled (pos 1900)) (scaled (pos 1)) (scaled (pos 3600)) (scaled (pos 901)) (replicate 38 7)).answer) (refuses 9 6)
    -- a sixteenth attachment
    ∷ example (packed whole_values required_bits (many_attachments 15 ++ (0 ∷ 1 ∷ 7 ∷ 9 ∷ [])) []) (refuses 5 16)
    ∷ example (packed whole_values required_bits (many_attachments 15 ++ (0 ∷ [])) []) (refuses 1 16)
    -- nineteen spaces are 11 15 10, and not 10 11 15
    ∷ example (write_text (plainly (replicate 19 32 ++ (66 ∷ [])))) (11 ∷ 15 ∷ 10 ∷ 12 ∷ 2 ∷ [])
    ∷ example
    (answers_of roomy
    (edits (put 4 (10 ∷ 11 ∷ 15 ∷ 12 ∷ 2 ∷ [])) ∷ edits (put 4 (11 ∷ 15 ∷ 10 ∷ 12 ∷ 2 ∷ [])) ∷ edits (put 4 (1 ∷ 10 ∷ [])) ∷ edits (put 4 (15 ∷ 4 ∷ 1 ∷ []))
    ∷ edits (put 4 (14 ∷ 0 ∷ [])) ∷ edits (put 4 (15 ∷ 6 ∷ [])) ∷ []))
    (refuses 14 0 ++ (1 ∷ (refuses 14 0 ++ (1 ∷ (refuses 14 0 ++ refuses 14 0)))))
    ∷ []

pub orders_hold : T (every orders)
unfolding many_attachments long_tail long_report codes_with codes_without spoilt one whole_values numbers packed required_bits unpacked_numbers orders presence_from
    count_present unpack_gives unpack pack_checks entries_given count_from pack_observation pack_order pack quantity_number quantities signed optional given value_numbers
    observation_numbers refusal judged answer joined answers yes refuses example fresh_example fresh_bytes fresh_observation_example s_bytes text_bytes report_with report_of
    highest_codes fresh_codes bad_text flagless put1 flag_calls answers_of roomy wide same every first table field_at required scaled_of coded_of in_range entry_of code_of entries
    codes bits number bits_of bit_field total read_fields write_fields nibbles bytes padded attachment_nibbles tail_nibbles attachments_of among weights weight total_weight
    all_missing quality_code all_yes flags_fit flag_body with_flag flags_valid char_code short pair_byte code_nibbles byte_of origin_of symbol_of symbols_in admitted all_admitted
    all_marks set_of_source set_of_number deck_set set_number plainly symbol_numbers put_plain is_space symbol_nibbles fulls rest space_run
    write_from write_text spaces text_step state_after symbols_of read_from end_from at_end text_valid read_text widths checksum card_numbers card_nibbles packing observation_of
    field_checks body_valid attachment_checks report_checks judge stands content_of put_in remove_from made read_gives gives outputs_of writes overfull over_each all_nibbles call_checks checks
    step layout effect course calls run claim fresh_observation fresh_checks fresh digits_from field_lines listing
orders_hold = tt

-- ---- the table of the characters

entry_at : ℕ → ℕ
entry_at b = get_or char_table b 0

nibbles_of : ℕ → ℕ
nibbles_of w = w / 4096

pub characters : List Example
characters =
    example (length char_table ∷ []) (256 ∷ [])
    -- 11 bytes of one nibble, 32 of two, 213 of three: 714 nibbles
    ∷ example (total (map nibbles_of char_table) ∷ []) (714 ∷ [])
    -- the figures of FORMAT 3.5: 0, A, a, the space
    ∷ example (map entry_at (48 ∷ 65 ∷ 97 ∷ 32 ∷ [])) (4096 ∷ 8385 ∷ 16225 ∷ 4106 ∷ [])
    -- the digits, and what stands about them
    ∷ example (map entry_at (up_from 46 13))
    (0x3f2e ∷ 0x20e1 ∷ 0x1000 ∷ 0x1001 ∷ 0x1002 ∷ 0x1003 ∷ 0x1004 ∷ 0x1005 ∷ 0x1006 ∷ 0x1007 ∷ 0x1008 ∷ 0x1009 ∷ 0x3f3a ∷ [])
    -- A to I, J to R, S to Z: the ends, and what stands about them
    ∷ example (map entry_at (64 ∷ 65 ∷ 73 ∷ 74 ∷ 82 ∷ 83 ∷ 90 ∷ 91 ∷ [])) (0x3f40 ∷ 0x20c1 ∷ 0x20c9 ∷ 0x20d1 ∷ 0x20d9 ∷ 0x20e2 ∷ 0x20e9 ∷ 0x3f5b ∷ [])
    -- the space and & + - with their neighbours
    ∷ example (map entry_at (31 ∷ 32 ∷ 33 ∷ 37 ∷ 38 ∷ 39 ∷ 42 ∷ 43 ∷ 44 ∷ 45 ∷ []))
    (0x3f1f ∷ 0x100a ∷ 0x3f21 ∷ 0x3f25 ∷ 0x20ca ∷ 0x3f27 ∷ 0x3f2a ∷ 0x20cb ∷ 0x3f2c ∷ 0x20da ∷ [])
    -- z { | } ~, and both ends
    ∷ example (map entry_at (122 ∷ 123 ∷ 124 ∷ 125 ∷ 126 ∷ [])) (0x3f7a ∷ 0x20c0 ∷ 0x3f7c ∷ 0x20d0 ∷ 0x3f7e ∷ [])
    ∷ example (map entry_at (0 ∷ 127 ∷ 128 ∷ 255 ∷ 256 ∷ [])) (0x3f00 ∷ 0x3f7f ∷ 0x3f80 ∷ 0x3fff ∷ 0 ∷ [])
    ∷ []

pub characters_hold : T (every characters)
unfolding entry_at nibbles_of characters example same every total up_from entry char_table char_code code_nibbles
characters_hold = tt

-- ---- tables of permitted flags

-- a table that is lent: every mark yes, but for the byte at place i
without : ℕ → List ℕ
without i = set (replicate 140 1) i 0

-- fourteen rows with one yes, at the same column
only : ℕ → List ℕ
only i = rows_of 14
  where
    rows_of : ℕ → List ℕ
    rows_of zero = []
    rows_of (suc n) = set (replicate 10 0) i 1 ++ rows_of n

-- flag 1 may not be A, 2
no_a : FlagTable
no_a = table_of (without 1)

under : FlagTable → List ℕ → List Call → List ℕ
under marks b cs = answers (claim marks b cs).answers

-- a report whose flag 1 is A, made under the table of every value; and its content of id 1
with_a : List ℕ
with_a = (claim all_yes roomy (put1 ∷ edits (set_flag 1 2) ∷ [])).state

content_a : List ℕ
content_a = 2 ∷ (replicate 14 0 ++ (2 ∷ []))

-- the answer to a table that is lent, and the table in force afterwards
loading : FlagTable → List ℕ → List ℕ
loading former lent = answer (load_answer lent) ++ joined (in_force former lent)

packed_under : FlagTable → List ℕ → List ℕ → List ℕ
packed_under marks ns out = let w = pack marks whole_values required_bits 0 ns out in answer w.answer ++ w.out

pub tables : List Example
tables =
    -- where a mark stands: flag 1 at S, flag 2 at R, flag 14 at S
    example (mark_of (table_of (without 9)) 1 10 ∷ mark_of (table_of (without 9)) 2 1 ∷ []) (0 ∷ 1 ∷ [])
    ∷ example (mark_of (table_of (without 10)) 1 10 ∷ mark_of (table_of (without 10)) 2 1 ∷ []) (1 ∷ 0 ∷ [])
    ∷ example (mark_of (table_of (without 139)) 14 10 ∷ mark_of (table_of (without 139)) 14 9 ∷ mark_of (table_of (without 139)) 13 10 ∷ []) (0 ∷ 1 ∷ 1 ∷ [])
    -- loading: accepted; 139 and 141 bytes, none; a byte 2, a byte 255; a first and a last row without a yes. The former table stays
    ∷ example (loading all_yes (without 1)) (1 ∷ without 1)
    ∷ example (loading no_a (only 9)) (1 ∷ only 9)
    ∷ example (loading no_a (replicate 139 1)) (refuses 16 0 ++ without 1)
    ∷ example (loading no_a (replicate 141 1)) (refuses 16 0 ++ without 1)
    ∷ example (loading no_a []) (refuses 16 0 ++ without 1)
    ∷ example (loading no_a (set (replicate 140 1) 0 2)) (refuses 16 0 ++ without 1)
    ∷ example (loading no_a (set (replicate 140 1) 139 255)) (refuses 16 0 ++ without 1)
    ∷ example (loading no_a (replicate 10 0 ++ replicate 130 1)) (refuses 16 0 ++ without 1)
    ∷ example (loading no_a (replicate 130 1 ++ replicate 10 0)) (refuses 16 0 ++ without 1)
    ∷ example (loading all_yes (replicate 131 1 ++ replicate 9 0)) (1 ∷ (replicate 131 1 ++ replicate 9 0))
    -- set flag: 8 before 9, 9 before 11; another value, another flag
    ∷ example (under no_a fresh_bytes (edits (set_flag 15 2) ∷ edits (set_flag 1 2) ∷ edits (set_flag 1 1) ∷ edits (set_flag 2 2) ∷ []))
    (refuses 8 0 ++ (refuses 9 1 ++ (refuses 11 0 ++ refuses 11 0)))
    ∷ example (under no_a roomy (put1 ∷ edits (set_flag 1 2) ∷ edits (set_flag 1 3) ∷ edits (set_flag 2 2) ∷ edits (set_flag 1 11) ∷ [])) (1 ∷ (refuses 9 1 ++ (1 ∷ 0 ∷ 1 ∷ 0 ∷ refuses 9 1)))
    -- put: 14, before 13; the same content where every value is permitted
    ∷ example (under no_a fresh_bytes (edits (put 1 content_a) ∷ [])) (refuses 14 0)
    ∷ example (under all_yes fresh_bytes (edits (put 1 content_a) ∷ [])) (refuses 13 0)
    -- a report made under one table is refused under another, by every call, and no byte changes
    ∷ example (take 1 (judged (judge all_yes with_a)) ++ judged (judge no_a with_a)) (1 ∷ refuses 6 1)
    ∷ example
    (under no_a with_a
    (reads (read_field 1) ∷ edits (set_field 31 (scaled (pos 1))) ∷ edits (clear_field 4) ∷ reads (read_flag 1) ∷ edits (set_flag 1 1) ∷ edits (clear_flag 1)
    ∷ edits (put 1 flagless) ∷ edits (remove 1) ∷ put_plain (65 ∷ []) ∷ []))
    (joined (replicate 9 (refuses 6 1)))
    ∷ example (under no_a with_a (fetches (fetch 1 (7 ∷ [])) ∷ fetches (fetch_text (8 ∷ []) (9 ∷ [])) ∷ [])) (refuses 6 1 ++ (7 ∷ (refuses 6 1 ++ (8 ∷ 9 ∷ []))))
    ∷ example (claim no_a with_a (edits (clear_flag 1) ∷ edits (remove 1) ∷ [])).state with_a
    ∷ example (answer (unpack no_a with_a (replicate 46 (pos 5)) (replicate 19 5)).answer) (refuses 6 1)
    -- pack's tail, by the attachment's position
    ∷ example (packed_under no_a ((0 ∷ 1 ∷ 5 ∷ 9 ∷ 1 ∷ 0 ∷ 1 ∷ []) ++ content_a) (replicate 60 7)) (refuses 6 2 ++ replicate 60 7)
    ∷ example (take 4 (packed_under all_yes ((0 ∷ 1 ∷ 5 ∷ 9 ∷ 1 ∷ 0 ∷ 1 ∷ []) ++ content_a) (replicate 60 7))) (1 ∷ 1 ∷ 0 ∷ 49 ∷ [])
    -- a missing flag under a table of one value, and under one without a yes; any other number than 1 is no
    ∷ example (under (table_of (only 9)) roomy (put1 ∷ edits (set_flag 3 10) ∷ edits (set_flag 3 9) ∷ edits (clear_flag 3) ∷ [])) (1 ∷ 1 ∷ 0 ∷ (refuses 9 3 ++ (1 ∷ 1 ∷ 0 ∷ 10 ∷ [])))
    ∷ example (under (replicate 14 (replicate 10 0)) roomy (put1 ∷ edits (clear_flag 14) ∷ edits (set_flag 14 10) ∷ [])) (1 ∷ 1 ∷ 0 ∷ refuses 9 14)
    ∷ example (under (table_of (set (replicate 140 1) 46 2)) roomy (put1 ∷ edits (set_flag 5 7) ∷ edits (set_flag 5 6) ∷ [])) (1 ∷ (refuses 9 5 ++ (1 ∷ 0 ∷ [])))
    -- the lister has the table of every value
    ∷ example (take 4 (listing with_a)) (49 ∷ 32 ∷ 49 ∷ 10 ∷ [])
    ∷ []

pub tables_hold : T (every tables)
unfolding without only no_a under with_a content_a loading packed_under tables rows some_yes every_row load_checks load_answer in_force one whole_values required_bits unpack
    unpack_gives presence_from count_present pack_checks entries_given count_from pack_observation pack_order pack signed optional given value_numbers observation_numbers refusal
    judged answer joined answers yes refuses example fresh_example fresh_bytes fresh_observation_example flagless put1 roomy same every first table field_at required scaled_of
    coded_of in_range entry_of code_of entries codes bits number bits_of total read_fields write_fields nibbles bytes padded attachment_nibbles tail_nibbles attachments_of among
    weights weight total_weight all_missing quality_code all_yes flags_fit flag_body with_flag flags_valid char_code short pair_byte code_nibbles byte_of origin_of symbol_of symbols_in
    admitted all_admitted all_marks set_of_source set_of_number deck_set set_number plainly symbol_numbers put_plain is_space
    symbol_nibbles fulls rest space_run write_from write_text spaces text_step state_after symbols_of read_from end_from at_end text_valid read_text widths checksum card_numbers
    card_nibbles packing observation_of field_checks body_valid attachment_checks report_checks judge stands content_of put_in remove_from made read_gives gives outputs_of writes overfull
    over_each all_nibbles call_checks checks step layout effect course calls run claim fresh_observation fresh_checks fresh digits_from field_lines listing
tables_hold = tt

-- ---- plain and original symbols

-- put text of original symbols alone
put_originals : List ℕ → Call
put_originals t = edits (put_text t (replicate (length t) 1))

-- a report of one attachment, 4, with these nibbles
text_report : List ℕ → List ℕ
text_report ns = report_of fresh_codes 1 (length ns / 16 ∷ length ns % 16 ∷ 4 ∷ ns)

optional_symbol : Option Symbol → List ℕ
optional_symbol none = 0 ∷ []
optional_symbol (some x) = 1 ∷ byte_of x ∷ origin_of x ∷ []

-- the first n steps of a reader
handed_out : List Symbol → ℕ → List ℕ
handed_out xs n = joined (map (λ (i : ℕ). optional_symbol (handed xs i)) (up_from 0 n))

refusal_of : Option Refusal → List ℕ
refusal_of none = yes
refusal_of (some r) = refusal r

-- what a fetch of the text A1 gives and writes where the deck's set is n
fetched_in : ℕ → List ℕ
fetched_in n = 1 ∷ 1 ∷ 0 ∷ 2 ∷ 1 ∷ 0 ∷ n ∷ 1 ∷ 0 ∷ 3 ∷ 65 ∷ 49 ∷ 0 ∷ 0 ∷ []

pub symbols : List Example
symbols =
    -- an escape is an original symbol, whatever its byte; in a report, in put and in put text
    example (symbol_numbers (read_text (15 ∷ 4 ∷ 1 ∷ [])) ++ symbol_numbers (read_text (12 ∷ 1 ∷ []))) (65 ∷ 1 ∷ 65 ∷ 0 ∷ [])
    ∷ example (take 1 (judged (judge all_yes (text_report (15 ∷ 4 ∷ 1 ∷ [])))) ++ take 1 (judged (judge all_yes (text_report (15 ∷ 2 ∷ 0 ∷ []))))) (1 ∷ 1 ∷ [])
    ∷ example (answers_of roomy (edits (put 4 (15 ∷ 4 ∷ 1 ∷ [])) ∷ edits (put 4 (15 ∷ 2 ∷ 0 ∷ [])) ∷ put_originals (65 ∷ 32 ∷ []) ∷ fetches (fetch 4 (replicate 6 7)) ∷ []))
    (1 ∷ 1 ∷ 1 ∷ 1 ∷ 0 ∷ 6 ∷ 1 ∷ 1 ∷ 0 ∷ 6 ∷ 15 ∷ 4 ∷ 1 ∷ 15 ∷ 2 ∷ 0 ∷ [])
    -- an original 32 breaks a run, and is not dropped at the end; plain spaces behind it are
    ∷ example (write_text (plain 32 ∷ plain 32 ∷ original 32 ∷ plain 32 ∷ plain 65 ∷ [])) (10 ∷ 10 ∷ 15 ∷ 2 ∷ 0 ∷ 10 ∷ 12 ∷ 1 ∷ [])
    ∷ example (symbol_numbers (read_text (10 ∷ 10 ∷ 15 ∷ 2 ∷ 0 ∷ 10 ∷ 12 ∷ 1 ∷ []))) (32 ∷ 32 ∷ 32 ∷ 32 ∷ 65 ∷ 0 ∷ 0 ∷ 1 ∷ 0 ∷ 0 ∷ [])
    ∷ example (write_text (plain 65 ∷ original 32 ∷ plain 32 ∷ [])) (12 ∷ 1 ∷ 15 ∷ 2 ∷ 0 ∷ [])
    ∷ example (symbol_numbers (read_text (12 ∷ 1 ∷ 15 ∷ 2 ∷ 0 ∷ []))) (65 ∷ 32 ∷ 0 ∷ 1 ∷ [])
    ∷ example (write_text (plainly (replicate 19 32) ++ (original 32 ∷ (plainly (replicate 18 32) ++ (original 255 ∷ [])))))
    (11 ∷ 15 ∷ 10 ∷ 15 ∷ 2 ∷ 0 ∷ 11 ∷ 15 ∷ 15 ∷ 15 ∷ 15 ∷ [])
    -- put text: the report, 13 for unequal lengths, 14, 12, 13 for the buffer
    ∷ example (answers_of (spoilt fresh_bytes) (edits (put_text (97 ∷ []) []) ∷ [])) (refuses 4 0)
    ∷ example (answers_of fresh_bytes (edits (put_text (97 ∷ 65 ∷ []) (2 ∷ [])) ∷ edits (put_text [] (0 ∷ [])) ∷ [])) (refuses 13 0 ++ refuses 13 0)
    ∷ example (answers_of fresh_bytes (put_plain (97 ∷ []) ∷ edits (put_text (65 ∷ []) (2 ∷ [])) ∷ edits (put_text (65 ∷ 66 ∷ []) (0 ∷ 255 ∷ [])) ∷ []))
    (refuses 14 0 ++ (refuses 14 0 ++ refuses 14 0))
    ∷ example (answers_of fresh_bytes (edits (put_text (32 ∷ []) (2 ∷ [])) ∷ edits (put_text (65 ∷ 32 ∷ []) (0 ∷ 2 ∷ [])) ∷ edits (put_text (65 ∷ []) (0 ∷ 0 ∷ [])) ∷ []))
    (refuses 14 0 ++ (refuses 14 0 ++ refuses 13 0))
    ∷ example (answers_of fresh_bytes (edits (put_text (replicate 87 97) (replicate 86 1 ++ one 0)) ∷ edits (put_text (replicate 87 97) (replicate 86 1 ++ one 2)) ∷ []))
    (refuses 14 0 ++ refuses 14 0)
    ∷ example (answers_of fresh_bytes (edits (put_text [] []) ∷ put_plain (replicate 40 32) ∷ put_originals (replicate 86 32) ∷ put_originals (32 ∷ []) ∷ []))
    (refuses 12 0 ++ (refuses 12 0 ++ (refuses 12 0 ++ refuses 13 0)))
    -- fetch text: both outputs, and either too short
    ∷ example (answers_of roomy (edits (put_text (65 ∷ 65 ∷ 32 ∷ []) (0 ∷ 1 ∷ 0 ∷ [])) ∷ fetches (fetch_text (7 ∷ 7 ∷ 7 ∷ []) (9 ∷ 9 ∷ [])) ∷ []))
    (1 ∷ 1 ∷ 0 ∷ 5 ∷ 1 ∷ 1 ∷ 0 ∷ 2 ∷ 1 ∷ 0 ∷ 0 ∷ 1 ∷ 0 ∷ 5 ∷ 65 ∷ 65 ∷ 7 ∷ 0 ∷ 1 ∷ [])
    ∷ example (answers_of text_bytes (fetches (fetch_text (7 ∷ 7 ∷ []) (9 ∷ [])) ∷ fetches (fetch_text (7 ∷ []) (9 ∷ 9 ∷ [])) ∷ []))
    (refuses 13 0 ++ (7 ∷ 7 ∷ 9 ∷ (refuses 13 0 ++ (7 ∷ 9 ∷ 9 ∷ []))))
    ∷ example (answers_of fresh_bytes (fetches (fetch_text (7 ∷ []) (9 ∷ [])) ∷ [])) (refuses 11 0 ++ (7 ∷ 9 ∷ []))
    -- the deck's set, by the source ID from 0 to 25; by the scaled SID of the moment, whose code is one more
    ∷ example (map (λ (n : ℕ). set_number (set_of_source n)) (up_from 0 26))
    (0 ∷ 1 ∷ 1 ∷ 1 ∷ 2 ∷ (replicate 13 1 ++ (2 ∷ 1 ∷ 1 ∷ 1 ∷ 0 ∷ 1 ∷ 1 ∷ 0 ∷ [])))
    ∷ example
    (answers_of text_bytes
    (edits (set_field 10 (scaled (pos 4))) ∷ fetches (fetch_text (7 ∷ 7 ∷ []) (9 ∷ 9 ∷ [])) ∷ edits (set_field 10 (scaled (pos 3))) ∷ fetches (fetch_text (7 ∷ 7 ∷ []) (9 ∷ 9 ∷ []))
    ∷ edits (set_field 10 (scaled (pos 254))) ∷ fetches (fetch_text (7 ∷ 7 ∷ []) (9 ∷ 9 ∷ [])) ∷ edits (clear_field 10) ∷ fetches (fetch_text (7 ∷ 7 ∷ []) (9 ∷ 9 ∷ [])) ∷ []))
    (1 ∷ 0 ∷ (fetched_in 2 ++ (1 ∷ 1 ∷ 0 ∷ 4 ∷ (fetched_in 1 ++ (1 ∷ 1 ∷ 0 ∷ 3 ∷ (fetched_in 0 ++ (1 ∷ 1 ∷ 0 ∷ 254 ∷ fetched_in 0)))))))
    -- an escaped 65 in an EBCDIC deck; original 0, original digit
    ∷ example
    (answers_of roomy (edits (set_field 10 (scaled (pos 1))) ∷ edits (put 4 (15 ∷ 4 ∷ 1 ∷ [])) ∷ fetches (fetch_text (7 ∷ []) (9 ∷ [])) ∷ []))
    (1 ∷ 0 ∷ 1 ∷ 1 ∷ 1 ∷ 0 ∷ 1 ∷ 1 ∷ 0 ∷ 1 ∷ 1 ∷ 0 ∷ 3 ∷ 65 ∷ 1 ∷ [])
    ∷ example (symbol_numbers (read_text (15 ∷ 0 ∷ 0 ∷ 15 ∷ 3 ∷ 1 ∷ []))) (0 ∷ 49 ∷ 1 ∷ 1 ∷ [])
    ∷ example (quantities (effect all_yes text_bytes (fetches (fetch_text (replicate 9 7) (replicate 9 7)))).answer) (3 ∷ 10 ∷ 9 ∷ [])
    -- the reader for display: its refusals; each symbol in its turn, then the end
    ∷ example (refusal_of (opening_refusal all_yes text_bytes) ++ (refusal_of (opening_refusal all_yes fresh_bytes) ++ refusal_of (opening_refusal all_yes (spoilt text_bytes))))
    (1 ∷ (refuses 11 0 ++ refuses 4 0))
    ∷ example (handed_out (displayed all_yes (text_report (12 ∷ 1 ∷ 10 ∷ 10 ∷ 15 ∷ 4 ∷ 1 ∷ []))) 6)
    (1 ∷ 65 ∷ 0 ∷ 1 ∷ 32 ∷ 0 ∷ 1 ∷ 32 ∷ 0 ∷ 1 ∷ 65 ∷ 1 ∷ 0 ∷ 0 ∷ [])
    ∷ example (handed_out (displayed all_yes (text_report (11 ∷ 15 ∷ 10 ∷ 12 ∷ 1 ∷ 15 ∷ 2 ∷ 0 ∷ []))) 22)
    (joined (replicate 19 (1 ∷ 32 ∷ 0 ∷ [])) ++ (1 ∷ 65 ∷ 0 ∷ 1 ∷ 32 ∷ 1 ∷ 0 ∷ []))
    ∷ example (refusal_of (opening_refusal all_yes (text_report bad_text)) ++ handed_out (displayed all_yes (text_report bad_text)) 2) (refuses 6 1 ++ (0 ∷ 0 ∷ []))
    ∷ example (refusal_of (opening_refusal no_a with_a) ++ handed_out (displayed no_a with_a) 1) (refuses 6 1 ++ one 0)
    ∷ example (handed_out (displayed all_yes fresh_bytes) 2 ++ handed_out (displayed all_yes (spoilt text_bytes)) 2) (0 ∷ 0 ∷ 0 ∷ 0 ∷ [])
    ∷ []

pub symbols_hold : T (every symbols)
unfolding put_originals text_report optional_symbol handed_out refusal_of fetched_in symbols opening_refusal displayed handed up_from spoilt one quantity_number quantities without no_a with_a flagless put1
    rows bad_text signed optional given value_numbers
    observation_numbers refusal judged answer joined answers yes refuses example fresh_bytes s_bytes text_bytes report_with report_of fresh_codes answers_of roomy same every first
    table field_at required scaled_of coded_of in_range entry_of code_of entries codes bits number bits_of bit_field total read_fields write_fields nibbles bytes padded
    attachment_nibbles tail_nibbles attachments_of among weights weight total_weight all_missing quality_code all_yes flags_fit flag_body with_flag flags_valid char_code short
    pair_byte code_nibbles byte_of origin_of symbol_of symbols_in admitted all_admitted all_marks set_of_source set_of_number deck_set set_number plainly symbol_numbers put_plain is_space
    symbol_nibbles fulls rest space_run write_from write_text spaces text_step state_after symbols_of read_from end_from at_end text_valid read_text widths checksum card_numbers
    card_nibbles packing observation_of field_checks body_valid attachment_checks report_checks judge stands content_of put_in remove_from made read_gives gives outputs_of writes overfull
    over_each all_nibbles call_checks checks step layout effect course calls run claim
symbols_hold = tt

-- ---- what texts take

-- the last number that is given
last_of : List Given → List ℕ
last_of [] = []
last_of (g ∷ []) = optional g.number
last_of (g ∷ h ∷ more) = last_of (h ∷ more)

last_given : Answer → List ℕ
last_given (Answer.refused r) = []
last_given (Answer.accepted gs) = last_of gs

-- what a put text gives, what a fetch text behind it gives, and AL of id 4, the only attachment, in the report between them
counts_of : List ℕ → List ℕ → List ℕ
counts_of t os =
    let a = effect all_yes wide (edits (put_text t os)) in
    last_given a.answer
    ++ (last_given (effect all_yes a.buffer (fetches (fetch_text (replicate 90 7) (replicate 90 7)))).answer ++ one (bit_field a.buffer 300 8))

-- the refusal of the costliest text of m symbols with outputs of these lengths
costliest : ℕ → ℕ → ℕ → List ℕ
costliest m n k = refusal_of (costliest_refusal m (replicate n 7) (replicate k 9))

ends : List Symbol → ℕ
ends xs = cond (ends_in_space xs) 1 0

fits : Check → ℕ
fits c = cond c.fits 1 0

originals : ℕ → List Symbol
originals n = replicate n (original 0)

pub costs : List Example
costs =
    -- the nibbles of a text, its header not counted: plain spaces at its end are not written, an original 32 is
    example (counts_of (65 ∷ 49 ∷ []) (0 ∷ 0 ∷ [])) (1 ∷ 0 ∷ 3 ∷ 1 ∷ 0 ∷ 3 ∷ 3 ∷ [])
    ∷ example (counts_of (65 ∷ 49 ∷ 32 ∷ 32 ∷ 32 ∷ []) (replicate 5 0)) (1 ∷ 0 ∷ 3 ∷ 1 ∷ 0 ∷ 3 ∷ 3 ∷ [])
    ∷ example (counts_of (65 ∷ 49 ∷ 32 ∷ []) (0 ∷ 0 ∷ 1 ∷ [])) (1 ∷ 0 ∷ 6 ∷ 1 ∷ 0 ∷ 6 ∷ 6 ∷ [])
    ∷ example (counts_of (replicate 20 32 ++ one 66) (replicate 21 0)) (1 ∷ 0 ∷ 6 ∷ 1 ∷ 0 ∷ 6 ∷ 6 ∷ [])
    ∷ example (counts_of (replicate 85 0) (replicate 85 1)) (1 ∷ 0 ∷ 255 ∷ 1 ∷ 0 ∷ 255 ∷ 255 ∷ [])
    ∷ example (counts_of (one 48) (one 0)) (1 ∷ 0 ∷ 1 ∷ 1 ∷ 0 ∷ 1 ∷ 1 ∷ [])
    -- a put that replaces counts the new text alone
    ∷ example (answers_of text_bytes (put_plain (49 ∷ []) ∷ fetches (fetch 4 (7 ∷ 7 ∷ [])) ∷ [])) (1 ∷ 1 ∷ 0 ∷ 1 ∷ 1 ∷ 1 ∷ 0 ∷ 1 ∷ 1 ∷ 7 ∷ [])
    -- what the numbers are; put and fetch give what they gave
    ∷ example (quantities (effect all_yes wide (put_plain (65 ∷ []))).answer) (9 ∷ [])
    ∷ example (answers_of wide (edits (put 4 (12 ∷ 1 ∷ [])) ∷ fetches (fetch 4 (7 ∷ 7 ∷ [])) ∷ [])) (1 ∷ 1 ∷ 1 ∷ 0 ∷ 2 ∷ 12 ∷ 1 ∷ [])
    -- the costliest text: 0 and 85 symbols with as much room, 86, either output too short, 9 before 13
    ∷ example (costliest 0 0 0 ++ (costliest 1 1 1 ++ (costliest 85 85 85 ++ costliest 85 86 300))) (1 ∷ 1 ∷ 1 ∷ 1 ∷ [])
    ∷ example (costliest 86 86 86 ++ (costliest 86 85 85 ++ (costliest 86 0 0 ++ costliest (2 ^ 64 - 1) 300 300))) (refuses 9 0 ++ (refuses 9 0 ++ (refuses 9 0 ++ refuses 9 0)))
    ∷ example (costliest 85 84 85 ++ (costliest 85 85 84 ++ (costliest 1 0 0 ++ (costliest 1 1 0 ++ costliest 1 0 1))))
    (refuses 13 0 ++ (refuses 13 0 ++ (refuses 13 0 ++ (refuses 13 0 ++ refuses 13 0))))
    -- three nibbles for an original symbol, whatever its byte; one or two for a plain one that a text may hold; for a run of spaces no
    -- more than it has
    ∷ example (nibble_count (original 65 ∷ original 32 ∷ original 48 ∷ original 0 ∷ original 255 ∷ []) ∷ []) (15 ∷ [])
    ∷ example (nibble_count (map original (replicate 85 97)) ∷ nibble_count (map original (replicate 86 97)) ∷ nibble_count (plainly (replicate 85 65)) ∷ []) (255 ∷ 258 ∷ 170 ∷ [])
    ∷ example (map (λ (n : ℕ). nibble_count (plainly (replicate n 32 ++ one 48))) (0 ∷ 1 ∷ 2 ∷ 3 ∷ 17 ∷ 18 ∷ 19 ∷ 20 ∷ 21 ∷ [])) (1 ∷ 2 ∷ 3 ∷ 3 ∷ 3 ∷ 3 ∷ 4 ∷ 5 ∷ 5 ∷ [])
    ∷ example (nibble_count [] ∷ nibble_count (plainly (replicate 40 32)) ∷ []) (0 ∷ 0 ∷ [])
    -- rows that end in a plain space, and rows that do not
    ∷ example (ends [] ∷ ends (plain 32 ∷ []) ∷ ends (original 32 ∷ []) ∷ ends (plain 65 ∷ plain 32 ∷ []) ∷ ends (plain 32 ∷ plain 65 ∷ []) ∷ []) (0 ∷ 1 ∷ 0 ∷ 1 ∷ 0 ∷ [])
    -- 12 is for no nibble, and for over 255
    ∷ example (answers_of wide (put_plain (replicate 85 32) ∷ put_originals (replicate 86 65) ∷ put_plain [] ∷ [])) (refuses 12 0 ++ (refuses 12 0 ++ refuses 12 0))
    ∷ example (answers_of wide (put_plain (replicate 84 32 ++ one 48) ∷ put_originals (replicate 85 32) ∷ [])) (1 ∷ 1 ∷ 0 ∷ 11 ∷ 1 ∷ 1 ∷ 0 ∷ 255 ∷ [])
    ∷ example (answers_of wide (put_plain (replicate 255 48) ∷ put_plain (replicate 256 48) ∷ put_plain (replicate 127 65) ∷ put_plain (replicate 128 65) ∷ []))
    (1 ∷ 1 ∷ 0 ∷ 255 ∷ (refuses 12 0 ++ (1 ∷ 1 ∷ 0 ∷ 254 ∷ refuses 12 0)))
    -- other refusals of a short row: the report's, another number of marks, a symbol that no text may hold, no room
    ∷ example (answers_of (spoilt wide) (put_originals (replicate 85 65) ∷ [])) (refuses 4 0)
    ∷ example (answers_of wide (edits (put_text (replicate 85 65) (replicate 84 1)) ∷ edits (put_text (replicate 85 97) (replicate 85 0)) ∷ [])) (refuses 13 0 ++ refuses 14 0)
    ∷ example (answers_of fresh_bytes (put_originals (replicate 85 65) ∷ [])) (refuses 13 0)
    -- 85 original symbols and a plain space; one of 85 that is plain: a letter at the front, a letter at the end, a space within, a space
    -- at the end
    ∷ example (answers_of wide (edits (put_text (replicate 86 32) (replicate 85 1 ++ one 0)) ∷ [])) (1 ∷ 1 ∷ 0 ∷ 255 ∷ [])
    ∷ example
    (nibble_count (plain 65 ∷ originals 84) ∷ nibble_count (originals 84 ++ (plain 65 ∷ [])) ∷ nibble_count (original 0 ∷ plain 32 ∷ originals 83)
    ∷ nibble_count (originals 84 ++ (plain 32 ∷ [])) ∷ [])
    (254 ∷ 254 ∷ 253 ∷ 252 ∷ [])
    -- three nibbles that no text may hold: a plain byte without a short code, a mark over 1
    ∷ example (nibble_count (symbols_in (one 97) (one 0)) ∷ nibble_count (symbols_in (one 65) (one 2)) ∷ []) (3 ∷ 3 ∷ [])
    ∷ example (fits (symbols_check (one 97) (one 0)) ∷ fits (symbols_check (one 65) (one 2)) ∷ fits (symbols_check (one 97) (one 1)) ∷ []) (1 ∷ 1 ∷ 0 ∷ [])
    -- id 4 behind another attachment
    ∷ example (answers_of wide (edits (put 2 (1 ∷ 2 ∷ [])) ∷ put_originals (65 ∷ []) ∷ fetches (fetch_text (one 7) (one 9)) ∷ []))
    (1 ∷ 1 ∷ 1 ∷ 0 ∷ 3 ∷ 1 ∷ 1 ∷ 0 ∷ 1 ∷ 1 ∷ 0 ∷ 0 ∷ 1 ∷ 0 ∷ 3 ∷ 65 ∷ 1 ∷ [])
    ∷ []

pub costs_hold : T (every costs)
unfolding last_of last_given counts_of costliest ends fits originals costs spoilt costliest_checks costliest_refusal ends_in_space put_originals refusal_of one quantity_number quantities
    signed optional given refusal answer joined answers yes refuses example fresh_bytes s_bytes text_bytes answers_of wide same every first
    table field_at required scaled_of coded_of in_range entry_of code_of entries codes bits number bits_of bit_field total read_fields write_fields nibbles bytes padded
    attachment_nibbles tail_nibbles attachments_of among weights weight total_weight all_missing quality_code all_yes flags_fit flag_body with_flag flags_valid char_code short
    pair_byte code_nibbles byte_of origin_of symbol_of symbols_in admitted all_admitted all_marks set_of_source set_of_number deck_set set_number plainly put_plain is_space
    symbol_nibbles fulls rest space_run write_from write_text spaces text_step state_after symbols_of read_from end_from at_end text_valid read_text widths checksum card_numbers
    card_nibbles packing observation_of field_checks body_valid attachment_checks report_checks judge stands content_of put_in remove_from made read_gives gives outputs_of writes overfull
    over_each all_nibbles call_checks checks step layout effect course calls run claim
costs_hold = tt

-- ---- former values

-- the answers of an edit and of a read, on one buffer
beside_read : List ℕ → Editing → Reading → List ℕ
beside_read b e r = answer (effect all_yes b (edits e)).answer ++ answer (effect all_yes b (reads r)).answer

-- a report with id 1: flag 1 is R, flag 14 is S, the others are missing
flagged_bytes : List ℕ
flagged_bytes = (claim all_yes roomy (put1 ∷ edits (set_flag 1 1) ∷ edits (set_flag 14 10) ∷ [])).state

-- each field in turn set to its lowest value
lowest_calls : List Call
lowest_calls = map (λ (k : ℕ). edits (set_field k (scaled_of (field_at k) (coded 1)))) (up_from 1 46)

-- answers that give one value: of each field that of its highest code, or that of code 1
given_each : (Field → ℕ) → List ℕ
given_each code = joined (map (λ (f : Field). 1 ∷ 1 ∷ signed (scaled_of f (coded (code f))).0) table)

-- what the read r answers on b, beside an accepted answer that gives nothing and one that gives what stands in another buffer
read_beside : FlagTable → List ℕ → List ℕ → Reading → List ℕ
read_beside marks b other r =
    answer (as_read marks b r (Answer.accepted [])) ++ answer (as_read marks b r (effect all_yes other (reads r)).answer)

pub former_values : List Example
former_values =
    -- a field: set over missing, over 286, over -999 with the same value, cleared, cleared again
    example
    (answers_of fresh_bytes
    (edits (set_field 31 (scaled (pos 286))) ∷ edits (set_field 31 (scaled (minus 999))) ∷ edits (set_field 31 (scaled (minus 999))) ∷ edits (clear_field 31) ∷ edits (clear_field 31)
    ∷ reads (read_field 31) ∷ []))
    (1 ∷ 0 ∷ 1 ∷ 1 ∷ 0 ∷ 286 ∷ 1 ∷ 1 ∷ 1 ∷ 998 ∷ 1 ∷ 1 ∷ 1 ∷ 998 ∷ 1 ∷ 0 ∷ 1 ∷ 0 ∷ [])
    -- a value of 0 is given as 0, and missing as missing
    ∷ example (answers_of fresh_bytes (edits (set_field 6 (scaled (pos 5))) ∷ edits (set_field 6 (scaled (pos 0))) ∷ edits (set_field 6 (scaled (pos 3599))) ∷ []))
    (1 ∷ 1 ∷ 0 ∷ 0 ∷ 1 ∷ 1 ∷ 0 ∷ 5 ∷ 1 ∷ 1 ∷ 0 ∷ 0 ∷ [])
    ∷ example (answers_of fresh_bytes (edits (set_field 28 (scaled (pos 0))) ∷ edits (clear_field 28) ∷ edits (clear_field 28) ∷ [])) (1 ∷ 0 ∷ 1 ∷ 1 ∷ 0 ∷ 0 ∷ 1 ∷ 0 ∷ [])
    -- -1, which is next to 0; every field from its highest value to its lowest, and once more
    ∷ example (answers_of fresh_bytes (edits (set_field 7 (scaled (minus 1))) ∷ edits (set_field 7 (scaled (minus 900))) ∷ edits (set_field 7 (scaled (pos 900))) ∷ []))
    (1 ∷ 1 ∷ 0 ∷ 0 ∷ 1 ∷ 1 ∷ 1 ∷ 0 ∷ 1 ∷ 1 ∷ 1 ∷ 899 ∷ [])
    ∷ example (answers_of (report_of highest_codes 0 []) (lowest_calls ++ lowest_calls)) (given_each (λ (f : Field). f.highest) ++ given_each (λ (f : Field). 1))
    -- the field that is named, and no other; the last field
    ∷ example
    (answers_of s_bytes
    (edits (set_field 30 (scaled (pos 1))) ∷ edits (set_field 32 (scaled (pos 1))) ∷ edits (clear_field 31) ∷ edits (set_field 46 (scaled (pos 1))) ∷ edits (clear_field 46) ∷ []))
    (1 ∷ 0 ∷ 1 ∷ 0 ∷ 1 ∷ 1 ∷ 0 ∷ 286 ∷ 1 ∷ 0 ∷ 1 ∷ 1 ∷ 0 ∷ 1 ∷ [])
    -- required fields; a refused call gives its refusal alone, and what stood is given later
    ∷ example
    (answers_of fresh_bytes
    (edits (set_field 2 (scaled (pos 2054))) ∷ edits (set_field 3 (scaled (pos 13))) ∷ edits (clear_field 3) ∷ edits (set_field 3 (scaled (pos 12))) ∷ edits (set_field 3 (scaled (pos 1)))
    ∷ edits (set_field 0 (scaled (pos 1))) ∷ edits (clear_field 47) ∷ []))
    (1 ∷ 1 ∷ 0 ∷ 1900 ∷ (refuses 9 3 ++ (refuses 10 3 ++ (1 ∷ 1 ∷ 0 ∷ 1 ∷ 1 ∷ 1 ∷ 0 ∷ 12 ∷ (refuses 8 0 ++ refuses 8 0)))))
    -- a flag: set over missing, over R, over S with the same value, cleared, cleared again
    ∷ example
    (answers_of roomy
    (put1 ∷ edits (set_flag 1 1) ∷ edits (set_flag 1 10) ∷ edits (set_flag 1 10) ∷ edits (clear_flag 1) ∷ edits (clear_flag 1) ∷ reads (read_flag 1) ∷ []))
    (1 ∷ 1 ∷ 0 ∷ 1 ∷ 1 ∷ 0 ∷ 1 ∷ 1 ∷ 1 ∷ 0 ∷ 10 ∷ 1 ∷ 1 ∷ 0 ∷ 10 ∷ 1 ∷ 0 ∷ 1 ∷ 0 ∷ [])
    -- id 1 behind another attachment, and before it was dropped
    ∷ example
    (answers_of roomy
    (edits (put 9 (7 ∷ 3 ∷ [])) ∷ put1 ∷ edits (set_flag 1 2) ∷ edits (set_flag 7 3) ∷ edits (set_flag 1 4) ∷ edits (clear_flag 7) ∷ edits (remove 9) ∷ edits (clear_flag 1) ∷ []))
    (1 ∷ 1 ∷ 1 ∷ 0 ∷ 1 ∷ 0 ∷ 1 ∷ 1 ∷ 0 ∷ 2 ∷ 1 ∷ 1 ∷ 0 ∷ 3 ∷ 1 ∷ 1 ∷ 1 ∷ 0 ∷ 4 ∷ [])
    -- the flag that is named; refused calls
    ∷ example
    (answers_of flagged_bytes
    (edits (set_flag 2 7) ∷ edits (set_flag 13 7) ∷ edits (set_flag 14 7) ∷ edits (set_flag 1 11) ∷ edits (set_flag 15 1) ∷ edits (clear_flag 0) ∷ edits (clear_flag 1) ∷ []))
    (1 ∷ 0 ∷ 1 ∷ 0 ∷ 1 ∷ 1 ∷ 0 ∷ 10 ∷ (refuses 9 1 ++ (refuses 8 0 ++ (refuses 8 0 ++ (1 ∷ 1 ∷ 0 ∷ 1 ∷ [])))))
    ∷ example (answers_of fresh_bytes (edits (set_flag 1 1) ∷ edits (clear_flag 1) ∷ [])) (refuses 11 0 ++ refuses 11 0)
    ∷ example (under no_a flagged_bytes (edits (set_flag 1 2) ∷ edits (set_flag 1 3) ∷ edits (clear_flag 1) ∷ [])) (refuses 9 1 ++ (1 ∷ 1 ∷ 0 ∷ 1 ∷ 1 ∷ 1 ∷ 0 ∷ 3 ∷ []))
    -- a refused report
    ∷ example (answers_of (spoilt s_bytes) (edits (set_field 31 (scaled (pos 1))) ∷ edits (clear_field 31) ∷ edits (set_flag 1 1) ∷ edits (clear_flag 1) ∷ []))
    (joined (replicate 4 (refuses 4 0)))
    -- what the numbers are
    ∷ example
    (quantities (effect all_yes s_bytes (edits (set_field 31 (scaled (pos 1))))).answer ++ (quantities (effect all_yes s_bytes (edits (clear_field 31))).answer
    ++ (quantities (effect all_yes flagged_bytes (edits (set_flag 1 2))).answer ++ quantities (effect all_yes flagged_bytes (edits (clear_flag 1))).answer)))
    (1 ∷ 1 ∷ 2 ∷ 2 ∷ [])
    ∷ example
    (quantities (effect all_yes fresh_bytes (edits (set_field 31 (scaled (pos 1))))).answer ++ (quantities (effect all_yes fresh_bytes (edits (clear_field 31))).answer
    ++ (quantities (effect all_yes flagged_bytes (edits (set_flag 2 2))).answer ++ quantities (effect all_yes flagged_bytes (edits (clear_flag 2))).answer)))
    (1 ∷ 1 ∷ 2 ∷ 2 ∷ [])
    -- as the read answers on the same buffer
    ∷ example (beside_read s_bytes (set_field 31 (scaled (pos 1))) (read_field 31) ++ beside_read s_bytes (clear_field 31) (read_field 31)) (joined (replicate 4 (1 ∷ 1 ∷ 0 ∷ 286 ∷ [])))
    ∷ example (beside_read fresh_bytes (set_field 31 (scaled (pos 1))) (read_field 31) ++ beside_read fresh_bytes (clear_field 31) (read_field 31)) (joined (replicate 4 (1 ∷ 0 ∷ [])))
    ∷ example (beside_read flagged_bytes (set_flag 14 1) (read_flag 14) ++ beside_read flagged_bytes (clear_flag 14) (read_flag 14)) (joined (replicate 4 (1 ∷ 1 ∷ 0 ∷ 10 ∷ [])))
    ∷ example (beside_read flagged_bytes (set_flag 7 1) (read_flag 7) ++ beside_read flagged_bytes (clear_flag 7) (read_flag 7)) (joined (replicate 4 (1 ∷ 0 ∷ [])))
    -- what is asked of an accepted answer: that of the read, whatever the answer gives; under the table, on the report, of the number
    ∷ example (read_beside all_yes s_bytes fresh_bytes (read_field 31) ++ read_beside all_yes fresh_bytes s_bytes (read_field 31)) (1 ∷ 1 ∷ 0 ∷ 286 ∷ 1 ∷ 1 ∷ 0 ∷ 286 ∷ 1 ∷ 0 ∷ 1 ∷ 0 ∷ [])
    ∷ example (read_beside all_yes flagged_bytes with_a (read_flag 14) ++ (read_beside all_yes flagged_bytes with_a (read_flag 1) ++ read_beside all_yes with_a flagged_bytes (read_flag 14)))
    (1 ∷ 1 ∷ 0 ∷ 10 ∷ 1 ∷ 1 ∷ 0 ∷ 10 ∷ 1 ∷ 1 ∷ 0 ∷ 1 ∷ 1 ∷ 1 ∷ 0 ∷ 1 ∷ 1 ∷ 0 ∷ 1 ∷ 0 ∷ [])
    ∷ example (read_beside no_a with_a with_a (read_flag 1) ++ read_beside all_yes (spoilt s_bytes) s_bytes (read_field 31)) (refuses 6 1 ++ (refuses 6 1 ++ (refuses 4 0 ++ refuses 4 0)))
    ∷ example (answer (as_read all_yes s_bytes (read_flag 1) (Answer.accepted [])) ++ answer (as_read all_yes s_bytes (read_field 47) (Answer.accepted []))) (refuses 11 0 ++ refuses 8 0)
    -- and nothing of a refusal
    ∷ example (answer (as_read all_yes s_bytes (read_field 31) (Answer.refused (record { number = 9; place = 31 })))) (refuses 9 31)
    -- put, put text and drop give no former content
    ∷ example
    (answers_of wide (edits (put 9 (1 ∷ 2 ∷ [])) ∷ edits (put 9 (3 ∷ [])) ∷ put_plain (65 ∷ []) ∷ put_plain (49 ∷ []) ∷ edits (remove 4) ∷ edits (remove 9) ∷ []))
    (1 ∷ 1 ∷ 1 ∷ 1 ∷ 0 ∷ 2 ∷ 1 ∷ 1 ∷ 0 ∷ 1 ∷ 1 ∷ 1 ∷ [])
    ∷ []

pub former_values_hold : T (every former_values)
unfolding beside_read flagged_bytes lowest_calls given_each read_beside former_values no_a with_a under without rows spoilt up_from quantity_number quantities flagless put1
    report_with report_of highest_codes
    signed optional given refusal answer joined answers yes refuses example fresh_bytes s_bytes answers_of roomy wide same every first
    table field_at required scaled_of coded_of in_range entry_of code_of entries codes bits number bits_of bit_field total read_fields write_fields nibbles bytes padded
    attachment_nibbles tail_nibbles attachments_of among weights weight total_weight all_missing quality_code all_yes flags_fit flag_body with_flag flags_valid char_code short
    pair_byte code_nibbles byte_of origin_of symbol_of symbols_in admitted all_admitted all_marks set_of_source set_of_number deck_set set_number plainly put_plain is_space
    symbol_nibbles fulls rest space_run write_from write_text spaces text_step state_after symbols_of read_from end_from at_end text_valid read_text widths checksum card_numbers
    card_nibbles packing observation_of field_checks body_valid attachment_checks report_checks judge stands content_of put_in remove_from made read_gives gives outputs_of writes overfull
    over_each all_nibbles call_checks checks step layout effect course calls run claim
former_values_hold = tt

-- ---- indicators that have lost their data

-- a field's lowest value
lowest : ℕ → Scaled
lowest k = scaled_of (field_at k) (coded 1)

-- an observation with these fields at their lowest values, and a nibble under each of these ids
with_lowest : List ℕ → Observation → Observation
with_lowest [] s = s
with_lowest (k ∷ ks) s = with_lowest ks (with_value s k (some (lowest k)))

sheet : List ℕ → List ℕ → Observation
sheet ids ks = with_lowest ks (observation 0 (replicate 46 none) (map (λ (i : ℕ). attachment i (one 1)) ids))

-- the fields that are present
present_from : ℕ → List (Option Scaled) → List ℕ
present_from k [] = []
present_from k (e ∷ es) = cond (is_present e) (one k) [] ++ present_from (suc k) es

present_in : Observation → List ℕ
present_in s = present_from 1 s.values

-- those that are present after clear k with its indicators, where these were before
present_after : ℕ → List ℕ → List ℕ
present_after k ks = present_in (made (sheet [] ks) (clear_with_indicators k))

-- the fresh report with these fields at their lowest values as well, in a buffer with room
stated : List ℕ → List ℕ
stated ks = (claim all_yes roomy (map (λ (k : ℕ). edits (set_field k (lowest k))) ks)).state

wrote : Wrote → List ℕ
wrote w = answer w.answer ++ w.out

-- what is found in a report, to an output of seven bytes
finds : List ℕ → List ℕ
finds b = wrote (find all_yes b (replicate 7 9))

-- the answer that gives so many, and the output of seven bytes behind it
tells : List ℕ → List ℕ
tells is = 1 ∷ 1 ∷ 0 ∷ length is ∷ (is ++ replicate (7 - length is) 9)

all_six : List ℕ
all_six = 17 ∷ 19 ∷ 21 ∷ 27 ∷ 32 ∷ 36 ∷ []

clearing : ℕ → Call
clearing k = edits (clear_with_indicators k)

put5 : Call
put5 = edits (put 5 (one 1))

-- the field that a call clears, without its indicators
clear_name : Call → ℕ
clear_name (reads r) = 0
clear_name (edits (set_field k v)) = 0
clear_name (edits (clear_field k)) = k
clear_name (edits (clear_with_indicators k)) = 0
clear_name (edits (set_flag j v)) = 0
clear_name (edits (clear_flag j)) = 0
clear_name (edits (put i ns)) = 0
clear_name (edits (remove i)) = 0
clear_name (edits (put_text t os)) = 0
clear_name (fetches f) = 0

-- the buffer after it, and the one after the clears for which it stands
beside_clears : List ℕ → ℕ → Example
beside_clears b k = example (effect all_yes b (clearing k)).buffer (calls all_yes b (clear_calls b k)).state

pub lost_data : List Example
lost_data =
    -- which indicators rest on each field from 0 to 47
    example (joined (map (λ (k : ℕ). length (resting_on k) ∷ resting_on k) (up_from 0 48)))
    (replicate 18 0 ++ (1 ∷ 17 ∷ 0 ∷ 1 ∷ 19 ∷ 0 ∷ 1 ∷ 21 ∷ (replicate 5 0 ++ (1 ∷ 27 ∷ 1 ∷ 27 ∷ 1 ∷ 27 ∷ 2 ∷ 27 ∷ 32 ∷ (replicate 5 0 ++ (1 ∷ 36 ∷ replicate 10 0))))))
    -- and on which fields each rests
    ∷ example (joined (map (λ (i : ℕ). length (data_of i) ∷ data_of i) (up_from 0 48)))
    (replicate 17 0 ++ (1 ∷ 18 ∷ 0 ∷ 1 ∷ 20 ∷ 0 ∷ 1 ∷ 22 ∷ (replicate 5 0 ++ (4 ∷ 28 ∷ 29 ∷ 30 ∷ 31 ∷ (replicate 4 0 ++ (1 ∷ 31 ∷ (replicate 3 0 ++ (1 ∷ 37 ∷ replicate 11 0))))))))
    -- found: none present, all six, each alone, each beside its data
    ∷ example (found (sheet [] []) ++ found (sheet [] all_six)) all_six
    ∷ example (joined (map (λ (i : ℕ). found (sheet [] (one i))) all_six)) all_six
    ∷ example
    (found (sheet [] (17 ∷ 18 ∷ [])) ++ (found (sheet [] (19 ∷ 20 ∷ [])) ++ (found (sheet [] (21 ∷ 22 ∷ [])) ++ (found (sheet [] (32 ∷ 31 ∷ [])) ++ found (sheet [] (36 ∷ 37 ∷ []))))))
    []
    -- TI beside any one of its four; BI beside the other three; data that stand without an indicator
    ∷ example (joined (map (λ (k : ℕ). found (sheet [] (27 ∷ k ∷ []))) (up_from 28 4))) []
    ∷ example (found (sheet [] (28 ∷ 29 ∷ 30 ∷ 32 ∷ []))) (one 32)
    ∷ example (found (sheet [] (18 ∷ 20 ∷ 22 ∷ 28 ∷ 29 ∷ 30 ∷ 31 ∷ 37 ∷ []))) []
    -- neighbours that are no data: DI beside WI and W, HI beside CL and CM
    ∷ example (found (sheet [] (17 ∷ 19 ∷ 20 ∷ 35 ∷ 36 ∷ 38 ∷ []))) (17 ∷ 36 ∷ [])
    -- attachment 5 hides them wherever it stands, and no other id does
    ∷ example (found (sheet (one 5) all_six) ++ (found (sheet (9 ∷ 5 ∷ []) all_six) ++ (found (sheet (5 ∷ 9 ∷ []) all_six) ++ found (sheet (2 ∷ 9 ∷ 5 ∷ 6 ∷ []) all_six)))) []
    ∷ example (joined (map (λ (i : ℕ). found (sheet (one i) (one 27))) (up_from 1 4 ++ up_from 6 10))) (replicate 14 27)
    -- the call: its number, its bytes and the rest of the output; with attachment 5 an empty output will do
    ∷ example (finds fresh_bytes ++ (finds (stated all_six) ++ finds (stated (17 ∷ 18 ∷ 36 ∷ [])))) (tells [] ++ (tells all_six ++ tells (one 36)))
    ∷ example (wrote (find all_yes (claim all_yes (stated all_six) (put5 ∷ [])).state [])) (1 ∷ 1 ∷ 0 ∷ 0 ∷ [])
    ∷ example (quantities (find all_yes (stated all_six) (replicate 6 9)).answer) (one 3)
    -- 13: one byte short, just enough, none needed; the report's refusals come first, and no byte is written
    ∷ example (wrote (find all_yes (stated all_six) (replicate 5 9)) ++ wrote (find all_yes (stated all_six) (replicate 6 9))) (refuses 13 0 ++ (replicate 5 9 ++ (1 ∷ 1 ∷ 0 ∷ 6 ∷ all_six)))
    ∷ example (wrote (find all_yes (stated (17 ∷ 36 ∷ [])) (9 ∷ 9 ∷ [])) ++ wrote (find all_yes (stated (17 ∷ 36 ∷ [])) (one 9)))
    (1 ∷ 1 ∷ 0 ∷ 2 ∷ 17 ∷ 36 ∷ (refuses 13 0 ++ one 9))
    ∷ example (wrote (find all_yes (stated (one 36)) []) ++ wrote (find all_yes fresh_bytes [])) (refuses 13 0 ++ (1 ∷ 1 ∷ 0 ∷ 0 ∷ []))
    ∷ example (wrote (find all_yes (spoilt (stated all_six)) (one 9)) ++ wrote (find all_yes [] (one 9))) (refuses 4 0 ++ (9 ∷ (refuses 1 0 ++ one 9)))
    ∷ example (wrote (find no_a with_a (one 9))) (refuses 6 1 ++ one 9)
    -- rows that ascend, and rows that do not
    ∷ example
    (map (λ (xs : List ℕ). cond (ascending_from 0 xs) 1 0) ([] ∷ one 1 ∷ one 0 ∷ (1 ∷ 2 ∷ 9 ∷ []) ∷ (1 ∷ 1 ∷ []) ∷ (1 ∷ 3 ∷ 2 ∷ []) ∷ (2 ∷ 1 ∷ []) ∷ (9 ∷ 5 ∷ []) ∷ []))
    (1 ∷ 1 ∷ 0 ∷ 1 ∷ 0 ∷ 0 ∷ 0 ∷ 0 ∷ [])
    -- clearing a field takes its indicator along; D that is missing already takes DI; WI, lost before, stays
    ∷ example (present_after 18 (17 ∷ 18 ∷ 19 ∷ 20 ∷ []) ++ present_after 18 (17 ∷ 19 ∷ [])) (19 ∷ 20 ∷ 19 ∷ [])
    ∷ example
    (present_after 20 (17 ∷ 18 ∷ 19 ∷ 20 ∷ []) ++ (present_after 22 (21 ∷ 22 ∷ 23 ∷ []) ++ present_after 37 (35 ∷ 36 ∷ 37 ∷ 38 ∷ [])))
    (17 ∷ 18 ∷ 23 ∷ 35 ∷ 38 ∷ [])
    -- S takes BI, and TI only where A, WB and DPT are missing too
    ∷ example (present_after 31 (27 ∷ 31 ∷ 32 ∷ [])) []
    ∷ example (joined (map (λ (k : ℕ). present_after 31 (27 ∷ k ∷ 31 ∷ 32 ∷ [])) (up_from 28 3))) (27 ∷ 28 ∷ 27 ∷ 29 ∷ 27 ∷ 30 ∷ [])
    -- A, WB and DPT take TI as the last of the four, and never BI
    ∷ example (joined (map (λ (k : ℕ). present_after k (27 ∷ k ∷ 32 ∷ [])) (up_from 28 3))) (32 ∷ 32 ∷ 32 ∷ [])
    ∷ example (joined (map (λ (k : ℕ). present_after k (27 ∷ k ∷ 31 ∷ 32 ∷ [])) (up_from 28 3))) (joined (replicate 3 (27 ∷ 31 ∷ 32 ∷ [])))
    -- an indicator is cleared alone, and so is a field on which nothing rests
    ∷ example (joined (map (λ (k : ℕ). present_after k (17 ∷ 18 ∷ 27 ∷ 32 ∷ [])) (17 ∷ 27 ∷ 32 ∷ 23 ∷ [])))
    (18 ∷ 27 ∷ 32 ∷ 17 ∷ 18 ∷ 32 ∷ 17 ∷ 18 ∷ 27 ∷ 17 ∷ 18 ∷ 27 ∷ 32 ∷ [])
    -- also where attachment 5 stands: S takes TI and BI, and TI stays beside A; the attachment stays
    ∷ example (present_in (made (sheet (one 5) (27 ∷ 31 ∷ 32 ∷ [])) (clear_with_indicators 31))) []
    ∷ example (present_in (made (sheet (one 5) (27 ∷ 28 ∷ 31 ∷ 32 ∷ [])) (clear_with_indicators 31))) (27 ∷ 28 ∷ [])
    ∷ example (tail_nibbles (made (sheet (9 ∷ 5 ∷ []) (one 31)) (clear_with_indicators 31)).attachments) (0 ∷ 1 ∷ 9 ∷ 1 ∷ 0 ∷ 1 ∷ 5 ∷ 1 ∷ [])
    -- found afterwards: what was lost before, and nothing that rests on the field
    ∷ example
    (found (made (sheet [] (17 ∷ 18 ∷ 19 ∷ [])) (clear_with_indicators 18)) ++ (found (made (sheet [] (27 ∷ 28 ∷ 32 ∷ [])) (clear_with_indicators 28))
    ++ found (made (sheet [] all_six) (clear_with_indicators 31))))
    (19 ∷ 32 ∷ 17 ∷ 19 ∷ 21 ∷ 36 ∷ [])
    -- the buffer: RPTIN stays, and so does the room; in a list, where attachment 5 has stood meanwhile
    ∷ example (effect all_yes (2 ∷ 1 ∷ drop 2 (stated (17 ∷ 18 ∷ []))) (clearing 18)).buffer (2 ∷ 1 ∷ drop 2 roomy)
    ∷ example (claim all_yes (stated (17 ∷ 18 ∷ [])) (put5 ∷ clearing 18 ∷ edits (remove 5) ∷ [])).state (fresh_bytes ++ (0 ∷ 0 ∷ replicate 20 5))
    -- the former value of the field that is named, and not that of an indicator
    ∷ example
    (answers_of fresh_bytes
    (edits (set_field 17 (scaled (pos 3))) ∷ edits (set_field 18 (scaled (pos 240))) ∷ clearing 18 ∷ reads (read_field 17) ∷ edits (set_field 17 (scaled (pos 3))) ∷ clearing 18
    ∷ reads (read_field 17) ∷ []))
    (1 ∷ 0 ∷ 1 ∷ 0 ∷ 1 ∷ 1 ∷ 0 ∷ 240 ∷ 1 ∷ 0 ∷ 1 ∷ 0 ∷ 1 ∷ 0 ∷ 1 ∷ 0 ∷ [])
    -- the bytes on the way: DI 3 and D 240 set; D cleared without its indicator
    ∷ example (claim all_yes fresh_bytes (edits (set_field 17 (scaled (pos 3))) ∷ edits (set_field 18 (scaled (pos 240))) ∷ [])).state
    (take 13 fresh_bytes ++ (0x08 ∷ 0xF0 ∷ (replicate 21 0 ++ (0xE5 ∷ 0x00 ∷ []))))
    ∷ example (claim all_yes fresh_bytes (edits (set_field 17 (scaled (pos 3))) ∷ edits (set_field 18 (scaled (pos 240))) ∷ edits (clear_field 18) ∷ [])).state
    (take 13 fresh_bytes ++ (0x08 ∷ (replicate 22 0 ++ (0xF4 ∷ 0x00 ∷ []))))
    -- TI 1, A 198, S 286, BI 2: S takes BI, and A then TI
    ∷ example
    (answers_of fresh_bytes
    (edits (set_field 27 (scaled (pos 1))) ∷ edits (set_field 28 (scaled (pos 198))) ∷ edits (set_field 31 (scaled (pos 286))) ∷ edits (set_field 32 (scaled (pos 2)))
    ∷ clearing 31 ∷ reads (read_field 32) ∷ reads (read_field 27) ∷ clearing 28 ∷ reads (read_field 27) ∷ []))
    (1 ∷ 0 ∷ 1 ∷ 0 ∷ 1 ∷ 0 ∷ 1 ∷ 0 ∷ 1 ∷ 1 ∷ 0 ∷ 286 ∷ 1 ∷ 0 ∷ 1 ∷ 1 ∷ 0 ∷ 1 ∷ 1 ∷ 1 ∷ 0 ∷ 198 ∷ 1 ∷ 0 ∷ [])
    ∷ example (answers_of fresh_bytes (edits (set_field 32 (scaled (pos 2))) ∷ clearing 32 ∷ clearing 32 ∷ edits (set_field 31 (scaled (pos 0))) ∷ clearing 31 ∷ []))
    (1 ∷ 0 ∷ 1 ∷ 1 ∷ 0 ∷ 2 ∷ 1 ∷ 0 ∷ 1 ∷ 0 ∷ 1 ∷ 1 ∷ 0 ∷ 0 ∷ [])
    ∷ example (quantities (effect all_yes s_bytes (clearing 31)).answer ++ quantities (effect all_yes fresh_bytes (clearing 31)).answer) (1 ∷ 1 ∷ [])
    -- DAY, and the last field
    ∷ example (answers_of (stated (4 ∷ 46 ∷ [])) (clearing 4 ∷ clearing 46 ∷ [])) (1 ∷ 1 ∷ 0 ∷ 1 ∷ 1 ∷ 1 ∷ 0 ∷ 0 ∷ [])
    -- the refusals of clear field: 8, 10; the report first
    ∷ example (answers_of fresh_bytes (map clearing (0 ∷ 47 ∷ 260 ∷ 1 ∷ 2 ∷ 3 ∷ 6 ∷ 7 ∷ [])))
    (joined (replicate 3 (refuses 8 0)) ++ (refuses 10 1 ++ (refuses 10 2 ++ (refuses 10 3 ++ (refuses 10 6 ++ refuses 10 7)))))
    ∷ example (answers_of (spoilt s_bytes) (clearing 18 ∷ clearing 0 ∷ clearing 3 ∷ [])) (joined (replicate 3 (refuses 4 0)))
    ∷ example (under no_a with_a (clearing 18 ∷ [])) (refuses 6 1)
    -- the clears for which it stands, and what they leave
    ∷ example (clears_of (sheet [] (27 ∷ 31 ∷ [])) 31 ++ (clears_of (sheet [] (28 ∷ 31 ∷ [])) 31 ++ clears_of (sheet [] []) 30)) (31 ∷ 27 ∷ 32 ∷ 31 ∷ 32 ∷ 30 ∷ 27 ∷ [])
    ∷ example (joined (map (clears_of (sheet [] [])) all_six)) all_six
    ∷ example (map clear_name (clear_calls s_bytes 31) ++ map clear_name (clear_calls (stated (28 ∷ 31 ∷ [])) 31)) (31 ∷ 27 ∷ 32 ∷ 31 ∷ 32 ∷ [])
    ∷ beside_clears (stated (27 ∷ 28 ∷ 31 ∷ 32 ∷ [])) 31
    ∷ beside_clears (stated (17 ∷ 19 ∷ 36 ∷ 37 ∷ [])) 37
    ∷ beside_clears s_bytes 3
    ∷ beside_clears (spoilt s_bytes) 18
    ∷ []

pub indicators_hold : T (every lost_data)
unfolding lowest with_lowest sheet present_from present_in present_after stated wrote finds tells all_six clearing put5 clear_name beside_clears lost_data
    indicators fields_where basis_in data_of resting_on data_missing lost_on clears_of clear_each lost_indicators found
    find_checks find ascending_from no_a with_a under without rows spoilt up_from one quantity_number quantities flagless put1 report_with report_of highest_codes
    signed optional given refusal answer joined answers yes refuses example fresh_bytes s_bytes answers_of roomy wide same every first
    table field_at required scaled_of coded_of in_range entry_of code_of entries codes bits number bits_of bit_field total read_fields write_fields nibbles bytes padded
    attachment_nibbles tail_nibbles attachments_of among weights weight total_weight all_missing quality_code all_yes flags_fit flag_body with_flag flags_valid char_code short
    pair_byte code_nibbles byte_of origin_of symbol_of symbols_in admitted all_admitted all_marks set_of_source set_of_number deck_set set_number plainly put_plain is_space
    symbol_nibbles fulls rest space_run write_from write_text spaces text_step state_after symbols_of read_from end_from at_end text_valid read_text widths checksum card_numbers
    card_nibbles packing observation_of field_checks body_valid attachment_checks report_checks judge stands content_of put_in remove_from made read_gives gives outputs_of writes overfull
    over_each all_nibbles call_checks checks step layout effect course calls run claim
indicators_hold = tt
