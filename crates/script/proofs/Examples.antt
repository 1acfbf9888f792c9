-- A script of the twelve calls and a log of each kind of answer, byte by byte, as one computed fact.
-- Assumes nothing.
use Prim.Native.Nat.{ℕ}
use mathlib.Core.List.{List, [], ◌∷◌, ◌++◌}
use mathlib.Core.Option.{none, some}
use lib.ListN.{length, take}
use lib.Dec.{T}
use lib.IntN.{pos, negsuc}
use Rattle.format.specs.Calls.{Call, reads, edits, fetches, read_field, set_field, clear_field, clear_with_indicators, read_flag, set_flag, clear_flag, put, fetch, remove, put_text, fetch_text}
use Rattle.format.specs.Calls.{outputs_of, Quantity, given, accepted}
use Rattle.format.specs.Buffer.{zeros, shown}
use Rattle.format.specs.Reply.{refusal}
use Rattle.format.proofs.Test.{Example, same, every}
use Rattle.script.specs.Script.{number_from, number_of, bytes_of, bytes8, kinds, within, entry_at, joined, record_size, next_in, list_of, script_entry, script_of, row_of, head_of, record_of, records}
use Rattle.script.specs.Labels.{quantity_label}
use Rattle.numbers.specs.Words.{signed, unsigned}

calls : List Call
calls =
    reads (read_field 7)
    ∷ edits (set_field 7 (record { 0 = negsuc 1 }))
    ∷ edits (clear_field 10)
    ∷ reads (read_flag 2)
    ∷ edits (set_flag 2 300)
    ∷ edits (clear_flag 14)
    ∷ edits (put 5 (1 ∷ 2 ∷ 3 ∷ []))
    ∷ fetches (fetch 5 (9 ∷ 8 ∷ []))
    ∷ edits (remove 15)
    ∷ edits (put_text (65 ∷ 32 ∷ []) (1 ∷ 0 ∷ 9 ∷ []))
    ∷ fetches (fetch_text (6 ∷ []) (4 ∷ 5 ∷ []))
    ∷ edits (clear_with_indicators 258)
    ∷ []

script : List ℕ
script =
    (1 ∷ 0 ∷ 0 ∷ 0 ∷ 0 ∷ 0 ∷ 0 ∷ 0 ∷ 7 ∷ [])
    ++ (2 ∷ 0 ∷ 0 ∷ 0 ∷ 0 ∷ 0 ∷ 0 ∷ 0 ∷ 7 ∷ 255 ∷ 255 ∷ 255 ∷ 255 ∷ 255 ∷ 255 ∷ 255 ∷ 254 ∷ [])
    ++ (3 ∷ 0 ∷ 0 ∷ 0 ∷ 0 ∷ 0 ∷ 0 ∷ 0 ∷ 10 ∷ [])
    ++ (4 ∷ 0 ∷ 0 ∷ 0 ∷ 0 ∷ 0 ∷ 0 ∷ 0 ∷ 2 ∷ [])
    ++ (5 ∷ 0 ∷ 0 ∷ 0 ∷ 0 ∷ 0 ∷ 0 ∷ 0 ∷ 2 ∷ 0 ∷ 0 ∷ 0 ∷ 0 ∷ 0 ∷ 0 ∷ 1 ∷ 44 ∷ [])
    ++ (6 ∷ 0 ∷ 0 ∷ 0 ∷ 0 ∷ 0 ∷ 0 ∷ 0 ∷ 14 ∷ [])
    ++ (7 ∷ 0 ∷ 0 ∷ 0 ∷ 0 ∷ 0 ∷ 0 ∷ 0 ∷ 5 ∷ 0 ∷ 0 ∷ 0 ∷ 0 ∷ 0 ∷ 0 ∷ 0 ∷ 3 ∷ 1 ∷ 2 ∷ 3 ∷ [])
    ++ (8 ∷ 0 ∷ 0 ∷ 0 ∷ 0 ∷ 0 ∷ 0 ∷ 0 ∷ 5 ∷ 0 ∷ 0 ∷ 0 ∷ 0 ∷ 0 ∷ 0 ∷ 0 ∷ 2 ∷ 9 ∷ 8 ∷ [])
    ++ (9 ∷ 0 ∷ 0 ∷ 0 ∷ 0 ∷ 0 ∷ 0 ∷ 0 ∷ 15 ∷ [])
    ++ (10 ∷ 0 ∷ 0 ∷ 0 ∷ 0 ∷ 0 ∷ 0 ∷ 0 ∷ 2 ∷ 65 ∷ 32 ∷ 0 ∷ 0 ∷ 0 ∷ 0 ∷ 0 ∷ 0 ∷ 0 ∷ 3 ∷ 1 ∷ 0 ∷ 9 ∷ [])
    ++ (11 ∷ 0 ∷ 0 ∷ 0 ∷ 0 ∷ 0 ∷ 0 ∷ 0 ∷ 1 ∷ 6 ∷ 0 ∷ 0 ∷ 0 ∷ 0 ∷ 0 ∷ 0 ∷ 0 ∷ 2 ∷ 4 ∷ 5 ∷ [])
    ++ (12 ∷ 0 ∷ 0 ∷ 0 ∷ 0 ∷ 0 ∷ 0 ∷ 1 ∷ 2 ∷ [])

-- the list of a script, where the log has so much room, written again
again : ℕ → List ℕ → List ℕ
again room s = script_of (list_of (length s) room s)

example : List ℕ → List ℕ → Example
example got want = record { got = got; want = want }

examples : List Example
examples =
    example (script_of calls) script
    ∷ example (again 449 script) script
    -- a log that is too short for the last record, for the one before it, and for the first
    ∷ example (again 448 script) (take 160 script)
    ∷ example (again 411 script) (take 140 script)
    ∷ example (again 36 script) []
    -- an entry that is cut off; unknown kinds; bytes behind
    ∷ example (again 449 (take 168 script)) (take 160 script)
    ∷ example (again 449 (take 159 script)) (take 140 script)
    ∷ example (again 449 (take 149 script)) (take 140 script)
    ∷ example (again 449 (take 157 script)) (take 140 script)
    ∷ example (again 449 (0 ∷ script)) []
    ∷ example (again 449 (13 ∷ script)) []
    ∷ example (again 700 (script ++ (0 ∷ script))) script
    ∷ example (again 898 (script ++ script)) (script ++ script)
    -- a log: what is refused, and what is given: nothing, a value, a negative one, a missing flag, a missing value, a flag, three numbers
    ∷ example (records (shown (refusal 13 258) ((9 ∷ []) ∷ (8 ∷ []) ∷ []) ∷ shown (accepted []) [] ∷ []))
    ((0 ∷ 13 ∷ 0 ∷ 0 ∷ 0 ∷ 0 ∷ 0 ∷ 0 ∷ 1 ∷ 2 ∷ zeros 27) ++ (9 ∷ 8 ∷ 1 ∷ zeros 36))
    ∷ example (record_of (shown (accepted (given Quantity.value (some (pos 300)) ∷ [])) []))
    ((1 ∷ zeros 9) ++ (1 ∷ 0 ∷ 0 ∷ 0 ∷ 0 ∷ 0 ∷ 0 ∷ 1 ∷ 44 ∷ zeros 18))
    ∷ example (record_of (shown (accepted (given Quantity.value (some (negsuc 1)) ∷ [])) ((1 ∷ []) ∷ [])))
    ((1 ∷ zeros 9) ++ ((1 ∷ 255 ∷ 255 ∷ 255 ∷ 255 ∷ 255 ∷ 255 ∷ 255 ∷ 254 ∷ zeros 18) ++ (1 ∷ [])))
    ∷ example (record_of (shown (accepted (given Quantity.flag none ∷ [])) []))
    ((1 ∷ zeros 9) ++ (130 ∷ zeros 26))
    ∷ example (record_of (shown (accepted (given Quantity.value none ∷ [])) [])) ((1 ∷ zeros 9) ++ (129 ∷ zeros 26))
    ∷ example (record_of (shown (accepted (given Quantity.flag (some (pos 10)) ∷ [])) [])) ((1 ∷ zeros 9) ++ ((2 ∷ zeros 7) ++ (10 ∷ zeros 18)))
    ∷ example (record_of (shown (accepted (given Quantity.count (some (pos 5)) ∷ given Quantity.nibbles none ∷ given Quantity.bytes (some (pos 38)) ∷ [])) []))
    ((1 ∷ zeros 9) ++ ((3 ∷ zeros 7) ++ ((5 ∷ 137 ∷ zeros 8) ++ ((8 ∷ zeros 7) ++ (38 ∷ [])))))
    -- what put text gives, and fetch text with its two outputs
    ∷ example (record_of (shown (accepted (given Quantity.nibbles (some (pos 255)) ∷ [])) [])) ((1 ∷ zeros 9) ++ ((9 ∷ zeros 7) ++ (255 ∷ zeros 18)))
    ∷ example
    (record_of
    (shown (accepted (given Quantity.count (some (pos 2)) ∷ given Quantity.deck (some (pos 1)) ∷ given Quantity.nibbles (some (pos 5)) ∷ [])) ((65 ∷ 193 ∷ []) ∷ (0 ∷ 1 ∷ []) ∷ [])))
    ((1 ∷ zeros 9) ++ ((3 ∷ zeros 7) ++ (2 ∷ 10 ∷ zeros 7 ++ (1 ∷ 9 ∷ zeros 7 ++ (5 ∷ 65 ∷ 193 ∷ 0 ∷ 1 ∷ [])))))
    ∷ []

hold : T (every examples)
unfolding calls script again example examples same every outputs_of number_from number_of bytes_of bytes8 signed unsigned kinds within entry_at quantity_label joined
    record_size next_in list_of script_entry script_of row_of head_of record_of records
hold = tt
