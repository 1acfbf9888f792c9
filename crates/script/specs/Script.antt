-- FORMAT 8: a script, which is a list of calls written as bytes, and the log of their answers. The claim of demand 3 about a script.
use Rattle.std.specs.Prelude.{ℕ, zero, suc, ◌+◌, ◌-◌, ◌*◌, ◌/◌, ◌%◌, ◌^◌, ◌≤◌, ◌<◌, ◌≡◌, cond, List, [], ◌∷◌, ◌++◌, length, get_or, take, drop, ltb, leb, eqb}
use Rattle.std.proofs.Math.Option.{Option, none, some}
use Rattle.std.specs.Int.Signed.{mag}
use Rattle.numbers.specs.Words.{signed, unsigned}
use Rattle.format.specs.Flags.{FlagTable}
use Rattle.format.specs.Calls.{Call, reads, edits, fetches, read_field, set_field, clear_field, clear_with_indicators, read_flag, set_flag, clear_flag, put, fetch, remove, put_text, fetch_text, outputs_of}
use Rattle.format.specs.Calls.{Given, given, Answer, refused, accepted, over}
use Rattle.format.specs.Machine.{Course}
use Rattle.format.specs.Buffer.{Shown, shown, effect, claim}
use Rattle.format.specs.Reply.{refusal}
use Rattle.format.specs.declared.Scaled.{Scaled}
use Rattle.format.specs.Bits.{Bytes}
use Rattle.script.specs.Labels.{quantity_of, missing_label, label_of, number_or_zero}

-- ---- numbers in 8 bytes, the highest first

-- the number that bytes go on to from n
unfoldable pub number_from : ℕ → List ℕ → ℕ
number_from n [] = n
number_from n (x ∷ xs) = number_from (n * 256 + x) xs

unfoldable pub number_of : List ℕ → ℕ
number_of s = number_from 0 s

-- the w low bytes of n
unfoldable pub bytes_of : ℕ → ℕ → List ℕ
bytes_of zero n = []
bytes_of (suc w) n = (n / 2 ^ (8 * w) % 256) ∷ bytes_of w n

unfoldable pub bytes8 : ℕ → List ℕ
bytes8 n = bytes_of 8 n

-- ---- the script

-- the call at the head of a script, and how many bytes it takes
pub record Entry : Type 0 where
  pub call : Call
  pub taken : ℕ

abbrev pub entry : Call → ℕ → Entry
entry c n = record { call = c; taken = n }

-- the number at byte i, and as many bytes from byte i + 8 on as the number at i says
abbrev pub number_at : List ℕ → ℕ → ℕ
number_at s i = number_of (take 8 (drop i s))

abbrev pub bytes_at : List ℕ → ℕ → List ℕ
bytes_at s i = take (number_at s i) (drop (i + 8) s)

-- the place behind the counted bytes at 1
abbrev pub second : List ℕ → ℕ
second s = 9 + number_at s 1

abbrev pub scaled_at : List ℕ → ℕ → Scaled
scaled_at s i = record { 0 = signed (number_at s i) }

-- what an entry of each kind says, were it whole. An output is taken as it stands in the script
unfoldable pub kinds : List ℕ → List (Option Entry)
kinds s =
    none ∷  -- 0
    some (entry (reads (read_field (number_at s 1))) 9) ∷  -- 1
    some (entry (edits (set_field (number_at s 1) (scaled_at s 9))) 17) ∷  -- 2
    some (entry (edits (clear_field (number_at s 1))) 9) ∷  -- 3
    some (entry (reads (read_flag (number_at s 1))) 9) ∷  -- 4
    some (entry (edits (set_flag (number_at s 1) (number_at s 9))) 17) ∷  -- 5
    some (entry (edits (clear_flag (number_at s 1))) 9) ∷  -- 6
    some (entry (edits (put (number_at s 1) (bytes_at s 9))) (17 + number_at s 9)) ∷  -- 7
    some (entry (fetches (fetch (number_at s 1) (bytes_at s 9))) (17 + number_at s 9)) ∷  -- 8
    some (entry (edits (remove (number_at s 1))) 9) ∷  -- 9
    some (entry (edits (put_text (bytes_at s 1) (bytes_at s (second s)))) (17 + number_at s 1 + number_at s (second s))) ∷  -- 10
    some (entry (fetches (fetch_text (bytes_at s 1) (bytes_at s (second s)))) (17 + number_at s 1 + number_at s (second s))) ∷  -- 11
    some (entry (edits (clear_with_indicators (number_at s 1))) 9) ∷  -- 12
    []

-- the entry, if what it wants is within n
unfoldable pub within : (Entry → ℕ) → ℕ → Option Entry → Option Entry
within wants n none = none
within wants n (some e) = cond (leb (wants e) n) (some e) none

-- the entry at the head of a script; none where it is cut off or of an unknown kind. Byte 0 is the kind
unfoldable pub entry_at : List ℕ → Option Entry
entry_at s = within (λ (e : Entry). e.taken) (length s) (get_or (kinds s) (get_or s 0 0) none)

-- outputs one behind the other
unfoldable pub joined : List (List ℕ) → List ℕ
joined [] = []
joined (out ∷ outs) = out ++ joined outs

-- the bytes of a call's record in the log
unfoldable pub record_size : Call → ℕ
record_size c = 37 + length (joined (outputs_of c))

unfoldable pub log_size : List Call → ℕ
log_size [] = 0
log_size (c ∷ cs) = record_size c + log_size cs

-- the entry that is performed next: the one at the head, if its record fits the room that is left in the log
unfoldable pub next_in : ℕ → List ℕ → Option Entry
next_in room s = within (λ (e : Entry). record_size e.call) room (entry_at s)

-- the list of calls of a script. An entry takes bytes, so the script's length is fuel enough
unfoldable pub list_of : ℕ → ℕ → List ℕ → List Call
list_of zero room s = []
list_of (suc fuel) room s =
    elim (next_in room s) [
      | none ↦ []
      | some e ↦ e.call ∷ list_of fuel (room - record_size e.call) (drop e.taken s)
    ]

-- ---- the script of a list

unfoldable pub script_entry : Call → List ℕ
script_entry (reads (read_field k)) = 1 ∷ bytes8 k
script_entry (edits (set_field k v)) = 2 ∷ (bytes8 k ++ bytes8 (unsigned v.0))
script_entry (edits (clear_field k)) = 3 ∷ bytes8 k
script_entry (reads (read_flag j)) = 4 ∷ bytes8 j
script_entry (edits (set_flag j v)) = 5 ∷ (bytes8 j ++ bytes8 v)
script_entry (edits (clear_flag j)) = 6 ∷ bytes8 j
script_entry (edits (put i ns)) = 7 ∷ (bytes8 i ++ (bytes8 (length ns) ++ ns))
script_entry (fetches (fetch i out)) = 8 ∷ (bytes8 i ++ (bytes8 (length out) ++ out))
script_entry (edits (remove i)) = 9 ∷ bytes8 i
script_entry (edits (put_text t os)) = 10 ∷ (bytes8 (length t) ++ (t ++ (bytes8 (length os) ++ os)))
script_entry (fetches (fetch_text out origins)) = 11 ∷ (bytes8 (length out) ++ (out ++ (bytes8 (length origins) ++ origins)))
script_entry (edits (clear_with_indicators k)) = 12 ∷ bytes8 k

unfoldable pub script_of : List Call → List ℕ
script_of [] = []
script_of (c ∷ cs) = script_entry c ++ script_of cs

-- what every call of the code has: numbers and lengths of 64 bits, a signed value of 64 bits (`mag` of n and of -1 - n is n), contents
-- and outputs of bytes
abbrev pub Slice : List ℕ → Type 0
Slice s = (length s < 2 ^ 64) × Bytes s

unfoldable pub Fits : Call → Type 0
Fits (reads (read_field k)) = k < 2 ^ 64
Fits (reads (read_flag j)) = j < 2 ^ 64
Fits (edits (set_field k v)) = (k < 2 ^ 64) × (mag v.0 < 2 ^ 63)
Fits (edits (clear_field k)) = k < 2 ^ 64
Fits (edits (clear_with_indicators k)) = k < 2 ^ 64
Fits (edits (set_flag j v)) = (j < 2 ^ 64) × (v < 2 ^ 64)
Fits (edits (clear_flag j)) = j < 2 ^ 64
Fits (edits (put i ns)) = (i < 2 ^ 64) × Slice ns
Fits (edits (remove i)) = i < 2 ^ 64
Fits (edits (put_text t os)) = Slice t × Slice os
Fits (fetches (fetch i out)) = (i < 2 ^ 64) × Slice out
Fits (fetches (fetch_text out origins)) = Slice out × Slice origins

unfoldable pub AllFit : List Call → Type 0
AllFit [] = Unit {0}
AllFit (c ∷ cs) = Fits c × AllFit cs

-- ---- the log

-- a row of n numbers that are given, each in nine bytes: its label, and the number. 0 where there is none
unfoldable pub row_of : ℕ → List Given → List ℕ
row_of zero gs = []
row_of (suc n) [] = 0 ∷ (bytes8 0 ++ row_of n [])
row_of (suc n) (g ∷ gs) = label_of g ∷ (bytes8 (unsigned (number_or_zero g.number)) ++ row_of n gs)

-- an answer in 37 bytes: a tag, the refusal's number and its place, and a row of three
unfoldable pub head_of : Answer → List ℕ
head_of (refused r) = 0 ∷ r.number ∷ (bytes8 r.place ++ row_of 3 [])
head_of (accepted gs) = 1 ∷ 0 ∷ (bytes8 0 ++ row_of 3 gs)

-- the record of a call: its answer, and its outputs after it
unfoldable pub record_of : Shown → List ℕ
record_of a = head_of a.answer ++ joined a.outs

unfoldable pub records : List Shown → List ℕ
records [] = []
records (a ∷ more) = record_of a ++ records more

-- ---- the log read back

-- the number that nine bytes tell
abbrev pub given_at : List ℕ → Given
given_at s =
    let m = get_or s 0 0 in
    cond (ltb m missing_label) (given (quantity_of m) (some (signed (number_at s 1)))) (given (quantity_of (m - missing_label)) none)

-- those of a row, up to the first that is not there
unfoldable pub given_in : ℕ → List ℕ → List Given
given_in zero s = []
given_in (suc n) s = cond (eqb (get_or s 0 0) 0) [] (given_at s ∷ given_in n (drop 9 s))

-- the answer that a record tells
unfoldable pub answer_at : List ℕ → Answer
answer_at s = cond (eqb (get_or s 0 0) 0) (refusal (get_or s 1 0) (number_at s 2)) (accepted (given_in 3 (drop 10 s)))

-- as many outputs as were lent, each as long
unfoldable pub outputs_in : List (List ℕ) → List ℕ → List (List ℕ)
outputs_in [] s = []
outputs_in (out ∷ outs) s = take (length out) s ∷ outputs_in outs (drop (length out) s)

-- the answers to a list of calls and their outputs, as its records tell them
unfoldable pub answers_in : List Call → List ℕ → List Shown
answers_in [] s = []
answers_in (c ∷ cs) s = shown (answer_at s) (outputs_in (outputs_of c) (drop 37 s)) ∷ answers_in cs (drop (record_size c) s)

-- ---- the claim

-- a buffer and a log after a script, with how many calls were performed, and how many bytes of script and log they took
pub record Replayed : Type 0 where
  pub buffer : List ℕ
  pub log : List ℕ
  pub calls : ℕ
  pub taken : ℕ
  pub written : ℕ

-- what a list of calls that answered so leaves, the log having been `log`
abbrev pub logged : List Call → Course (List ℕ) Shown → List ℕ → Replayed
logged cs r log =
    record {
      buffer = r.state;
      log = over (records r.answers) log;
      calls = length cs;
      taken = length (script_of cs);
      written = length (records r.answers);
    }

-- THE CLAIM about running code: r is what is claimed of the list cs, and the log tells the answers and the outputs
pub record Claimed (marks : FlagTable) (r : Replayed) (b log : List ℕ) (cs : List Call) : Type 0 where
  pub left : r ≡ logged cs (claim marks b cs) log
  pub told : answers_in cs r.log ≡ (claim marks b cs).answers

-- demand 3 of a script that was performed. It holds of the list that the script is read as. It holds of every list that has this
-- script, if the code's types hold its arguments and the log has room for its records
pub record Performs (marks : FlagTable) (r : Replayed) (b script log : List ℕ) : Type 0 where
  pub of_script : Claimed marks r b log (list_of (length script) (length log) script)
  pub of_list : (cs : List Call) → AllFit cs → script_of cs ≡ script → log_size cs ≤ length log → Claimed marks r b log cs
  -- such a list's script is bytes
  pub in_bytes : (cs : List Call) → AllFit cs → Bytes (script_of cs)

-- ---- one call

-- no entry is next: nothing is done
abbrev pub idle : List ℕ → List ℕ → Replayed
idle b log = record { buffer = b; log = log; calls = 0; taken = 0; written = 0 }

-- an entry is performed, and its record written at the log's front
abbrev pub performed : FlagTable → List ℕ → Entry → List ℕ → Replayed
performed marks b e log =
    let a = effect marks b e.call in
    record {
      buffer = a.buffer;
      log = over (record_of (shown a.answer a.outs)) log;
      calls = 1;
      taken = e.taken;
      written = record_size e.call;
    }

-- a replay's turn
unfoldable pub turn : FlagTable → List ℕ → List ℕ → List ℕ → Replayed
turn marks b script log = elim (next_in (length log) script) [ none ↦ idle b log | some e ↦ performed marks b e log ]
