-- What an entry or a script leaves, by the numbers that the code gives; and what is known of an entry before its call.
use Rattle.std.specs.Prelude.{ℕ, ◌+◌, ◌≤◌, ◌<◌, ◌≡◌, List, length, get_or, Option, Some, None}
use Rattle.std.proofs.Math.Option as math
use Rattle.script.specs.Script.{number_at, kinds, Replayed, idle}
use Rattle.replay.specs.declared.Performed.{Performed}
use Rattle.replay.specs.declared.Entry.{Entry}
use Rattle.replay.specs.declared.Kind.{Kind}
use Rattle.replay.specs.declared.Kind.TheVariants.{ReadField, SetField, ClearField, ReadFlag, SetFlag, ClearFlag, Put, Fetch, Remove, PutText, FetchText, ClearWithIndicators}

-- a buffer, a log and the numbers
abbrev pub leaves : List ℕ → List ℕ → Performed → Replayed
leaves b log p = record { buffer = b; log = log; calls = p.calls; taken = p.taken; written = p.written }

-- the same of one entry; and of one or none
abbrev pub after_entry : List ℕ → List ℕ → Entry → Replayed
after_entry b log e = record { buffer = b; log = log; calls = 1; taken = e.taken; written = e.written }

abbrev pub left_by : List ℕ → List ℕ → Option Entry → Replayed
left_by b log None = idle b log
left_by b log (Some e) = after_entry b log e

-- the byte of each kind
abbrev pub kind_number : Kind → ℕ
kind_number ReadField = 1
kind_number SetField = 2
kind_number ClearField = 3
kind_number ReadFlag = 4
kind_number SetFlag = 5
kind_number ClearFlag = 6
kind_number Put = 7
kind_number Fetch = 8
kind_number Remove = 9
kind_number PutText = 10
kind_number FetchText = 11
kind_number ClearWithIndicators = 12

-- a byte is the kind's, or no entry begins with it
abbrev pub Kinded : ℕ → Option Kind → Type 0
Kinded n None = (s : List ℕ) → get_or (kinds s) n math.none ≡ math.none
Kinded n (Some k) = n ≡ kind_number k

-- the second number of an entry, or the script is too short for it
abbrev pub Second : List ℕ → Option ℕ → Type 0
Second s None = length s < 17
Second s (Some n) = (17 ≤ length s) × (n ≡ number_at s 9)

-- the end of the counted bytes at i, or the script ends before it
abbrev pub Counted : List ℕ → ℕ → Option ℕ → Type 0
Counted s i None = length s < i + 8 + number_at s i
Counted s i (Some e) = (e ≤ length s) × (e ≡ i + 8 + number_at s i)

-- a script begins with an entry of this kind, and the log has room for an answer
pub record Starts (kind : ℕ) (s log : List ℕ) : Type 0 where
  pub of_kind : get_or s 0 0 ≡ kind
  pub nine : 9 ≤ length s
  pub room : 37 ≤ length log

-- and the entry names the number k
pub record Begun (kind k : ℕ) (s log : List ℕ) : Type 0 where
  pub starts : Starts kind s log
  pub number : k ≡ number_at s 1
