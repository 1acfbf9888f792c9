-- Nibbles of a report replaced, and what a put and a drop leave.
use Rattle.std.specs.Prelude.{ℕ, ◌+◌, ◌-◌, ◌*◌, ◌/◌, ◌≤◌, Bool, cond, List, ◌++◌, length, take, drop, leb, Result, Ok, Err}
use Rattle.format.specs.Nibbles.{Attachment, attachment, attachment_nibbles}
use Rattle.format.specs.Flags.{FlagTable}
use Rattle.format.specs.Observation.{size}
use Rattle.format.specs.Report.{observation_of}
use Rattle.format.specs.Calls.{put_in, remove_from, with_attachments, with_content}
use Rattle.format.specs.Buffer.{zeros, layout}
use Rattle.laws.proofs.Attachments.{FineAt}
use Rattle.laws.proofs.Edits.{cleared_to, Edit}
use Rattle.report.specs.declared.Report.{Report}
use Rattle.format.specs.declared.Refusal.{Refusal}
use Rattle.format.specs.declared.Refusal.TheVariants.{Room}
use Rattle.call_attachments.specs.declared.Spot.{Spot}
use Rattle.report.specs.Found.{Found}

-- old nibbles at a place of a report that ends at end, and new ones in their place, within n bytes
pub record Resizable (n at old new end : ℕ) : Type 0 where
  pub inside : at + old ≤ end
  pub few : end ≤ 65536
  pub small : new ≤ 65536
  pub fits : end ≤ 2 * n
  pub room : at + new + (end - (at + old)) ≤ 2 * n

-- nibbles with room for new ones in place of old ones: those behind the old ones moved, zeros behind them, and what stood
-- beyond both ends
abbrev pub resized : List ℕ → ℕ → ℕ → ℕ → ℕ → List ℕ
resized ns at old new end =
    let rest = end - (at + old) in
    let last = at + new + rest in
    take (at + new) ns ++ (take rest (drop (at + old) ns) ++ (zeros (cleared_to end last - last) ++ drop (cleared_to end last) ns))

-- an attachment that may stand under one table or another
abbrev pub FineBySome : Attachment → Type 0
FineBySome a = (marks : FlagTable) × FineAt marks a

-- content ns may stand under id i, and r is what was found in the report, both under one table
pub record Puttable (b : List ℕ) (i : ℕ) (r : Report) (ns : List ℕ) : Type 0 where
  pub marks : FlagTable
  pub found : Found marks b i r
  pub fine : FineAt marks (attachment i ns)

-- the edit that puts content ns under id i, and that this content may stand there
pub record PutEdit (b : List ℕ) (i : ℕ) (ns : List ℕ) (spot : Spot) : Type 0 where
  pub marks : FlagTable
  pub edit : Edit marks b (put_in i ns (observation_of b).attachments) (attachment_nibbles (attachment i ns)) spot.at spot.old spot.end spot.count
  pub fine : FineAt marks (attachment i ns)

-- the bytes of a report that ended at end, with an attachment of n nibbles in place of old ones
abbrev pub new_size : ℕ → ℕ → ℕ → ℕ
new_size end old n = (end - old + (3 + n) + 1) / 2

-- a buffer with an attachment put, and with one dropped
abbrev pub with_put : List ℕ → ℕ → List ℕ → List ℕ
with_put b i ns = let s = observation_of b in layout b (size s) (with_content s i ns)

abbrev pub without_id : List ℕ → ℕ → List ℕ
without_id b i = let s = observation_of b in layout b (size s) (with_attachments s (remove_from i s.attachments))

-- whether a put has room, what is answered, and the buffer after it: without room it is as it was
abbrev pub has_room : List ℕ → ℕ → List ℕ → Bool
has_room b i ns = leb (size (with_content (observation_of b) i ns)) (length b)

abbrev pub room_answer : Bool → Result Unit Refusal
room_answer t = cond t (Ok tt) (Err Room)

abbrev pub putting : List ℕ → ℕ → List ℕ → List ℕ
putting b i ns = cond (has_room b i ns) (with_put b i ns) b
