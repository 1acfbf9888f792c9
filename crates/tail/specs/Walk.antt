-- What a walk over attachments answers.
use Rattle.std.specs.Prelude.{ℕ, ◌+◌, cond, List, [], ◌∷◌, length, eqb, Option, Some, None, Result, Ok, Err}
use Rattle.std.proofs.Math.Option as found
use Rattle.std.proofs.Math.Option.{none, some}
use Rattle.format.specs.Order.{Refusal, first}
use Rattle.format.specs.Flags.{FlagTable}
use Rattle.format.specs.Nibbles.{Attachment, tail_nibbles, attachments_of}
use Rattle.format.specs.Report.{attachment_checks}
use Rattle.format.specs.Calls.{stands, content_of}
use Rattle.format.specs.Whole.{count_in}
use Rattle.nibble.specs.View.{from}
use Rattle.nibble.specs.declared.Cursor.{Cursor}
use Rattle.tail.specs.declared.Held.{Held}
use Rattle.tail.specs.declared.Tail.{Tail}

-- the place of id i, where the attachments begin at a place; 0 where i does not stand
unfoldable pub place_of : ℕ → ℕ → List Attachment → ℕ
place_of at i [] = 0
place_of at i (a ∷ more) = cond (eqb a.id i) at (place_of (at + (3 + length a.content)) i more)

-- the place of id i and its AL, where it stands
abbrev pub held_at : ℕ → ℕ → List Attachment → Option Held
held_at at i list = cond (stands i list) (Some (record { place = place_of at i list; al = length (content_of i list) })) None

-- where attachments that begin at a place end, and where id i stands among them
abbrev pub tail_at : ℕ → ℕ → List Attachment → Tail
tail_at at i list = record { end = at + length (tail_nibbles list); held = held_at at i list }

-- the first refusal, or what is answered where there is none
abbrev pub walked_by : {T : Type 0} → found.Option Refusal → T → Result T Refusal
walked_by (some r) t = Err r
walked_by none t = Ok t

-- the first refusal of the attachments from a cursor on, 1, 5 or 6, or where they end and where id i stands
unfoldable pub walked : FlagTable → List ℕ → Cursor → ℕ → ℕ → Result Tail Refusal
walked marks b c count i =
    walked_by (first (attachment_checks marks count 1 [] (from b c))) (tail_at c.at i (attachments_of count (from b c)))

-- the first refusal of a tail's attachments, 1, 5 or 6, or how many there are
unfoldable pub tail_counted : FlagTable → List ℕ → Result ℕ Refusal
tail_counted marks ns = walked_by (first (attachment_checks marks (count_in ns) 1 [] ns)) (count_in ns)
