-- The nibbles of a buffer, and what reading at a place finds.
use Rattle.std.specs.Prelude.{ℕ, ◌+◌, Bool, true, false, cond, List, length, get_or, take, drop, ltb, leb, Option, Some, None}
use Rattle.format.specs.Nibbles.{nibbles, length_at, id_at}
use Rattle.nibble.specs.declared.Cursor.{Cursor}
use Rattle.nibble.specs.declared.Header.{Header}

-- a buffer's nibbles: two a byte where it is packed, else one a byte
abbrev pub view : Bool → List ℕ → List ℕ
view true b = nibbles b
view false b = b

-- the nibbles from a cursor on
abbrev pub from : List ℕ → Cursor → List ℕ
from b c = drop c.at (view c.packed b)

-- n nibbles from a cursor on
abbrev pub part : List ℕ → Cursor → ℕ → List ℕ
part b c n = take n (from b c)

abbrev pub moved : Cursor → ℕ → Cursor
moved c n = record { at = c.at + n; packed = c.packed }

-- the nibble at a cursor and the cursor behind it, or the end
abbrev pub step_at : List ℕ → Cursor → Option (ℕ × Cursor)
step_at b c = cond (ltb c.at (length (view c.packed b))) (Some (get_or (view c.packed b) c.at 0, moved c 1)) None

-- AL, AID and the cursor at the data, or that three nibbles do not fit
abbrev pub header_at : List ℕ → Cursor → Option Header
header_at b c =
    cond (leb (c.at + 3) (length (view c.packed b)))
    (Some (record { al = length_at (from b c); id = id_at (from b c); body = moved c 3 })) None
