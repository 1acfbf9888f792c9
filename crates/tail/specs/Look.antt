-- What a look at one attachment answers, the ids seen being bits of a number, and the walk's state behind it.
use Rattle.std.specs.Prelude.{ℕ, ◌^◌, cond, not, ◌||◌, List, length, ltb, eqb, Some, None, Result, Ok, Err}
use Rattle.std.specs.Int.Bits.{bit_or}
use Rattle.format.specs.Order.{Refusal}
use Rattle.format.specs.Flags.{FlagTable}
use Rattle.format.specs.Nibbles.{length_at, id_at}
use Rattle.format.specs.Report.{body_valid}
use Rattle.format.specs.Whole.{bit_at}
use Rattle.nibble.specs.View.{from, part, moved}
use Rattle.nibble.specs.declared.Cursor.{Cursor}
use Rattle.nibble.specs.declared.Header.{Header}
use Rattle.tail.specs.declared.State.{State}

-- the refusal of this number at a position
abbrev pub refused : ℕ → ℕ → Result Header Refusal
refused n i = Err (record { number = n; place = i })

-- the attachment of a header, at position i: 5, data that do not fit, 6, or the header
unfoldable pub judged_at : FlagTable → List ℕ → Header → ℕ → ℕ → Result Header Refusal
judged_at marks b h mask i =
    cond (eqb h.al 0 || (eqb h.id 0 || bit_at mask h.id)) (refused 5 i)
    (cond (ltb (length (from b h.body)) h.al) (refused 1 i)
    (cond (not (body_valid marks h.id (part b h.body h.al))) (refused 6 i) (Ok h)))

-- the header at a cursor
abbrev pub head_at : List ℕ → Cursor → Header
head_at b c = record { al = length_at (from b c); id = id_at (from b c); body = moved c 3 }

-- the attachment at a cursor: a header that does not fit, or as above
unfoldable pub looked_at : FlagTable → List ℕ → Cursor → ℕ → ℕ → Result Header Refusal
looked_at marks b c mask i = cond (ltb (length (from b c)) 3) (refused 1 i) (judged_at marks b (head_at b c) mask i)

-- before the first attachment
abbrev pub start_at : Cursor → State
start_at c = record { cursor = c; mask = 0; held = None }

-- behind the attachment of this header
abbrev pub passed_by : State → Header → ℕ → State
passed_by st h want = record {
  cursor = moved h.body h.al;
  mask = bit_or st.mask (2 ^ h.id);
  held = cond (eqb h.id want) (Some (record { place = st.cursor.at; al = h.al })) st.held;
}
