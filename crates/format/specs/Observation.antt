-- FORMAT 4.1 and 4.3: an observation (the requirements' sheet), on which the plain machine works, and its packing.
use Rattle.std.specs.Prelude.{ℕ, ◌%◌, List, [], ◌∷◌, ◌++◌, map, length, replicate}
use Rattle.std.proofs.Math.Option.{Option}
use Rattle.format.specs.Field.{Field, table, codes}
use Rattle.format.specs.Bits.{read_fields, write_fields, total}
use Rattle.format.specs.Nibbles.{Attachment, tail_nibbles, padded, bytes}
use Rattle.format.specs.declared.Scaled.{Scaled}

-- the value of field k stands at place k - 1, none where it is missing
pub record Observation : Type 0 where
  pub rptin : ℕ
  pub values : List (Option Scaled)
  pub attachments : List Attachment

abbrev pub observation : ℕ → List (Option Scaled) → List Attachment → Observation
observation rptin values attachments = record { rptin = rptin; values = values; attachments = attachments }

-- the bits of the card's 49 fields: RPTIN, fields 1 to 46, CK, AC
unfoldable pub widths : List ℕ
widths = 16 ∷ (map (λ (f : Field). f.bits) table ++ (14 ∷ 4 ∷ []))

-- FORMAT 2.4: CK of the coded numbers of fields 1 to 46
unfoldable pub checksum : List ℕ → ℕ
checksum cs = total cs % 255

-- the numbers on an observation's card, CK and AC worked out
unfoldable pub card_numbers : Observation → List ℕ
card_numbers s =
    s.rptin ∷ (codes table s.values ++ (checksum (codes table s.values) ∷ length s.attachments ∷ []))

-- the card's 75 nibbles
unfoldable pub card_nibbles : Observation → List ℕ
card_nibbles s = read_fields (replicate 75 4) (write_fields widths (card_numbers s))

-- card, attachments and padding nibble, as bytes
unfoldable pub packing : Observation → List ℕ
packing s = bytes (padded (card_nibbles s ++ tail_nibbles s.attachments))

abbrev pub size : Observation → ℕ
size s = length (packing s)
