-- Steps written out.
use Rattle.std.specs.Prelude.{ℕ, ◌≡◌, List, map}
use Rattle.format.specs.Calls.{over}
use Rattle.text_reader.specs.Codes.{mark}
use Rattle.text_display.specs.declared.Step.{Step}

abbrev pub byte_given : Step → ℕ
byte_given s = s.byte

abbrev pub mark_given : Step → ℕ
mark_given s = mark s.origin

-- two outputs after the steps' bytes and marks of origin were written to their fronts
abbrev pub Written : List Step → List ℕ → List ℕ → List ℕ → List ℕ → Type 0
Written xs out origins out' origins' = (out' ≡ over (map byte_given xs) out) × (origins' ≡ over (map mark_given xs) origins)
