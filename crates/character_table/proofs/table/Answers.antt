-- `character_table::table` meets its contract: the constant has the rule's entry at each of the 256 bytes, which antt computes.
-- Assumes nothing.
use mathlib.Core.Path.{refl}
use Rattle.format.specs.ShipText.{char_code, code_nibbles, up_from, entry, char_table}
use Rattle.characters.proofs.Entries.{formed}
use Rattle.character_table.proofs.table.Goals as goal

pub returns : goal.returns
unfolding char_table up_from entry code_nibbles char_code
returns c = (refl, formed _ refl)
