-- What a symbol of the text brings.
use Rattle.std.specs.Prelude.{ℕ, cond, List, [], ◌++◌}
use Rattle.format.specs.ShipText.{Symbol, is_space, space_run}
use Rattle.characters.specs.Table.{nibbles_by}

-- behind s spaces: a plain space waits, any other symbol brings the run and the nibbles that it has by the table t
unfoldable pub piece_by : List ℕ → ℕ → Symbol → List ℕ
piece_by t s x = cond (is_space x) [] (space_run s ++ nibbles_by t x)
