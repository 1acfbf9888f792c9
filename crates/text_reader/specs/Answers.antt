-- What a body of ship text and the symbols read of it are to each other.
use Rattle.std.specs.Prelude.{ℕ, ◌≤◌, ◌≡◌, true, List, ◌++◌, length}
use Rattle.format.specs.ShipText.{Symbol, all_admitted, write_text, spaces, text_valid}

-- FORMAT 3.5: t is the shortest row of symbols of a body, of those that a text may hold. Where the body is valid the writer gives it
-- for t, and for t with plain spaces behind it; for no other, and so for none shorter
pub record Shortest (t : List Symbol) (ns : List ℕ) : Type 0 where
  pub gives : text_valid ns ≡ true → (all_admitted t ≡ true) × ((k : ℕ) → write_text (t ++ spaces k) ≡ ns)
  pub only : (u : List Symbol) → all_admitted u ≡ true → write_text u ≡ ns → (k : ℕ) × (u ≡ t ++ spaces k)
  pub least : (u : List Symbol) → all_admitted u ≡ true → write_text u ≡ ns → length t ≤ length u
