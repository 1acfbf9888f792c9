-- What a body of ship text and rows of symbols are to each other.
use Rattle.std.specs.Prelude.{ℕ, ◌≡◌, Bool, true, false, List}
use Rattle.format.specs.ShipText.{Symbol, all_admitted, write_text}

-- FORMAT 3.5: a content is valid exactly when some row of symbols is written so
pub record Writable (valid : Bool) (ns : List ℕ) : Type 0 where
  pub some_text : valid ≡ true → (t : List Symbol) × (all_admitted t ≡ true) × (write_text t ≡ ns)
  pub no_text : valid ≡ false → (t : List Symbol) → all_admitted t ≡ true → write_text t ≡ ns → ⊥
