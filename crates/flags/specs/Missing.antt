-- FORMAT 3.4: a missing flag is always permitted.
use Rattle.std.specs.Prelude.{ℕ, suc, ◌≡◌, true, List, ◌∷◌}
use Rattle.format.specs.Flags.{is_flag, FlagTable, flags_fit, with_flag, flags_valid}

-- it decides nothing of what flags may stand, and a valid body stays so where a flag becomes missing
pub record MissingPermitted (marks : FlagTable) : Type 0 where
  pub fits : (j : ℕ) (vs : List ℕ) → flags_fit marks j (0 ∷ vs) ≡ flags_fit marks (suc j) vs
  pub cleared : (body : List ℕ) (j : ℕ) → is_flag j ≡ true → flags_valid marks body ≡ true → flags_valid marks (with_flag body j 0) ≡ true
