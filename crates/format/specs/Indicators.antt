-- FORMAT 2.5: the indicators, and what each rests on.
use Rattle.std.specs.Prelude.{ℕ, Bool, cond, List, [], ◌∷◌, ◌++◌, eqb}
use Rattle.format.specs.Nibbles.{among}

-- an indicator: its field, and the fields that it rests on, which are its data
pub record Indicator : Type 0 where
  pub field : ℕ
  pub basis : List ℕ

abbrev pub indicator : ℕ → List ℕ → Indicator
indicator field basis = record { field = field; basis = basis }

unfoldable pub indicators : List Indicator
indicators =
    indicator 17 (18 ∷ []) ∷  -- DI on D
    indicator 19 (20 ∷ []) ∷  -- WI on W
    indicator 21 (22 ∷ []) ∷  -- VI on VB
    indicator 27 (28 ∷ 29 ∷ 30 ∷ 31 ∷ []) ∷  -- TI on A, WB, DPT, S
    indicator 32 (31 ∷ []) ∷  -- BI on S
    indicator 36 (37 ∷ []) ∷  -- HI on H
    []

-- the fields of those indicators of which a test holds, in their order
unfoldable pub fields_where : (Indicator → Bool) → List Indicator → List ℕ
fields_where test [] = []
fields_where test (i ∷ more) = cond (test i) (i.field ∷ []) [] ++ fields_where test more

-- indicator i rests on field k
abbrev pub rests_on : Indicator → ℕ → Bool
rests_on i k = among k i.basis

-- the data of field i: nothing where it is no indicator
unfoldable pub basis_in : List Indicator → ℕ → List ℕ
basis_in [] i = []
basis_in (row ∷ more) i = cond (eqb i row.field) row.basis (basis_in more i)

unfoldable pub data_of : ℕ → List ℕ
data_of i = basis_in indicators i

-- the fields of all indicators that rest on field k
unfoldable pub resting_on : ℕ → List ℕ
resting_on k = fields_where (λ (i : Indicator). rests_on i k) indicators
