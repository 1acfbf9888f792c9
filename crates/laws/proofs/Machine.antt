-- Two machines that agree call by call agree over every list of calls; what holds of each answer holds along a list.
-- Assumes nothing.
use Prim.{Unit, tt}
use mathlib.Core.Path.{◌≡◌, refl, ap₂}
use mathlib.Core.List.{List, [], ◌∷◌}
use Rattle.format.specs.Machine.{Moved, course}

-- a machine with a state, and a world on which the same calls act; Agrees says which world stands for which state
module _ {S W C A : Type 0} (step : S → C → Moved S A) (act : W → C → Moved W A) (Agrees : S → W → Type 0)
    (one : (s : S) (w : W) (c : C) → Agrees s w → ((act w c).answer ≡ (step s c).answer) × Agrees (step s c).state (act w c).state) where
  pub courses_agree : (cs : List C) (s : S) (w : W) → Agrees s w
      → ((course act w cs).answers ≡ (course step s cs).answers) × Agrees (course step s cs).state (course act w cs).state
  unfolding course
  courses_agree [] s w h = (refl, h)
  courses_agree (c ∷ cs) s w h =
      let o = one s w c h in
      let r = courses_agree cs (step s c).state (act w c).state o.1 in
      (ap₂ (λ (a : A) (more : List A). a ∷ more) o.0 r.0, r.1)

-- an answer for each call, and P of each
abbrev pub Each : {C A : Type 0} → (C → A → Type 0) → List C → List A → Type 0
Each P [] [] = Unit {0}
Each P [] (a ∷ more) = ⊥
Each P (c ∷ cs) [] = ⊥
Each P (c ∷ cs) (a ∷ more) = P c a × Each P cs more

-- P of each answer in a state of which Holds, which every call keeps
module _ {S C A : Type 0} (step : S → C → Moved S A) (Holds : S → Type 0) (P : C → A → Type 0)
    (one : (s : S) (c : C) → Holds s → P c (step s c).answer × Holds (step s c).state) where
  pub each_answer : (cs : List C) (s : S) → Holds s → Each P cs (course step s cs).answers
  unfolding course
  each_answer [] s h = tt
  each_answer (c ∷ cs) s h = let o = one s c h in (o.0, each_answer cs (step s c).state o.1)
