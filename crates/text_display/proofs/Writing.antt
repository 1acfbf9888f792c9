-- Steps written out by a loop over numbered steps.
-- Assumes nothing.
use Prim.Native.Nat.{ℕ, ◌+◌, ◌≤◌, ◌<◌}
use native.Mathlib.Omega.{arith}
use mathlib.Core.Path.{◌≡◌, refl, sym, ap, ◌∙◌}
use mathlib.Core.List.{List, [], ◌∷◌, ◌++◌, map, map-append}
use lib.ListN.{length, get_or, set, length-map}
use lib.Seq.{sets}
use Rattle.std.specs.List.{enumerate_from}
use Rattle.std.proofs.lemmas.List.FromFn.{length-enumerate_from, get_or-enumerate_from}
use Rattle.format.specs.Calls.{over}
use Rattle.laws.proofs.Stores.{stores, stores_over}
use Rattle.text_display.specs.declared.Step.{Step}

abbrev pub steps_in : List (ℕ × Step) → List Step
steps_in ps = map (λ p. p.1) ps

-- a step's number is its place
pub place_is : (xs : List Step) (i place : ℕ) (s : Step) → i < length (enumerate_from 0 xs) → (place, s) ≡ get_or (enumerate_from 0 xs) i (place, s) → place ≡ i
place_is xs i place s h e =
    let n = ap (λ (p : ℕ × Step). p.0) (e ∙ get_or-enumerate_from 0 xs i (place, s) (omega (arith, h, length-enumerate_from 0 xs))) in
    omega arith

pub store_step : (f : Step → ℕ) (ps : List (ℕ × Step)) (place : ℕ) (s : Step) (d out : List ℕ) → place ≡ length ps
    → out ≡ sets d 0 (map f (map (λ p. p.1) ps)) → set out place (f s) ≡ sets d 0 (map f (map (λ p. p.1) (ps ++ (place, s) ∷ [])))
store_step f ps place s d out e q =
    let k : place ≡ 0 + length (map f (steps_in ps)) = omega (arith, e, length-map (steps_in ps) f, length-map ps (λ (p : ℕ × Step). p.1)) in
    stores d out (set out place (f s)) (map f (steps_in ps)) (f s ∷ []) 0 place q k refl
    ∙ ap (sets d 0) (sym (ap (map f) (map-append (λ (p : ℕ × Step). p.1) ps ((place, s) ∷ [])) ∙ map-append f (steps_in ps) (s ∷ [])))

-- all of them were numbered
numbered : (n : ℕ) (xs : List Step) → steps_in (enumerate_from n xs) ≡ xs
numbered n [] = refl
numbered n (x ∷ xs) = ap (λ (l : List Step). x ∷ l) (numbered (n + 1) xs)

pairs_same : (ps : List (ℕ × Step)) → steps_in ps ≡ steps_in (map (λ p. (p.0, p.1)) ps)
pairs_same [] = refl
pairs_same (p ∷ ps) = ap (λ (l : List Step). p.1 ∷ l) (pairs_same ps)

pub store_all : (f : Step → ℕ) (xs : List Step) (ps : List (ℕ × Step)) (d out : List ℕ) → map (λ p. (p.0, p.1)) ps ≡ enumerate_from 0 xs
    → length xs ≤ length d → out ≡ sets d 0 (map f (map (λ p. p.1) ps)) → out ≡ over (map f xs) d
store_all f xs ps d out e h q =
    let all : steps_in ps ≡ xs = pairs_same ps ∙ ap (λ (l : List (ℕ × Step)). steps_in l) e ∙ numbered 0 xs in
    stores_over d out (map f xs) (omega (arith, length-map xs f)) (q ∙ ap (λ (l : List Step). sets d 0 (map f l)) all)
