-- What is listed of all that a reader had, by the part of it that was read.
-- Assumes nothing.
use Rattle.std.proofs.Common.{◌≡◌, ℕ, ◌≤◌, ◌<◌, List, [], ◌++◌, length, take, drop, IfSome, None, Some, inl, inr, sym, ap, ◌∙◌, subst, append-nil, take_at, Option}
use Rattle.std.proofs.lemmas.Bool.{cases_lt}
use Rattle.std.proofs.lemmas.List.{take-append-le}
use Rattle.std.specs.Io.KnownBytes.{Consumes, Appends, IsAtEnd}
use Rattle.format.specs.Calls.{over}
use Rattle.format.specs.Flags.{all_yes}
use Rattle.format.specs.Report.{judge}
use Rattle.format.specs.Lister.{listing_of, listing}

-- the part goes to the end, or has 1856 bytes
module _ (part : List ℕ) (within : length part ≤ 1856) where
  listing_part : (rest : List ℕ) → (length part < 1856 → rest ≡ []) → listing (part ++ rest) ≡ listing part
  unfolding listing
  listing_part rest ended =
      elim (cases_lt (length part) 1856) [
        | inl short ↦ ap (λ (l : List ℕ). listing (part ++ l)) (ended short) ∙ ap listing (append-nil part)
        | inr full ↦ ap (λ (l : List ℕ). listing_of (judge all_yes l)) (take-append-le 1856 part rest full)
      ]

  pub lists_all : (old new a b : Option (List ℕ)) → Consumes old new part → (length part < 1856 → IsAtEnd new) → Appends a b (listing part)
      → IfSome old (λ (input : List ℕ). Appends a b (listing input))
  lists_all None new a b p ended w = tt
  lists_all (Some xs) None a b p ended w = absurd p
  lists_all (Some xs) (Some ys) a b p ended w = subst (Appends a b) (sym (ap listing p ∙ listing_part ys ended)) w

-- what a listing put at the front of an output
pub taken : (xs out old : List ℕ) (n : ℕ) → n ≡ length xs → out ≡ over xs old → take n out ≡ xs
taken xs out old n e f = ap (take n) f ∙ take_at xs (drop (length xs) old) n (sym e)
