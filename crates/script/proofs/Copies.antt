-- Bytes copied one after the other.
-- Assumes nothing.
use Prim.Native.Nat.{ℕ, suc, ◌+◌, ◌≤◌, ◌<◌}
use native.Mathlib.Omega.{arith}
use mathlib.Core.Path.{◌≡◌, refl, sym, ◌∙◌}
use mathlib.Core.List.{List}
use lib.ListN.{length, get_or, take, set, length-set}
use lib.Seq.{take_all, take-suc, take-suc-set}

pub record Copied (from to : List ℕ) (i : ℕ) : Type 0 where
  pub same_length : length to ≡ length from
  pub within : i ≤ length from
  pub same : take i to ≡ take i from

pub copied_start : (from to : List ℕ) → length from ≡ length to → Copied from to 0
copied_start from to h = record { same_length = sym h; within = omega arith; same = refl }

pub copied_more : (from to : List ℕ) (i : ℕ) → Copied from to i → i < length from → Copied from (set to i (get_or from i 0)) (i + 1)
copied_more from to i c h =
    let l = c.same_length in
    let e : i + 1 ≡ suc i = omega arith in
    record {
      same_length = rw (length-set to i (get_or from i 0)) l;
      within = omega arith;
      same = rw (e, take-suc-set to i (get_or from i 0) (omega arith), take-suc from i 0 h, c.same);
    }

pub copied_end : (from to : List ℕ) (i : ℕ) → Copied from to i → length from ≤ i → to ≡ from
copied_end from to i c h =
    let l = c.same_length in
    sym (take_all i to (omega arith)) ∙ c.same ∙ take_all i from h
