-- Numbers laid on a card.
-- Assumes nothing.
use Prim.Native.Nat.{ℕ, ◌≤◌}
use mathlib.Core.Path.{◌≡◌, refl, ap, ◌∙◌}
use mathlib.Core.Bool.{Bool, true, false, cond}
use mathlib.Core.List.{List}
use lib.ListN.{set}
use Rattle.format.specs.Field.{Field, in_range, coded_of}
use Rattle.format.specs.Report.{numbers_of}
use Rattle.format.specs.declared.Coded.{Coded}
use Rattle.format.specs.declared.Scaled.{Scaled}
use Rattle.laws.proofs.Fields.{coded_range}
use Rattle.std.specs.Prelude.{Some, None}
use Rattle.card.specs.Answers.{coding_of, Carded}

-- ---- the coded number of one value

module _ (f : Field) (v : Scaled) where
  pub coding_outside : None ≡ coding_of f v → in_range f v ≡ false
  unfolding coding_of
  coding_outside = go (in_range f v)
    where
      go : (t : Bool) → None ≡ cond t (Some (coded_of f v)) None → t ≡ false
      go true e = absurd (cc)
      go false e = refl

  pub coding_inside : (c : Coded) → Some c ≡ coding_of f v → in_range f v ≡ true
  unfolding coding_of
  coding_inside c = go (in_range f v)
    where
      go : (t : Bool) → Some c ≡ cond t (Some (coded_of f v)) None → t ≡ true
      go true e = refl
      go false e = absurd (cc)

  pub coding_code : (c : Coded) → Some c ≡ coding_of f v → (c ≡ coded_of f v) × (c.0 ≤ f.highest)
  unfolding coding_of
  coding_code c = go (in_range f v) refl
    where
      go : (t : Bool) → in_range f v ≡ t → Some c ≡ cond t (Some (coded_of f v)) None → (c ≡ coded_of f v) × (c.0 ≤ f.highest)
      go true i e = let q : c ≡ coded_of f v = cc in (q, rw q (coded_range f v i).1)
      go false i e = absurd (cc)

  pub coding_some : in_range f v ≡ true → coding_of f v ≡ Some (coded_of f v)
  unfolding coding_of
  coding_some e = rw e

-- ---- the card, number after number

pub carded_then : (s t u ns : List ℕ) (k v : ℕ) → Carded s t ns → Carded t u (set (numbers_of t) k v) → Carded s u (set ns k v)
carded_then s t u ns k v a b =
    record {
      card = b.card ∙ ap (λ (l : List ℕ). set l k v) a.card;
      behind = b.behind ∙ a.behind;
      long = b.long ∙ a.long;
    }
