-- The entry of a symbol, and the stores of its nibbles: w / 4096 nibbles, of the value w % 4096.
-- Assumes nothing.
use Prim.Native.Nat.{ℕ, ◌+◌, ◌-◌, ◌*◌, ◌/◌, ◌%◌, ◌≤◌, ◌<◌}
use native.Mathlib.Omega.{arith}
use mathlib.Core.Path.{◌≡◌, refl, ap, ap₂, ◌∙◌}
use mathlib.Core.List.{List}
use lib.ListN.{length, get_or, set}
use lib.Seq.{sets, set-set}
use lib.Arith.{digits_mod}
use lib.Dec.{ltb}
use borrow.Author.Tests.{ltb-true, ltb-false, ne_eqb}
use Rattle.format.specs.ShipText.{code_nibbles, symbol_of}
use Rattle.characters.specs.Table.{Formed, nibbles_by}
use Rattle.laws.proofs.Sequences.{test_case}
use Rattle.laws.proofs.Stores.{store_one, store_two, store_three, code_one, code_two, code_three}

module _ (w : ℕ) (h : w / 4096 ≡ length (code_nibbles (w % 4096))) where
  data Width : Type 0 where
    one : w % 4096 < 16 → w / 4096 ≡ 1 → Width
    two : 16 ≤ w % 4096 → w % 4096 < 256 → w / 4096 ≡ 2 → Width
    three : 256 ≤ w % 4096 → w / 4096 ≡ 3 → Width

  width : Width
  width =
      test_case (ltb (w % 4096) 16)
      (λ e. let l = ltb-true (w % 4096) 16 e in one l (h ∙ ap length (code_one (w % 4096) l)))
      (λ e.
      let l = ltb-false (w % 4096) 16 e in
      test_case (ltb (w % 4096) 256)
      (λ f. let k = ltb-true (w % 4096) 256 f in two l k (h ∙ ap length (code_two (w % 4096) l k)))
      (λ f. let k = ltb-false (w % 4096) 256 f in three k (h ∙ ap length (code_three (w % 4096) k))))

  pub entry_some : 1 ≤ w / 4096
  entry_some = elim width [ one _ e ↦ omega arith | two _ _ e ↦ omega arith | three _ e ↦ omega arith ]

  -- one nibble or two: of one, both stores are at its place
  pub entry-short : (at : ℕ) (d o p : List ℕ) → w < 0x3000 → o ≡ set d at (w / 16 % 16) → p ≡ set o (at + w / 4096 - 1) (w % 16) → p ≡ sets d at (code_nibbles (w % 4096))
  entry-short at d o p k f g =
      elim width [
        | one l e ↦
            let i : at + w / 4096 - 1 ≡ at = omega arith in
            let v : w ≡ 256 * 16 + w % 4096 = omega arith in
            let last : w % 16 ≡ w % 4096 = ap (λ (x : ℕ). x % 16) v ∙ digits_mod 256 l in
            (store_one d at (code_nibbles (w % 4096)) p (w % 4096) (code_one (w % 4096) l)
            (g ∙ ap₂ (λ (j x : ℕ). set o j x) i last ∙ ap (λ (q : List ℕ). set q at (w % 4096)) f ∙ set-set d at (w / 16 % 16) (w % 4096))).1
        | two l m e ↦
            let i : at + w / 4096 - 1 ≡ at + 1 = omega arith in
            let high : w % 4096 / 16 < 16 = omega arith in
            let v : w / 16 ≡ 32 * 16 + w % 4096 / 16 = omega arith in
            let first : w / 16 % 16 ≡ w % 4096 / 16 = ap (λ (x : ℕ). x % 16) v ∙ digits_mod 32 high in
            (store_two d at (code_nibbles (w % 4096)) o p (w % 4096 / 16) (w % 4096 % 16) (code_two (w % 4096) l m)
            (f ∙ ap (set d at) first) (g ∙ ap₂ (λ (j x : ℕ). set o j x) i (omega arith))).1
        | three l e ↦ absurd (omega arith)
      ]

  pub entry_long : (at : ℕ) (d o p q : List ℕ) → 0x3000 ≤ w → o ≡ set d at (w / 256 % 16) → p ≡ set o (at + 1) (w / 16 % 16) → q ≡ set p (at + 2) (w % 16)
      → q ≡ sets d at (code_nibbles (w % 4096))
  entry_long at d o p q k f g j =
      elim width [
        | one l e ↦ absurd (omega arith)
        | two l m e ↦ absurd (omega arith)
        | three l e ↦
            let high : w % 4096 / 256 < 16 = omega arith in
            let v : w / 256 ≡ 3 * 16 + w % 4096 / 256 = omega arith in
            let first : w / 256 % 16 ≡ w % 4096 / 256 = ap (λ (x : ℕ). x % 16) v ∙ digits_mod 3 high in
            let u : w / 16 ≡ 768 + w % 4096 / 16 = omega arith in
            let middle : w / 16 % 16 ≡ w % 4096 / 16 % 16 = omega arith in
            store_three d at (code_nibbles (w % 4096)) o p q (w % 4096 / 256) (w % 4096 / 16 % 16) (w % 4096 % 16) (code_three (w % 4096) l)
            (f ∙ ap (set d at) first) (g ∙ ap (set o (at + 1)) middle) (j ∙ ap (set p (at + 2)) (omega arith))
      ]

-- ---- the entry of a symbol

pub entry_plain : (t : List ℕ) (b o : ℕ) → Formed t → b < 256 → o ≡ 0
    → (get_or t b 0 / 4096 ≡ length (code_nibbles (get_or t b 0 % 4096))) × (code_nibbles (get_or t b 0 % 4096) ≡ nibbles_by t (symbol_of b o))
unfolding symbol_of
entry_plain t b o f h e = rw e (f.count b h, refl)

pub entry_original : (t : List ℕ) (b o : ℕ) → b < 256 → (o ≡ 0 → ⊥)
    → ((0x3f00 + b) / 4096 ≡ length (code_nibbles ((0x3f00 + b) % 4096))) × (code_nibbles ((0x3f00 + b) % 4096) ≡ nibbles_by t (symbol_of b o))
unfolding symbol_of
entry_original t b o h n =
    let v : (0x3f00 + b) % 4096 ≡ 3840 + b = omega arith in
    let i : (3840 + b) / 256 ≡ 15 = omega arith in
    let j : (3840 + b) / 16 % 16 ≡ b / 16 = omega arith in
    let k : (3840 + b) % 16 ≡ b % 16 = omega arith in
    rw (v, code_three (3840 + b) (omega arith), i, j, k, ne_eqb o 0 n) (omega arith, refl)
