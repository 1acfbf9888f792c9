-- Nibbles of a report replaced: room made for them, and an attachment laid in it.
-- Assumes nothing.
use Prim.Native.Nat.{ℕ, ◌+◌, ◌-◌, ◌*◌, ◌/◌, ◌%◌, ◌≤◌, max, min}
use native.Mathlib.Omega.{arith}
use mathlib.Core.Path.{◌≡◌, refl, sym, ap, ap₂, ◌∙◌}
use mathlib.Core.List.{List, [], ◌∷◌, ◌++◌, append_assoc}
use lib.ListN.{length, take, drop, set, length-drop, length-replicate}
use lib.Seq.{paste, paste-suc, take-paste, drop-paste, take_all, drop_at, take-take, drop-drop, take-append-le, length-take-le}
use Rattle.format.specs.Nibbles.{attachment, attachment_nibbles}
use Rattle.format.specs.Buffer.{zeros}
use Rattle.nibble_edit.proofs.Paste.{paste_two, laid_then}
use Rattle.laws.proofs.Edits.{cleared_to, spliced}
use Rattle.call_attachments.specs.Edit.{Resizable, resized}

-- a run moved, and zeros behind it
moved : (n : List ℕ) (at old new end k : ℕ) → at + new + (end - (at + old)) ≤ length n → end - (at + old) ≤ length (drop (at + old) n)
    → at + new + (end - (at + old)) + k ≡ cleared_to end (at + new + (end - (at + old)))
    → paste (paste n (at + new) (drop (at + old) n) (end - (at + old))) (at + new + (end - (at + old))) (zeros k) k ≡ resized n at old new end
moved n at old new end k fits long e =
    let p : ℕ = at + new in
    let rest : ℕ = end - (at + old) in
    let m : List ℕ = drop (at + old) n in
    let d : List ℕ = paste n p m rest in
    let k-is : k ≡ cleared_to end (p + rest) - (p + rest) = omega arith in
    let gone : drop (p + rest + k) d ≡ drop (cleared_to end (p + rest)) n =
    sym (drop-drop k (p + rest) d) ∙ ap (drop k) (drop-paste n p m rest (omega arith) long) ∙ drop-drop k (p + rest) n ∙ ap (λ (j : ℕ). drop j n) e in
    ap₂ (λ (x y : List ℕ). x ++ y ++ drop (p + rest + k) d) (take-paste n p m rest (omega arith) long) (take_all k (zeros k) (omega (arith, length-replicate {A = ℕ} k 0)) ∙ ap zeros k-is)
    ∙ ap (λ (y : List ℕ). take p n ++ take rest m ++ zeros (cleared_to end (p + rest) - (p + rest)) ++ y) gone
    ∙ append_assoc (take p n ++ take rest m) (zeros (cleared_to end (p + rest) - (p + rest))) (drop (cleared_to end (p + rest)) n)
    ∙ append_assoc (take p n) (take rest m) (zeros (cleared_to end (p + rest) - (p + rest)) ++ drop (cleared_to end (p + rest)) n)

-- a number of nibbles in whole bytes
pub half_up : (n : ℕ) → n / 2 + min 1 (n % 2) ≡ (n + 1) / 2
half_up n = omega arith

-- the two steps of a resize, in n bytes
pub resize_is : (n : List ℕ) {n₁ n₂ : List ℕ} {at old new end m size : ℕ} → Resizable size at old new end → length n ≡ 2 * size
    → m ≡ max (end / 2 + min 1 (end % 2)) ((at + new + (end - (at + old))) / 2 + min 1 ((at + new + (end - (at + old))) % 2))
    → n₁ ≡ paste n (at + new) (drop (at + old) n) (end - (at + old))
    → n₂ ≡ paste n₁ (at + new + (end - (at + old))) (zeros (2 * m - (at + new + (end - (at + old))))) (2 * m - (at + new + (end - (at + old))))
    → n₂ ≡ resized n at old new end
resize_is n {n₁} {n₂} {at} {old} {new} {end} {m} fits l e s₁ s₂ =
    let last : ℕ = at + new + (end - (at + old)) in
    let k : ℕ = 2 * m - last in
    let i = fits.inside in
    let f = fits.fits in
    let r = fits.room in
    let whole-bytes : m ≡ max ((end + 1) / 2) ((last + 1) / 2) = e ∙ ap₂ max (half_up end) (half_up last) in
    s₂ ∙ ap (λ (y : List ℕ). paste y last (zeros k) k) s₁
    ∙ moved n at old new end k (omega arith) (omega (arith, length-drop (at + old) n)) (ap (λ (j : ℕ). last + (2 * j - last)) whole-bytes ∙ whole (end + 1) last)
  where
    whole : (u v : ℕ) → v + (2 * max (u / 2) ((v + 1) / 2) - v) ≡ 2 * max (u / 2) ((v + 1) / 2)
    whole u v = omega arith

-- the header of an attachment stored, and its nibbles laid
pub attachment-laid : (n : List ℕ) {n₁ n₂ n₃ n₄ : List ℕ} (ns : List ℕ) (at i : ℕ) → at + (3 + length ns) ≤ length n
    → n₁ ≡ set n at (length ns / 16) → n₂ ≡ set n₁ (at + 1) (length ns % 16) → n₃ ≡ set n₂ (at + 2) i → n₄ ≡ paste n₃ (at + 3) ns (length ns)
    → n₄ ≡ paste n at (attachment_nibbles (attachment i ns)) (3 + length ns)
unfolding attachment_nibbles
attachment-laid n {n₁} {n₂} {n₃} {n₄} ns at i fits e₁ e₂ e₃ e₄ =
    let x : List ℕ = length ns / 16 ∷ length ns % 16 ∷ i ∷ ns in
    let two : n₂ ≡ paste n at x 2 =
    e₂ ∙ ap (λ (l : List ℕ). set l (at + 1) (length ns % 16)) e₁
    ∙ paste_two n x at 0 (length ns / 16) (length ns % 16) (omega arith) (omega arith) refl refl in
    let three : n₃ ≡ paste n at x 3 = e₃ ∙ ap (λ (l : List ℕ). set l (at + 2) i) two ∙ paste-suc n at x 2 0 (omega arith) (omega arith) in
    e₄ ∙ laid_then n n₃ x at 0 3 (length ns) (3 + length ns) (at + 3) 3 refl refl (omega arith) (omega arith) (omega arith) three

-- nothing is laid in the room made
pub spliced_none : (n : List ℕ) (at old end : ℕ) → resized n at old 0 end ≡ spliced n at old [] end
spliced_none n at old end =
    let e : at + 0 ≡ at = omega arith in
    let last : ℕ = at + 0 + (end - (at + old)) in
    ap (λ (k : ℕ). take k n ++ (take (end - (at + old)) (drop (at + old) n) ++ (zeros (cleared_to end last - last) ++ drop (cleared_to end last) n))) e

-- x is laid in the room made for it
pub spliced_laid : (n x : List ℕ) (at old new end : ℕ) → new ≡ length x → at + new ≤ length n
    → paste (resized n at old new end) at x new ≡ spliced n at old x end
spliced_laid n x at old new end l fits =
    let rest : ℕ = end - (at + old) in
    let t : List ℕ = take rest (drop (at + old) n) ++ (zeros (cleared_to end (at + new + rest) - (at + new + rest)) ++ drop (cleared_to end (at + new + rest)) n) in
    let m : length (take (at + new) n) ≡ at + new = length-take-le (at + new) n fits in
    let before : take at (take (at + new) n ++ t) ≡ take at n = take-append-le at (take (at + new) n) t (omega arith) ∙ take-take at (at + new) n (omega arith) in
    ap₂ (λ (y z : List ℕ). y ++ take new x ++ z) before (drop_at (take (at + new) n) t (at + new) m)
    ∙ ap (λ (y : List ℕ). take at n ++ y ++ t) (take_all new x (omega arith))
    ∙ append_assoc (take at n) x t
    ∙ ap (λ (j : ℕ). take at n ++ (x ++ (take rest (drop (at + old) n) ++ (zeros (cleared_to end (at + j + rest) - (at + j + rest)) ++ drop (cleared_to end (at + j + rest)) n)))) l
