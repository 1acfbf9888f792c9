-- More laws of lib.Seq's `paste d at x n`: d, with the n elements from `at` on replaced by x's first n.
-- Assumes nothing.
use Prim.Native.Nat.{ℕ, zero, suc, ◌+◌, ◌*◌, ◌-◌, ◌/◌, ◌%◌, max, ◌≤◌, ◌<◌}
use native.Mathlib.Nat.{eq-or-lt_of_le}
use native.Mathlib.Omega.{arith}
use mathlib.Core.Logic.{⊎_elim}
use mathlib.Core.Path.{◌≡◌, refl, sym, ap, ap₂, ◌∙◌}
use mathlib.Core.List.{List, ◌∷◌, ◌++◌, append_assoc}
use lib.ListN.{length, get_or, take, drop, set, replicate, length-drop, get_or-append, take-append-drop}
use lib.Seq.{paste, paste-zero, paste-suc, length-paste, length_paste_head, take-paste, drop-paste, length-take-le, take-append-le, take-take, drop_at, drop-drop}
use lib.Seq.{drop-append-le, take-add, get_or-drop, get_or-take, get_or-append-add, set-get_or}
use Rattle.laws.proofs.Sequences.{drop-replicate}

-- nothing is replaced
pub paste_none : (d : List ℕ) (at : ℕ) (x : List ℕ) (n : ℕ) → n ≡ 0 → d ≡ paste d at x n
paste_none d at x n e = paste-zero d at x ∙ ap (λ (k : ℕ). paste d at x k) (sym e)

-- a run moved by nothing is where it was
pub paste_self : (d : List ℕ) (at n : ℕ) → paste d at (drop at d) n ≡ d
paste_self d at n = ap (λ (l : List ℕ). l ++ drop (at + n) d) (sym (take-add at n d)) ∙ take-append-drop (at + n) d

-- only the first n elements of x are read
paste_agree : (d : List ℕ) (at : ℕ) (x y : List ℕ) (n : ℕ) → take n x ≡ take n y → paste d at x n ≡ paste d at y n
paste_agree d at x y n e = ap (λ (l : List ℕ). take at d ++ l ++ drop (at + n) d) e

-- ---- a run of n elements in two parts, of a and of b

module _ (d : List ℕ) (at : ℕ) (x : List ℕ) (a b n : ℕ) (sum : a + b ≡ n) (fits : at + a ≤ length d) where
  joined : take at d ++ take a x ++ take b (drop a x) ++ drop (at + a + b) d ≡ paste d at x n
  joined =
      let e : at + a + b ≡ at + n = omega arith in
      ap (λ (l : List ℕ). l ++ drop (at + a + b) d) (append_assoc (take at d) (take a x) (take b (drop a x)))
      ∙ ap₂ (λ (l : List ℕ) (k : ℕ). take at d ++ l ++ drop k d) (sym (take-add a b x) ∙ ap (λ (k : ℕ). take k x) sum) e

  -- the front first
  paste_front : a ≤ length x → paste (paste d at x a) (at + a) (drop a x) b ≡ paste d at x n
  paste_front long =
      let e : List ℕ = paste d at x a in
      let within : at ≤ length d = omega arith in
      let behind : drop (at + a + b) e ≡ drop (at + a + b) d =
      sym (drop-drop b (at + a) e) ∙ ap (drop b) (drop-paste d at x a within long) ∙ drop-drop b (at + a) d in
      ap₂ (λ (l r : List ℕ). l ++ take b (drop a x) ++ r) (take-paste d at x a within long) behind ∙ joined

  -- the back first
  paste_back : paste (paste d (at + a) (drop a x) b) at x a ≡ paste d at x n
  paste_back =
      let y : List ℕ = take b (drop a x) in
      let r : List ℕ = drop (at + a + b) d in
      let e : paste d (at + a) (drop a x) b ≡ take (at + a) d ++ (y ++ r) = append_assoc (take (at + a) d) y r in
      let lt : length (take (at + a) d) ≡ at + a = length-take-le (at + a) d fits in
      let before : take at (take (at + a) d ++ (y ++ r)) ≡ take at d =
      take-append-le at (take (at + a) d) (y ++ r) (omega arith) ∙ take-take at (at + a) d (omega arith) in
      ap (λ (l : List ℕ). paste l at x a) e
      ∙ ap₂ (λ (l m : List ℕ). l ++ take a x ++ m) before (drop_at (take (at + a) d) (y ++ r) (at + a) lt)
      ∙ sym (append_assoc (take at d ++ take a x) y r)
      ∙ joined

-- ---- the same, where the first part has given the list e

-- from a source that stays as it is; the second part lies at `next` and is read at q
pub laid_then : (d e src : List ℕ) (at p a b n next q : ℕ) → a + b ≡ n → next ≡ at + a → q ≡ p + a → at + a ≤ length d → p + a ≤ length src
    → e ≡ paste d at (drop p src) a → paste e next (drop q src) b ≡ paste d at (drop p src) n
laid_then d e src at p a b n next q sum e₁ e₂ fits long given =
    ap₂ (λ (m k : ℕ). paste e m (drop k src) b) e₁ e₂
    ∙ ap₂ (λ (l y : List ℕ). paste l (at + a) y b) given (sym (drop-drop a p src))
    ∙ paste_front d at (drop p src) a b n sum fits (omega (arith, length-drop p src))

-- a run of the list itself, moved down
pub down_then : (d e : List ℕ) (from to a b n : ℕ) → a + b ≡ n → to ≤ from → from + a ≤ length d
    → e ≡ paste d to (drop from d) a → paste e (to + a) (drop (from + a) e) b ≡ paste d to (drop from d) n
down_then d e from to a b n sum down fits given =
    let k : to + a + (from - to) ≡ from + a = omega arith in
    let behind : drop (to + a) e ≡ drop (to + a) d =
    ap (drop (to + a)) given ∙ drop-paste d to (drop from d) a (omega arith) (omega (arith, length-drop from d)) in
    let kept : drop (from + a) e ≡ drop (from + a) d =
    ap (λ (m : ℕ). drop m e) (sym k) ∙ sym (drop-drop (from - to) (to + a) e) ∙ ap (drop (from - to)) behind
    ∙ drop-drop (from - to) (to + a) d ∙ ap (λ (m : ℕ). drop m d) k in
    ap (λ (l : List ℕ). paste e (to + a) l b) kept ∙ laid_then d e d to from a b n (to + a) (from + a) sum refl refl (omega arith) fits given

middle : (l r : List ℕ) (p n : ℕ) → p + n ≤ length l → take n (drop p (l ++ r)) ≡ take n (drop p l)
middle l r p n h =
    ap (take n) (drop-append-le p l r (omega arith)) ∙ take-append-le n (drop p l) r (omega (arith, length-drop p l))

-- and moved up: the first part is the back
pub up_then : (d e : List ℕ) (from to a b n : ℕ) → a + b ≡ n → from ≤ to → to + a ≤ length d
    → e ≡ paste d (to + a) (drop (from + a) d) b → paste e to (drop from e) a ≡ paste d to (drop from d) n
up_then d e from to a b n sum up fits given =
    let l : List ℕ = take (to + a) d in
    let y : List ℕ = take b (drop (from + a) d) in
    let r : List ℕ = drop (to + a + b) d in
    let ll : length l ≡ to + a = length-take-le (to + a) d fits in
    let kept : take a (drop from e) ≡ take a (drop from d) =
    ap (λ (m : List ℕ). take a (drop from m)) (given ∙ append_assoc l y r) ∙ middle l (y ++ r) from a (omega arith)
    ∙ sym (middle l (drop (to + a) d) from a (omega arith)) ∙ ap (λ (m : List ℕ). take a (drop from m)) (take-append-drop (to + a) d) in
    paste_agree e to (drop from e) (drop from d) a kept
    ∙ ap (λ (m : List ℕ). paste m to (drop from d) a) (given ∙ ap (λ (m : List ℕ). paste d (to + a) m b) (sym (drop-drop a from d)))
    ∙ paste_back d to (drop from d) a b n sum fits

-- ---- single elements

-- one stored
paste_one : (d src : List ℕ) (at p v : ℕ) → at < length d → p < length src → v ≡ get_or src p 0 → set d at v ≡ paste d at (drop p src) 1
paste_one d src at p v fits long e =
    let x : List ℕ = drop p src in
    let k : at + 0 ≡ at = omega arith in
    let j : p + 0 ≡ p = omega arith in
    ap₂ (λ (n w : ℕ). set d n w) (sym k) (e ∙ sym (get_or-drop p src 0 0 ∙ ap (λ (n : ℕ). get_or src n 0) j))
    ∙ ap (λ (l : List ℕ). set l (at + 0) (get_or x 0 0)) (paste-zero d at x)
    ∙ paste-suc d at x 0 0 (omega arith) (omega (arith, length-drop p src))

-- two stored
pub paste_two : (d src : List ℕ) (at p u v : ℕ) → at + 1 < length d → p + 1 < length src → u ≡ get_or src p 0 → v ≡ get_or src (p + 1) 0
    → set (set d at u) (at + 1) v ≡ paste d at (drop p src) 2
paste_two d src at p u v fits long eu ev =
    let x : List ℕ = drop p src in
    ap₂ (λ (l : List ℕ) (w : ℕ). set l (at + 1) w) (paste_one d src at p u (omega arith) (omega arith) eu) (ev ∙ sym (get_or-drop p src 1 0))
    ∙ paste-suc d at x 1 0 fits (omega (arith, length-drop p src))

-- ---- the ends of a run

-- what is laid is read back
inside : (d : List ℕ) (at : ℕ) (x : List ℕ) (n k : ℕ) → at ≤ length d → n ≤ length x → k < n → get_or (paste d at x n) (at + k) 0 ≡ get_or x k 0
inside d at x n k fits long less =
    let front : List ℕ = take at d in
    let place : at + k ≡ length front + k = omega (arith, length-take-le at d fits) in
    get_or-append (front ++ take n x) (drop (at + n) d) 0 (at + k) (omega (arith, length_paste_head d at x n fits long))
    ∙ ap (λ (j : ℕ). get_or (front ++ take n x) j 0) place
    ∙ get_or-append-add front (take n x) k 0
    ∙ get_or-take n x k 0 less

-- element k of x stored where the first n are laid: it is there already, or is the next
stored : (d : List ℕ) (at : ℕ) (x : List ℕ) (n k r : ℕ) → k ≤ n → max n (suc k) ≡ r → r ≤ length x → at + r ≤ length d
    → set (paste d at x n) (at + k) (get_or x k 0) ≡ paste d at x r
stored d at x n k r near e long fits = ⊎_elim next there (eq-or-lt_of_le near)
  where
    next : k ≡ n → set (paste d at x n) (at + k) (get_or x k 0) ≡ paste d at x r
    next same =
        let e' : suc n ≡ r = omega arith in
        ap (λ (j : ℕ). set (paste d at x n) (at + j) (get_or x j 0)) same ∙ paste-suc d at x n 0 (omega arith) (omega arith) ∙ ap (paste d at x) e'

    there : k < n → set (paste d at x n) (at + k) (get_or x k 0) ≡ paste d at x r
    there less =
        let e' : n ≡ r = omega arith in
        ap (set (paste d at x n) (at + k)) (sym (inside d at x n k (omega arith) (omega arith) less))
        ∙ set-get_or (paste d at x n) (at + k) 0
        ∙ ap (paste d at x) e'

-- the first element stored, where h elements are left out in front of those laid
first : (d e x : List ℕ) (at h m r : ℕ) → h ≤ 1 → max (h + m) 1 ≡ r → r ≤ length x → at + r ≤ length d
    → e ≡ paste d (at + h) (drop h x) m → set e at (get_or x 0 0) ≡ paste d at x r
first d e x at zero m r one sum long fits given =
    let k : at + 0 ≡ at = omega arith in
    ap₂ (λ (l : List ℕ) (j : ℕ). set l j (get_or x 0 0)) (given ∙ ap (λ (j : ℕ). paste d j x m) k) (sym k)
    ∙ stored d at x m 0 r (omega arith) (omega arith) long fits
first d e x at (suc zero) m r one sum long fits given =
    paste_one e x at 0 (get_or x 0 0) (omega (arith, ap length given, length-paste d (at + 1) (drop 1 x) m (omega arith) (omega (arith, length-drop 1 x)))) (omega arith) refl
    ∙ ap (λ (l : List ℕ). paste l at x 1) given
    ∙ paste_back d at x 1 m r (omega arith) (omega arith)
first d e x at (suc (suc h)) m r one sum long fits given = absurd (omega arith)

-- a run of count elements is read from p on and laid from `at` on. All but a first one, if x is odd, and at most a last one have given e,
-- read from q on and laid from `next` on; then the first is stored, and the last, read at w, at z.
pub ends : (d e src : List ℕ) (at p x count next q z w u v : ℕ) → 0 < count → at + count ≤ length d → p + count ≤ length src
    → next ≡ at + x % 2 → q ≡ p + x % 2 → z ≡ at + (count - 1) → w ≡ p + (count - 1) → u ≡ get_or src p 0 → v ≡ get_or src w 0
    → e ≡ paste d next (drop q src) (2 * ((count - x % 2) / 2)) → set (set e at u) z v ≡ paste d at (drop p src) count
ends d e src at p x count next q z w u v some fits long en eq ez ew eu ev given =
    let run : List ℕ = drop p src in
    let wide : length run ≡ length src - p = length-drop p src in
    let h : ℕ = x % 2 in
    let m : ℕ = 2 * ((count - h) / 2) in
    let k : ℕ = count - 1 in
    let p₀ : p + 0 ≡ p = omega arith in
    let u' : u ≡ get_or run 0 0 = eu ∙ sym (get_or-drop p src 0 0 ∙ ap (λ (j : ℕ). get_or src j 0) p₀) in
    let v' : v ≡ get_or run k 0 = ev ∙ sym (get_or-drop p src k 0 ∙ ap (λ (j : ℕ). get_or src j 0) (sym ew)) in
    let given' : e ≡ paste d (at + h) (drop h run) m =
    given ∙ ap₂ (λ (i j : ℕ). paste d i (drop j src) m) en eq ∙ ap (λ (l : List ℕ). paste d (at + h) l m) (sym (drop-drop h p src)) in
    ap₂ (λ (i j : ℕ). set (set e at i) z j) u' v'
    ∙ ap₂ (λ (l : List ℕ) (j : ℕ). set l j (get_or run k 0)) (first d e run at h m (max (h + m) 1) (omega arith) refl (omega arith) (omega arith) given') ez
    ∙ stored d at run (max (h + m) 1) k count (omega arith) (omega arith) (omega arith) fits

-- ---- zeros

-- any m zeros of a run of zeros are m zeros
take-zeros : (m n : ℕ) → m ≤ n → take {A = ℕ} m (replicate n 0) ≡ replicate m 0
take-zeros zero n h = refl
take-zeros (suc m) zero h = absurd (omega arith)
take-zeros (suc m) (suc n) h = ap (λ (l : List ℕ). 0 ∷ l) (take-zeros m n (omega arith))

pub paste_zeros : (d : List ℕ) (at h m n : ℕ) → h + m ≤ n → paste d at (replicate m 0) m ≡ paste d at (drop h (replicate n 0)) m
paste_zeros d at h m n le =
    paste_agree d at (replicate m 0) (drop h (replicate n 0)) m
    (take-zeros m m (omega arith) ∙ sym (ap (take m) (drop-replicate h n 0) ∙ take-zeros m (n - h) (omega arith)))
