-- A look at an attachment is the first of its checks.
-- Assumes nothing.
use Prim.Native.Nat.{ℕ, suc, ◌+◌, ◌-◌, ◌≤◌, ◌<◌}
use native.Mathlib.Omega.{arith}
use mathlib.Core.Path.{◌≡◌, refl, sym, ap, ◌∙◌}
use mathlib.Core.Bool.{Bool, true, false, cond, not, ◌||◌}
use mathlib.Core.List.{List, ◌∷◌}
use mathlib.Core.Option.{Option, some}
use Rattle.std.specs.Prelude.{Result, Ok, Err}
use lib.ListN.{length}
use lib.Dec.{ltb, eqb}
use borrow.Author.Tests.{ltb-false, lt-ltb, le-ltb}
use Rattle.std.proofs.lemmas.Bool.Decides.{nat_tests}
use Rattle.format.specs.Order.{Refusal, first}
use Rattle.format.specs.Flags.{FlagTable}
use Rattle.format.specs.Nibbles.{length_at, id_at, behind, Nibbles}
use Rattle.format.specs.Report.{body_valid, attachment_checks}
use Rattle.format.specs.Whole.{bit_at}
use Rattle.laws.proofs.Sequences.{or_false}
use Rattle.nibble.specs.View.{view, from, part, moved}
use Rattle.nibble.specs.declared.Cursor.{Cursor}
use Rattle.nibble.proofs.View.{IsHead, from-length, from-moved, from-nibbles}
use Rattle.nibble.specs.declared.Header.{Header}
use Rattle.tail.specs.Look.{refused, judged_at, head_at, looked_at}
use Rattle.tail.proofs.Mask.{Seen}

-- ---- what the tests of the code answer

-- whether data fit, by their last nibble
pub data_fit : (b : List ℕ) (h : Header) → (h.al ≡ 0 → ⊥) → ltb (h.body.at + h.al - 1) (length (view h.body.packed b)) ≡ not (ltb (length (from b h.body)) h.al)
data_fit b h n = grind (arith, nat_tests, from-length b h.body)

-- a header that does not fit, and one that does
module _ (marks : FlagTable) (b : List ℕ) (c : Cursor) (mask i : ℕ) where
  pub look_short : length (view c.packed b) < c.at + 3 → refused 1 i ≡ looked_at marks b c mask i
  unfolding looked_at
  look_short h =
      let g : length (from b c) < 3 = omega (arith, from-length b c) in
      rw (lt-ltb (length (from b c)) 3 g)

  pub look_judged : (h : Header) → IsHead b c h → judged_at marks b h mask i ≡ looked_at marks b c mask i
  unfolding looked_at
  look_judged h p =
      let inside = p.inside in
      let g : 3 ≤ length (from b c) = omega (arith, from-length b c) in
      let e : head_at b c ≡ h = λ j. record { al = sym p.read j; id = sym p.told j; body = sym p.behind j } in
      rw (le-ltb (length (from b c)) 3 g, e)

-- ---- a look and the checks

-- the refusal that a look tells, or else what the others find
abbrev pub told : Result Header Refusal → Option Refusal → Option Refusal
told (Err r) more = some r
told (Ok h) more = more

-- a look's tests become those of the checks
told_cond : (t : Bool) (x y : Result Header Refusal) (more : Option Refusal) → told (cond t x y) more ≡ cond t (told x more) (told y more)
told_cond true x y more = refl
told_cond false x y more = refl

-- the first check of an attachment and of those behind it
pub look_checks : (marks : FlagTable) (b : List ℕ) (c : Cursor) (mask : ℕ) (seen : List ℕ) (n i : ℕ) → Seen mask seen
    → first (attachment_checks marks (suc n) i seen (from b c))
    ≡ told (looked_at marks b c mask i) (first (attachment_checks marks n (suc i) (id_at (from b c) ∷ seen) (behind (from b c))))
unfolding looked_at judged_at attachment_checks first
look_checks marks b c mask seen n i m = simp (told_cond, m.at, ← from-moved b c 3)

-- an attachment that passes: what was read, that its id is new, and that its data fit
pub record Passed (b : List ℕ) (c : Cursor) (mask : ℕ) (h : Header) : Type 0 where
  pub read : h ≡ head_at b c
  pub new : bit_at mask h.id ≡ false
  pub fits : c.at + (3 + h.al) ≤ length (view c.packed b)

-- a test that passes to what follows it
cond_fine : (t : Bool) (r : Refusal) (v : Result Header Refusal) (h : Header) → cond t (Err r) v ≡ Ok h → (t ≡ false) × (v ≡ Ok h)
cond_fine true r v h e = cc
cond_fine false r v h e = (refl, e)

pub passes : (marks : FlagTable) (b : List ℕ) (c : Cursor) (mask i : ℕ) (h : Header) → looked_at marks b c mask i ≡ Ok h → Passed b c mask h
unfolding looked_at judged_at
passes marks b c mask i h e =
    let k = head_at b c in
    let e1 = cond_fine (ltb (length (from b c)) 3) _ (judged_at marks b k mask i) h e in
    let e2 = cond_fine (eqb k.al 0 || (eqb k.id 0 || bit_at mask k.id)) _ _ h e1.1 in
    let e3 = cond_fine (ltb (length (from b k.body)) k.al) _ _ h e2.1 in
    let e4 = cond_fine (not (body_valid marks k.id (part b k.body k.al))) _ (Ok k) h e3.1 in
    let t1 = or_false (eqb k.al 0) (eqb k.id 0 || bit_at mask k.id) e2.0 in
    let t2 = or_false (eqb k.id 0) (bit_at mask k.id) t1.1 in
    let h1 = ltb-false (length (from b c)) 3 e1.0 in
    let h3 = ltb-false (length (from b k.body)) k.al e3.0 in
    let q : Ok k ≡ Ok h = e4.1 in
    let read : h ≡ k = cc in
    let al : h.al ≡ k.al = ap (λ (x : Header). x.al) read in
    record {
      read = read;
      new = ap (λ (x : Header). bit_at mask x.id) read ∙ t2.1;
      fits = omega (arith, from-length b c, from-length b (moved c 3));
    }

-- its AL and id, where the buffer is of nibbles
pub head_small : (b : List ℕ) (c : Cursor) (h : Header) → Nibbles (view c.packed b) → h ≡ head_at b c → (h.al < 256) × (h.id < 16)
head_small b c h n e =
    let k = from-nibbles b c n in
    let n0 = k 0 in
    let n1 = k 1 in
    let n2 = k 2 in
    let al : h.al ≡ length_at (from b c) = ap (λ (x : Header). x.al) e in
    let id : h.id ≡ id_at (from b c) = ap (λ (x : Header). x.id) e in
    (omega arith, omega arith)
