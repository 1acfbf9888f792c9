-- A fetch of the ship text to the front of what was lent is the fetch to all of it, since no text has over 2295 symbols.
-- Assumes nothing.
use Prim.Native.Nat.{ℕ, ◌+◌, ◌-◌, ◌≤◌, min}
use native.Mathlib.Omega.{arith}
use mathlib.Core.Path.{◌≡◌, refl, sym, ap, ap₂, subst, ◌∙◌}
use mathlib.Core.Bool.{false}
use mathlib.Core.List.{List, [], ◌∷◌, ◌++◌, map, append_assoc, append-nil}
use mathlib.Core.Option.{Option, none, some}
use lib.Dec.{ltb}
use lib.ListN.{length, take, drop, length-map, take-append-drop, length-append, length-drop, drop_of_length-le}
use lib.Seq.{length-take-le, drop-append-le, take_at, drop_at}
use borrow.Author.Tests.{ltb-true, ltb-false, lt-ltb, le-ltb}
use Rattle.format.specs.Bits.{Bytes}
use Rattle.format.specs.Order.{Refusal, first}
use Rattle.format.specs.Flags.{FlagTable}
use Rattle.format.specs.ShipText.{byte_of, origin_of}
use Rattle.format.specs.Observation.{Observation, size}
use Rattle.format.specs.Report.{Verdict, judge}
use Rattle.format.specs.Calls.{Call, fetches, fetch_text, ship_text, content_of, outputs_of, writes, gives, overfull, over_each, call_checks, room_check, checks}
use Rattle.format.specs.Calls.{edited, shorter, Answer, Stepped, stepped_by, step, over}
use Rattle.format.specs.Buffer.{After, after, buffer_after, effect_on, effect}
use Rattle.laws.proofs.Sequences.{or_false, test_case}
use Rattle.laws.proofs.Order.{first_none, first-append_none}
use Rattle.laws.proofs.Bounds.{content_low}
use Rattle.laws.proofs.ShipText.{read_text_length}
use Rattle.laws.proofs.Report.{judged}
use Rattle.script.proofs.Log.{Alike, effect_outs}

-- an output that was lent, with its front taken from another: at most 2295 bytes, since no text has more symbols
abbrev pub fronted : List ℕ → List ℕ → List ℕ
fronted lent most = let k = min (length lent) 2295 in take k most ++ drop k lent

-- the second output with v behind it
abbrev longer : List ℕ → List (List ℕ) → List (List ℕ)
longer v [] = []
longer v (x ∷ []) = x ∷ []
longer v (x ∷ y ∷ []) = x ∷ (y ++ v) ∷ []
longer v (x ∷ y ∷ z ∷ more) = x ∷ y ∷ z ∷ more

abbrev widened : List ℕ → After → After
widened v a = after a.answer a.buffer (longer v a.outs)

-- u is as good as u and v behind it, for at most 2295 bytes
module _ (marks : FlagTable) (b out u v : List ℕ) (alike : (n : ℕ) → n ≤ 2295 → ltb (length u) n ≡ ltb (length (u ++ v)) n) where
  abbrev short : Call
  short = fetches (fetch_text out u)

  abbrev long : Call
  long = fetches (fetch_text out (u ++ v))

  module _ (s : Observation) (few : length (ship_text s) ≤ 2295) where
    same_checks : checks marks (length b) s short ≡ checks marks (length b) s long
    unfolding checks call_checks writes outputs_of overfull
    same_checks = rw (alike (length (map origin_of (ship_text s))) (omega (arith, length-map (ship_text s) origin_of)))

    abbrev left : Stepped → After
    left t = after t.answer (buffer_after t.answer b (size s) t.observation) t.outs

    by : (o : Option Refusal) → first (checks marks (length b) s short) ≡ o → widened v (left (stepped_by o s short)) ≡ left (stepped_by o s long)
    unfolding checks outputs_of writes gives overfull over_each
    by (some r) q = refl
    by none q =
        let f = first-append_none (call_checks marks s short) (room_check (length b) s short ∷ []) q in
        let room = (or_false (shorter (length b) (edited s short)) _ (first_none (room_check (length b) s short) [] f.1).0).1 in
        let os = map origin_of (ship_text s) in
        let fits = ltb-false (length u) (length os) (or_false (ltb (length u) (length os)) false (or_false (ltb (length out) (length (map byte_of (ship_text s)))) _ room).1).0 in
        let e : (os ++ drop (length os) u) ++ v ≡ os ++ drop (length os) (u ++ v) =
        append_assoc os (drop (length os) u) v ∙ ap (λ (l : List ℕ). os ++ l) (sym (drop-append-le (length os) u v fits)) in
        ap (λ (l : List ℕ). after (Answer.accepted (gives s short)) (buffer_after (Answer.accepted (gives s short)) b (size s) s) (over (map byte_of (ship_text s)) out ∷ l ∷ [])) e

    stepped : widened v (left (step marks (length b) s short)) ≡ left (step marks (length b) s long)
    unfolding step
    stepped = by (first (checks marks (length b) s short)) refl ∙ ap (λ (o : Option Refusal). left (stepped_by o s long)) (ap first same_checks)

  longer_effect : Bytes b → widened v (effect marks b short) ≡ effect marks b long
  unfolding effect outputs_of
  longer_effect bs = go (judge marks b) refl
    where
      go : (w : Verdict) → judge marks b ≡ w → widened v (effect_on marks w b short) ≡ effect_on marks w b long
      go (Verdict.refused r) q = refl
      go (Verdict.accepted s) q =
          let h = (content_low marks 4 (judged marks b s bs q).good.fine).0 in
          stepped s (omega (arith, read_text_length (content_of 4 s.attachments)))

-- by the front of what was lent
module _ (marks : FlagTable) (b out origins : List ℕ) (bs : Bytes b) (k : ℕ) (is : k ≡ min (length origins) 2295) where
  front_length : length (take k origins) ≡ k
  front_length = length-take-le k origins (omega arith)

  whole : take k origins ++ drop k origins ≡ origins
  whole = take-append-drop k origins

  enough : (n : ℕ) → n ≤ 2295 → ltb (length (take k origins)) n ≡ ltb (length (take k origins ++ drop k origins)) n
  enough n h =
      rw (whole, front_length)
      (test_case (ltb k n)
      (λ e. let low = ltb-true k n e in e ∙ sym (lt-ltb (length origins) n (omega arith)))
      (λ e. let high = ltb-false k n e in e ∙ sym (le-ltb (length origins) n (omega arith))))

  fronted-effect : (a : Answer) (o p : List ℕ) → after a b (o ∷ p ∷ []) ≡ effect marks b (fetches (fetch_text out (take k origins)))
      → after a b (o ∷ (p ++ drop k origins) ∷ []) ≡ effect marks b (fetches (fetch_text out origins))
  fronted-effect a o p e =
      ap (widened (drop k origins)) e ∙ longer_effect marks b out (take k origins) (drop k origins) enough bs
      ∙ ap (λ (l : List ℕ). effect marks b (fetches (fetch_text out l))) whole

  -- the front copied to most, and fetched to
  pub front_fetched : (most c o p : List ℕ) (a : Answer) → length most ≡ 2295 → c ≡ take (k - 0) (drop 0 origins)
      → (let most₁ = c ++ drop (k - 0) (drop 0 most) in
      after a b (o ∷ p ∷ []) ≡ effect marks b (fetches (fetch_text out (take (k - 0) (drop 0 most₁))))
      → after a b (o ∷ fronted origins (p ++ drop (k - 0) (drop 0 most₁)) ∷ []) ≡ effect marks b (fetches (fetch_text out origins)))
  unfolding outputs_of
  front_fetched most c o p a l e g =
      let z : k - 0 ≡ k = omega arith in
      let is_c : c ≡ take k origins = e ∙ ap (λ (j : ℕ). take j origins) z in
      let long : length c ≡ k = ap length is_c ∙ front_length in
      let at : take (k - 0) (c ++ drop (k - 0) most) ≡ take k origins = ap (λ (j : ℕ). take j (c ++ drop j most)) z ∙ take_at c (drop k most) k long ∙ is_c in
      let h : after a b (o ∷ p ∷ []) ≡ effect marks b (fetches (fetch_text out (take k origins))) = g ∙ ap (λ (l : List ℕ). effect marks b (fetches (fetch_text out l))) at in
      let alike = subst (λ (x : After). Alike x.outs (out ∷ take k origins ∷ [])) (sym h) (effect_outs marks b (fetches (fetch_text out (take k origins)))) in
      let front : take k (p ++ drop (k - 0) (c ++ drop (k - 0) most)) ≡ p = take_at p _ k (alike.1.0 ∙ front_length) in
      ap (λ (j : ℕ). after a b (o ∷ (take j (p ++ drop (k - 0) (c ++ drop (k - 0) most)) ++ drop j origins) ∷ [])) (sym is)
      ∙ ap (λ (l : List ℕ). after a b (o ∷ (l ++ drop k origins) ∷ [])) front
      ∙ fronted-effect a o p h

-- and copied back
pub front_put : (origins most z t : List ℕ) (k : ℕ) → k ≡ min (length origins) 2295 → t ≡ origins → z ≡ take (k - 0) (drop 0 most)
    → z ++ drop (k - 0) (drop 0 t) ≡ fronted origins most
front_put origins most z t k is e f =
    let j : k - 0 ≡ min (length origins) 2295 = omega arith in
    ap₂ ◌++◌ f (ap (drop (k - 0)) e) ∙ ap (λ (m : ℕ). take m most ++ drop m origins) j

-- both outputs in one buffer
module _ (marks : FlagTable) (b out origins both c o q most : List ℕ) (a : Answer) (room : length both ≡ length out + length origins) (copied : c ≡ out) where
  abbrev n : ℕ
  n = length out

  abbrev both₁ : List ℕ
  both₁ = c ++ drop (n - 0) (drop 0 both)

  abbrev both₂ : List ℕ
  both₂ = o ++ drop (n - 0) (drop 0 both₁)

  abbrev both₃ : List ℕ
  both₃ = take n both₂ ++ (q ++ drop (length both₂ - n) (drop n both₂))

  pub both_fetched : q ≡ fronted origins most → after a b (o ∷ fronted origins most ∷ []) ≡ effect marks b (fetches (fetch_text (take (n - 0) (drop 0 both₁)) origins))
      → (length both₃ ≡ length both) × (after a b (take n both₃ ∷ drop n both₃ ∷ []) ≡ effect marks b (fetches (fetch_text out origins)))
  unfolding outputs_of
  both_fetched e g =
      let z : n - 0 ≡ n = omega arith in
      let first : take (n - 0) both₁ ≡ out = rw (z, copied) (take_at out (drop n both) n refl) in
      let h : after a b (o ∷ fronted origins most ∷ []) ≡ effect marks b (fetches (fetch_text out origins)) = g ∙ ap (λ (l : List ℕ). effect marks b (fetches (fetch_text l origins))) first in
      let alike = subst (λ (x : After). Alike x.outs (out ∷ origins ∷ [])) (sym h) (effect_outs marks b (fetches (fetch_text out origins))) in
      let rest : drop (n - 0) both₁ ≡ drop n both = rw (z, copied) (drop_at out (drop n both) n refl) in
      let lo : length o ≡ n = alike.0 in
      let lq : length q ≡ length origins = ap length e ∙ alike.1.0 in
      let front : take n both₂ ≡ o = take_at o (drop (n - 0) both₁) n lo in
      let behind : drop n both₂ ≡ drop n both = drop_at o (drop (n - 0) both₁) n lo ∙ rest in
      let long : length both₂ - n ≡ length origins = omega (arith, length-append o (drop (n - 0) both₁), ap length rest, length-drop n both) in
      let none : drop (length both₂ - n) (drop n both₂) ≡ [] =
      ap₂ (λ (j : ℕ) (l : List ℕ). drop j l) long behind ∙ drop_of_length-le (drop n both) {i = length origins} (omega (arith, length-drop n both)) in
      let whole : both₃ ≡ o ++ q = ap₂ ◌++◌ front (ap (λ (l : List ℕ). q ++ l) none ∙ append-nil q) in (
        omega (arith, ap length whole, length-append o q),
        ap₂ (λ (x y : List ℕ). after a b (x ∷ y ∷ [])) (ap (take n) whole ∙ take_at o q n lo) (ap (drop n) whole ∙ drop_at o q n lo ∙ e) ∙ h,
      )
