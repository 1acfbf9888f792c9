-- The laws of what texts take (FORMAT 7.9): a text of three nibbles a symbol is original throughout, any bytes make one, and a short
-- row that ends in no plain space is never refused by 12.
-- Assumes nothing.
use Prim.Native.Nat.{ℕ, zero, suc, ◌*◌}
use native.Mathlib.Omega.{arith}
use mathlib.Core.Path.{◌≡◌, refl, sym, ap, ◌∙◌}
use mathlib.Core.Bool.{true, not, ◌&&◌}
use mathlib.Core.List.{List, [], ◌∷◌}
use mathlib.Core.Option.{Option, none, some}
use lib.ListN.{length, replicate, length-replicate}
use lib.Dec.{leb}
use borrow.Author.Tests.{lt-ltb, leb-true, not-false}
use Rattle.format.specs.Order.{Refusal, first, between, all_marks}
use Rattle.format.specs.Bits.{Bytes}
use Rattle.format.specs.Flags.{FlagTable}
use Rattle.format.specs.ShipText.{Symbol, symbol_of, symbols_in, admitted, all_admitted, is_space, symbol_nibbles, fulls, rest, space_run, write_from, write_text}
use Rattle.format.specs.ShipText.{nibble_count}
use Rattle.format.specs.Observation.{Observation}
use Rattle.format.specs.Report.{Verdict, judge}
use Rattle.format.specs.Calls.{edits, put_text, length_check, content_check, paired_check, symbols_check, room_check, call_checks, checks, Answer, stepped_by, step}
use Rattle.format.specs.Buffer.{After, after, effect_on, effect}
use Rattle.format.specs.Reply.{refusal}
use Rattle.format.specs.Costliest.{Costly, UpTo85, Never12, Limits}
use Rattle.laws.proofs.Sequences.{and_true}
use Rattle.laws.proofs.Order.{between_in, range_fine, first_skip}
use Rattle.laws.proofs.ShipText.{admitted_plain, saved, all_saved, text_cost_lem, text_some}
use Rattle.laws.proofs.Bounds.{Near, near_cons, near_one, judge-number}

-- ---- bytes and their marks as symbols

symbols_length : (t os : List ℕ) → length t ≡ length os → length (symbols_in t os) ≡ length t
unfolding symbols_in
symbols_length [] os e = refl
symbols_length (b ∷ t) [] e = absurd (omega arith)
symbols_length (b ∷ t) (o ∷ os) e = ap suc (symbols_length t os (omega arith))

-- ---- a text of three nibbles a symbol

-- where no symbol saves a nibble, every mark is 1
mark_one : (b o : ℕ) → leb o 1 ≡ true → admitted (symbol_of b o) ≡ true → saved (symbol_of b o) ≡ 0 → o ≡ 1
unfolding symbol_of saved
mark_one b zero l a e = let s = (admitted_plain b a).1 in let z : ◌≡◌ {A = ℕ} 1 0 = rw s at e in absurd (omega arith)
mark_one b (suc zero) l a e = refl
mark_one b (suc (suc o)) l a e = absurd (omega (arith, leb-true (suc (suc o)) 1 l))

all_one : (t os : List ℕ) → length t ≡ length os → all_marks os ≡ true → all_admitted (symbols_in t os) ≡ true → all_saved (symbols_in t os) ≡ 0
    → os ≡ replicate (length os) 1
unfolding symbols_in all_marks all_admitted all_saved
all_one t [] e m a s = refl
all_one [] (o ∷ os) e m a s = absurd (omega arith)
all_one (b ∷ t) (o ∷ os) e m a s =
    let p = and_true (leb o 1) (all_marks os) m in
    let q = and_true (admitted (symbol_of b o)) (all_admitted (symbols_in t os)) a in
    let one = mark_one b o p.0 q.0 (omega arith) in
    let more = all_one t os (omega arith) p.1 q.1 (omega arith) in
    rw one (ap (λ (l : List ℕ). 1 ∷ l) more)

costly_original : (m : ℕ) (t os : List ℕ) → Costly m t os → os ≡ replicate m 1
costly_original m t os c =
    let p = and_true (all_marks os) (all_admitted (symbols_in t os)) (not-false (all_marks os && all_admitted (symbols_in t os)) c.unrefused) in
    let paired : length t ≡ length os = c.as_many_bytes ∙ sym c.as_many_marks in
    all_one t os paired p.0 p.1 (omega (arith, text_cost_lem (symbols_in t os), c.nibbles, symbols_length t os paired, c.as_many_bytes))
    ∙ ap (λ (k : ℕ). replicate k 1) c.as_many_marks

-- bytes that are all marked as original
ones_marks : (n : ℕ) → all_marks (replicate n 1) ≡ true
unfolding all_marks
ones_marks zero = refl
ones_marks (suc n) = ones_marks n

ones-admitted : (t : List ℕ) → Bytes t → all_admitted (symbols_in t (replicate (length t) 1)) ≡ true
unfolding symbols_in all_admitted symbol_of admitted
ones-admitted [] h = refl
ones-admitted (b ∷ t) h = rw (lt-ltb b 256 (h 0)) (ones-admitted t (λ i. h (suc i)))

ones-nibbles : (t : List ℕ) → length (write_from 0 (symbols_in t (replicate (length t) 1))) ≡ 3 * length t
unfolding symbols_in symbol_of write_from is_space space_run fulls rest symbol_nibbles
ones-nibbles [] = refl
ones-nibbles (b ∷ t) = omega (arith, ones-nibbles t)

pub any_bytes : (t : List ℕ) → Bytes t → Costly (length t) t (replicate (length t) 1)
unfolding write_text
any_bytes t h = record {
  as_many_bytes = refl;
  as_many_marks = length-replicate (length t) 1;
  unrefused = rw (ones_marks (length t), ones-admitted t h);
  nibbles = ones-nibbles t;
}

-- ---- a short row is never refused by 12

short-within : (xs : List Symbol) → UpTo85 xs → between 1 255 (nibble_count xs) ≡ true
short-within xs h =
    let l = between_in 1 85 (length xs) _ refl (ap not h.few) in
    range_fine 1 255 (nibble_count xs) (text_some xs l.0 h.kept) (omega (arith, text_cost_lem xs))

abbrev Not12 : Refusal → Type 0
Not12 r = r.number ≡ 12 → ⊥

module _ (marks : FlagTable) (t os : List ℕ) (h : UpTo85 (symbols_in t os)) where
  abbrev ns : List ℕ
  ns = write_text (symbols_in t os)

  not_12 : (n : ℕ) (s : Observation) → Near Not12 (checks marks n s (edits (put_text t os)))
  unfolding checks call_checks Near
  not_12 n s =
      near_cons Not12 (paired_check t os) _ (λ q. omega arith)
      (λ _. near_cons Not12 (symbols_check t os) _ (λ q. omega arith)
      (λ _. λ r e. near_cons Not12 (content_check marks 4 ns) _ (λ q. omega arith) (λ _. near_one Not12 (room_check n s (edits (put_text t os))) (λ q. omega arith))
      r (sym (first_skip (length_check ns) _ (ap not (short-within (symbols_in t os) h))) ∙ e)))

  never_12 : (b : List ℕ) (p : ℕ) → (effect marks b (edits (put_text t os))).answer ≡ refusal 12 p → ⊥
  unfolding effect step Near
  never_12 b p = go (judge marks b) refl
    where
      by : (s : Observation) (o : Option Refusal) → first (checks marks (length b) s (edits (put_text t os))) ≡ o
          → (stepped_by o s (edits (put_text t os))).answer ≡ refusal 12 p → ⊥
      by s none q e = let z : ◌≡◌ {A = ℕ} 0 1 = cc in omega arith
      by s (some r) q e = not_12 (length b) s r q (let z : r.number ≡ 12 = cc in z)

      go : (v : Verdict) → judge marks b ≡ v → (effect_on marks v b (edits (put_text t os))).answer ≡ refusal 12 p → ⊥
      go (Verdict.refused r) q e = let z : r.number ≡ 12 = cc in omega (arith, (judge-number marks b r q).1)
      go (Verdict.accepted s) q e = by s (first (checks marks (length b) s (edits (put_text t os)))) refl e

-- so of an answer that leaves what put text leaves
pub put_never_12 : (marks : FlagTable) (b t os : List ℕ) {a : Answer} {b' : List ℕ} {outs : List (List ℕ)} → after a b' outs ≡ effect marks b (edits (put_text t os))
    → Never12 (symbols_in t os) a
put_never_12 marks b t os e h p q = never_12 marks t os h b p (sym (ap (λ (x : After). x.answer) e) ∙ q)

-- what holds of all texts
pub limits : Limits
limits = record {
  most = λ xs. omega (arith, text_cost_lem xs);
  all_original = costly_original;
  any_bytes = any_bytes;
  within = short-within;
  never_12 = λ marks b t os h. never_12 marks t os h b;
}
