-- Two reports, byte for byte and by their observations.
-- Assumes nothing.
use Prim.Native.Nat.{ℕ, ◌≤◌}
use native.Mathlib.Omega.{arith}
use mathlib.Core.Path.{◌≡◌, refl, sym, ap, ◌∙◌}
use mathlib.Core.Bool.{Bool, true, false}
use mathlib.Core.List.{List}
use lib.ListN.{length, take, drop, length-append}
use Rattle.format.specs.Flags.{FlagTable}
use Rattle.format.specs.Observation.{Observation, packing, size}
use Rattle.format.specs.Report.{Verdict, refused, accepted, judge}
use Rattle.format.specs.Bits.{Bytes}
use Rattle.laws.proofs.Report.{judged, size_range, reports_equal}
use Rattle.laws.proofs.Whole.{least_reached, most_reached}
use Rattle.std.specs.Prelude.{Result, Ok, Err, nat_eq}
use lib.Seq.{length-take-le}
use lib.Pointwise.{pointwise}
use Rattle.std.specs.Cmp.Lexicographic.{same_text, other_text}
use Rattle.format.specs.Order as order
use Rattle.format.specs.Reply.{refusal_of, by_number}
use Rattle.format.specs.declared.Refusal.{Refusal}
use Rattle.report.specs.Answers.{judged_of, Sizes, both_compared, comparison}

-- ---- what an answer says of the verdict

judged_refused : (v : Verdict) (r : order.Refusal) → Err r ≡ judged_of v → v ≡ refused r
judged_refused (refused x) r e = ap refused (cc)
judged_refused (accepted s) r e = let z : ◌≡◌ {A = ℕ} 0 1 = cc in absurd (omega arith)

judged_accepted : (v : Verdict) (n : ℕ) → Ok n ≡ judged_of v → (s : Observation) × (v ≡ accepted s) × (n ≡ size s)
judged_accepted (refused r) n e = let z : ◌≡◌ {A = ℕ} 0 1 = cc in absurd (omega arith)
judged_accepted (accepted s) n e = (s, refl, cc)

of_number : (r : Result ℕ Refusal) (n : ℕ) → r ≡ Ok n → Ok n ≡ by_number r
of_number (Ok m) n e = ap Ok (cc)
of_number (Err e) n q = let z : ◌≡◌ {A = ℕ} 0 1 = cc in absurd (omega arith)

-- ---- sizes

module _ (marks : FlagTable) (b : List ℕ) (bs : Bytes b) where
  pub sizes : (r : Result ℕ Refusal) → by_number r ≡ judged_of (judge marks b) → Sizes marks r
  sizes r is = record {
    within = λ n e.
        let a = judged_accepted (judge marks b) n (of_number r n e ∙ is) in
        let h = size_range marks a.0 (judged marks b a.0 bs a.1).good in
        let k = a.2 in
        (omega arith, omega arith);
    least = let l = least_reached marks in (l.0, l.1, ap judged_of l.3 ∙ ap Ok l.4);
    most = let l = most_reached marks in (l.0, l.1, ap judged_of l.3 ∙ ap Ok l.4);
  }

  -- an accepted report lies within its buffer
  pub reaches : (n : ℕ) → Ok n ≡ judged_of (judge marks b) → n ≤ length b
  reaches n e =
      let a = judged_accepted (judge marks b) n e in
      omega (arith, a.2, length-append (packing a.0) (drop (size a.0) b), ap length (judged marks b a.0 bs a.1).starts)

  pub within_buffer : (n : ℕ) → Ok n ≡ judged_of (judge marks b) → n ≡ length (take n b)
  within_buffer n e = sym (length-take-le n b (reaches n e))

-- ---- two reports

module _ (marks : FlagTable) (a b : List ℕ) where
  pub first_refused : (e : Refusal) → Err (refusal_of e) ≡ judged_of (judge marks a) → comparison marks (Err e) a b
  first_refused e q = rw (judged_refused (judge marks a) (refusal_of e) q)

  pub second_refused : (m : ℕ) (e : Refusal) → Ok m ≡ judged_of (judge marks a) → Err (refusal_of e) ≡ judged_of (judge marks b) → comparison marks (Err e) a b
  second_refused m e ea eb = rw ((judged_accepted (judge marks a) m ea).1, judged_refused (judge marks b) (refusal_of e) eb)

  -- the bytes are the same exactly when the observations are
  module _ (ba : Bytes a) (bb : Bytes b) (m n : ℕ) (ea : Ok m ≡ judged_of (judge marks a)) (eb : Ok n ≡ judged_of (judge marks b)) where
    both : (r : Bool) → r ≡ pointwise nat_eq (take m a) (take n b) → (s t : Observation) → judge marks a ≡ accepted s → judge marks b ≡ accepted t → m ≡ size s → n ≡ size t
        → both_compared (Ok r) a b s t
    both true h s t js jt x y =
        let f : take (size s) a ≡ take (size t) b = ap (λ (k : ℕ). take k a) (sym x) ∙ same_text (take m a) (take n b) h ∙ ap (λ (k : ℕ). take k b) y in
        (f, (reports_equal marks a b s t ba bb js jt).0 f)
    both false h s t js jt x y =
        let differ : take (size s) a ≡ take (size t) b → ⊥ = λ e.
        other_text (take m a) (take n b) h (ap (λ (k : ℕ). take k a) x ∙ e ∙ ap (λ (k : ℕ). take k b) (sym y)) in
        (differ, λ e. differ ((reports_equal marks a b s t ba bb js jt).1 e))

    pub compared : (r : Bool) → r ≡ pointwise nat_eq (take m a) (take n b) → comparison marks (Ok r) a b
    compared r h =
        let x = judged_accepted (judge marks a) m ea in
        let y = judged_accepted (judge marks b) n eb in
        rw (x.1, y.1) (both r h x.0 y.0 x.1 y.1 x.2 y.2)
