-- A walk to the end of a tail counts its attachments.
-- Assumes nothing.
use Prim.Native.Nat.{ℕ, suc, ◌+◌, ◌-◌, ◌≤◌, ◌<◌}
use native.Mathlib.Nat.{zero-add}
use native.Mathlib.Omega.{arith}
use mathlib.Core.Path.{◌≡◌, refl, ap, ◌∙◌}
use mathlib.Core.Bool.{false}
use mathlib.Core.List.{List, [], ◌∷◌}
use mathlib.Core.Option as found
use mathlib.Core.Option.{none, some}
use Rattle.std.specs.Prelude.{Ok, Err, Result}
use lib.ListN.{length, length-drop, drop_of_length-le}
use Rattle.format.specs.Order.{Refusal, first}
use Rattle.format.specs.Flags.{FlagTable}
use Rattle.format.specs.Nibbles.{behind, Nibbles}
use Rattle.format.specs.Report.{attachment_checks}
use Rattle.format.specs.Whole.{count_from, count_in}
use Rattle.laws.proofs.Attachments.{count_nil}
use Rattle.nibble.specs.View.{from}
use Rattle.nibble.specs.declared.Cursor.{Cursor}
use Rattle.nibble.specs.declared.Header.{Header}
use Rattle.tail.specs.Look.{looked_at, start_at, passed_by}
use Rattle.tail.specs.Walk.{walked_by, walked, tail_counted}
use Rattle.tail.specs.declared.State.{State}
use Rattle.tail.specs.declared.Tail.{Tail}
use Rattle.tail.proofs.Checks.{passes}
use Rattle.tail.proofs.Turns.{Walking, behind-from, walk_start, walk_end, walk_fault, walk_more}

count_step : (n : ℕ) (ns : List ℕ) → 0 < length ns → count_from (suc n) ns ≡ 1 + count_from n (behind ns)
unfolding count_from
count_step n [] h = absurd (omega arith)
count_step n (x ∷ ns) h = refl

-- the cursor at a tail, one nibble a byte
abbrev at_tail : Cursor
at_tail = record { at = 0; packed = false }

-- a walk's answer, with the count where it ended
abbrev as_counted : ℕ → Result Tail Refusal → Result ℕ Refusal
as_counted n (Err r) = Err r
as_counted n (Ok t) = Ok n

counted_by_lem : (o : found.Option Refusal) (t : Tail) (n : ℕ) → as_counted n (walked_by o t) ≡ walked_by o n
counted_by_lem none t n = refl
counted_by_lem (some r) t n = refl

counted_is : (marks : FlagTable) (s : List ℕ) → as_counted (count_in s) (walked marks s at_tail (count_in s) 0) ≡ tail_counted marks s
unfolding walked tail_counted
counted_is marks s = counted_by_lem (first (attachment_checks marks (count_in s) 1 [] s)) _ (count_in s)

-- i attachments of a tail are walked over, at least one nibble each, and the others are still to be counted
pub record Counting (marks : FlagTable) (s : List ℕ) (st : State) (i : ℕ) : Type 0 where
  pub walking : Walking marks s at_tail (count_in s) 0 st (i + 1)
  pub flat : st.cursor.packed ≡ false
  pub few : i ≤ st.cursor.at
  pub rest : i + count_from (length s - i) (from s st.cursor) ≡ count_in s

pub count_start : (marks : FlagTable) (s : List ℕ) → Nibbles s → Counting marks s (start_at at_tail) 0
count_start marks s n =
    let e : length s - 0 ≡ length s = omega arith in
    record {
      walking = walk_start marks s at_tail (count_in s) 0 n (omega arith);
      flat = refl;
      few = omega arith;
      rest = rw e (zero-add (count_in s));
    }

module _ (marks : FlagTable) (s : List ℕ) (st : State) (i : ℕ) (k : Counting marks s st i) where
  pub count_end : length s ≤ st.cursor.at → Ok i ≡ tail_counted marks s
  count_end h =
      let z : count_from (length s - i) (from s st.cursor) ≡ 0 = rw (k.flat, drop_of_length-le s h) (count_nil (length s - i)) in
      let r = k.rest in
      let e : i ≡ count_in s = omega arith in
      ap Ok e ∙ ap (as_counted (count_in s)) (walk_end marks s at_tail (count_in s) 0 st (i + 1) k.walking (omega arith)) ∙ counted_is marks s

  module _ (l : st.cursor.at < length s) where
    -- the attachment at the cursor is one of them
    one_of : i + suc (count_from (length s - (i + 1)) (behind (from s st.cursor))) ≡ count_in s
    one_of =
        let f : length s - i ≡ suc (length s - (i + 1)) = omega (arith, k.few) in
        let d : 0 < length (from s st.cursor) = rw (length-drop, k.flat) (omega arith) in
        let r = rw f at k.rest in
        omega (arith, count_step (length s - (i + 1)) (from s st.cursor) d)

    before_end : i + 1 ≤ count_in s
    before_end = omega (arith, one_of)

    pub count_fault : (r : Refusal) → looked_at marks s st.cursor st.mask (i + 1) ≡ Err r → Err r ≡ tail_counted marks s
    count_fault r e = ap (as_counted (count_in s)) (walk_fault marks s at_tail (count_in s) 0 st (i + 1) k.walking before_end r e) ∙ counted_is marks s

    pub count_more : (h : Header) → looked_at marks s st.cursor st.mask (i + 1) ≡ Ok h → Counting marks s (passed_by st h 0) (i + 1)
    count_more h e =
        let p = passes marks s st.cursor st.mask (i + 1) h e in
        let at = ap (λ (x : Header). x.body.at) p.read in
        record {
          walking = walk_more marks s at_tail (count_in s) 0 st (i + 1) k.walking before_end h e;
          flat = ap (λ (x : Header). x.body.packed) p.read ∙ k.flat;
          few = omega (arith, k.few);
          rest = rw (← behind-from s st.cursor h p.read) (omega (arith, one_of));
        }
