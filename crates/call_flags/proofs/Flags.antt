-- Flags: the body of id 1 in the buffer, and the layout that a flag stored in it leaves.
-- Assumes nothing.
use Prim.Native.Nat.{ℕ, zero, suc, ◌+◌, ◌-◌, ◌*◌, ◌/◌, ◌%◌, ◌≤◌, ◌<◌}
use native.Mathlib.Nat.{suc-add}
use native.Mathlib.Omega.{arith}
use mathlib.Core.Path.{◌≡◌, refl, sym, ap, ◌∙◌}
use mathlib.Core.Bool.{Bool, true, false, not}
use mathlib.Core.List.{List, [], ◌∷◌, ◌++◌, append_assoc}
use mathlib.Core.Option.{none}
use lib.ListN.{length, get_or, take, drop, set, length-append, length-set, length-drop, take-append-drop}
use lib.Seq.{length-take-le, set_at, set-append_left, take-take, drop-drop, drop-cons, get_or-drop, get_or-take, drop-set-add, take-set-lt}
use borrow.Author.Tests.{eq-eqb, ne_eqb, not-false, not-true}
use Rattle.format.specs.Order.{first, between}
use Rattle.format.specs.Bits.{Bytes}
use Rattle.format.specs.Nibbles.{attachment, nibbles, attachment_nibbles, tail_nibbles}
use Rattle.format.specs.Flags.{FlagTable, is_flag, permitted, flag_in_range, flag_fits, quality_code, flag_at, flag_body, with_flag}
use Rattle.format.specs.Observation.{size}
use Rattle.format.specs.Report.{observation_of, body_valid}
use Rattle.format.specs.Calls.{reads, edits, made, read_flag, set_flag, clear_flag, put_in, with_content, content, flag_given, flag_number_check, flag_value_check, stands_check}
use Rattle.format.specs.Calls.{call_checks, read_gives, gives, outputs_of, Answer}
use Rattle.format.specs.Buffer.{layout, after, effect}
use Rattle.format.specs.Reply.{refusal, answer_of, givens_of}
use Rattle.format.specs.declared.Outcome.{Outcome}
use Rattle.format.specs.declared.Outcome.TheVariants.{Flag}
use Rattle.std.specs.Prelude.{Some, None, Ok}
use Rattle.tail.specs.declared.Held.{Held}
use Rattle.laws.proofs.Sequences.{and_true}
use Rattle.laws.proofs.Order.{between_in, number_passes, first-nil, no_check}
use Rattle.laws.proofs.Flags.{missing_fits, range_fits, valid_flags, flag_set-length, flag_set_valid, flag_set-nibbles}
use Rattle.laws.proofs.Attachments.{FineAt, fine_nibbles, fine_count, tail-append}
use Rattle.laws.proofs.AttachmentEdits.{content_fine, put_fine, put_placed, put_size, put_length}
use Rattle.laws.proofs.Report.{same_within}
use Rattle.laws.proofs.Edits.{Edit, spliced_same, edit_kept}
use Rattle.laws.proofs.Effects.{call_refuses, read_done, edit_done}
use Rattle.report.specs.declared.Report.{Report}
use Rattle.report.specs.Found.{Found}
use Rattle.report.proofs.Found.{good, al_is, present, split, place_is, content_is, spot, reach, stands_passes}
use Rattle.call_flags.specs.Flags.{flagged}

-- ---- three nibbles stored

set_past : (p ys : List ℕ) (n i v : ℕ) → length p ≡ n → set (p ++ ys) (n + i) v ≡ p ++ set ys i v
set_past [] ys n i v e = let z : n + i ≡ i = omega arith in ap (λ (k : ℕ). set ys k v) z
set_past (x ∷ p) ys zero i v e = absurd (omega arith)
set_past (x ∷ p) ys (suc n) i v e =
    ap (λ (k : ℕ). set (x ∷ (p ++ ys)) k v) (suc-add n i) ∙ ap (λ (l : List ℕ). x ∷ l) (set_past p ys n i v (omega arith))

-- in a run of fourteen behind p, and in the two behind that
three_set : (p f r : List ℕ) (x y at i v a c : ℕ) → length p ≡ at → length f ≡ 14 → i < 14
    → set (set (set (p ++ (f ++ (x ∷ y ∷ r))) (at + i) v) (at + 14) a) (at + 15) c ≡ p ++ (set f i v ++ (a ∷ c ∷ r))
three_set p f r x y at i v a c lp lf h =
    let lg : length (set f i v) ≡ 14 = length-set f i v ∙ lf in
    let s1 : set (p ++ (f ++ (x ∷ y ∷ r))) (at + i) v ≡ p ++ (set f i v ++ (x ∷ y ∷ r)) =
    set_past p (f ++ (x ∷ y ∷ r)) at i v lp ∙ ap (λ (l : List ℕ). p ++ l) (set-append_left f (x ∷ y ∷ r) i v (omega arith)) in
    let s2 : set (p ++ (set f i v ++ (x ∷ y ∷ r))) (at + 14) a ≡ p ++ (set f i v ++ (a ∷ y ∷ r)) =
    set_past p (set f i v ++ (x ∷ y ∷ r)) at 14 a lp ∙ ap (λ (l : List ℕ). p ++ l) (set_at (set f i v) x (y ∷ r) a 14 lg) in
    let s3 : set (p ++ (set f i v ++ (a ∷ y ∷ r))) (at + 15) c ≡ p ++ (set f i v ++ (a ∷ c ∷ r)) =
    set_past p (set f i v ++ (a ∷ y ∷ r)) at 15 c lp ∙ ap (λ (l : List ℕ). p ++ l) (set_past (set f i v) (a ∷ y ∷ r) 14 1 c lg) in
    ap (λ (l : List ℕ). set (set l (at + 14) a) (at + 15) c) s1 ∙ ap (λ (l : List ℕ). set l (at + 15) c) s2 ∙ s3

module _ (ns : List ℕ) (at j v : ℕ) (h : at + 16 ≤ length ns) (low : 1 ≤ j) (high : j ≤ 14) where
  -- the fourteen after the store
  stored_flags : take 14 (drop at (set ns (at + (j - 1)) v)) ≡ set (take 14 (drop at ns)) (j - 1) v
  stored_flags = ap (take 14) (drop-set-add at ns (j - 1) v) ∙ take-set-lt 14 (drop at ns) (j - 1) v (omega arith)

  sixteen : ns ≡ take at ns ++ (take 14 (drop at ns) ++ (get_or (drop 14 (drop at ns)) 0 0 ∷ get_or (drop 14 (drop at ns)) 1 0 ∷ drop (at + 16) ns))
  sixteen =
      let l : 2 ≤ length (drop 14 (drop at ns)) = rw (length-drop, length-drop) (omega arith) in
      let e : drop 14 (drop at ns) ≡ get_or (drop 14 (drop at ns)) 0 0 ∷ get_or (drop 14 (drop at ns)) 1 0 ∷ drop (at + 16) ns =
      drop-cons (drop 14 (drop at ns)) 0 0 (omega arith)
      ∙ ap (λ (x : List ℕ). get_or (drop 14 (drop at ns)) 0 0 ∷ x)
      (drop-cons (drop 14 (drop at ns)) 1 0 (omega arith)
      ∙ ap (λ (x : List ℕ). get_or (drop 14 (drop at ns)) 1 0 ∷ x) (drop-drop 2 14 (drop at ns) ∙ drop-drop 16 at ns)) in
      sym (take-append-drop at ns)
      ∙ ap (λ (x : List ℕ). take at ns ++ x) (sym (take-append-drop 14 (drop at ns)) ∙ ap (λ (x : List ℕ). take 14 (drop at ns) ++ x) e)

  pub flag_stored : (q : ℕ) → q ≡ quality_code (take 14 (drop at (set ns (at + (j - 1)) v)))
      → set (set (set ns (at + (j - 1)) v) (at + 14) (q / 16)) (at + 15) (q % 16) ≡ flagged ns at j v
  unfolding flagged with_flag flag_body
  flag_stored q e =
      let f : List ℕ = take 14 (drop at ns) in
      let is : q ≡ quality_code (set (take 14 (drop at ns)) (j - 1) v) = e ∙ ap quality_code stored_flags in
      let lp : length (take at ns) ≡ at = length-take-le at ns (omega arith) in
      let lf : length (take 14 (drop at ns)) ≡ 14 = length-take-le 14 (drop at ns) (rw length-drop (omega arith)) in
      let fourteen : take 14 (take 16 (drop at ns)) ≡ take 14 (drop at ns) = take-take 14 16 (drop at ns) (omega arith) in
      ap (λ (l : List ℕ). set (set (set l (at + (j - 1)) v) (at + 14) (q / 16)) (at + 15) (q % 16)) sixteen
      ∙ three_set (take at ns) (take 14 (drop at ns)) (drop (at + 16) ns) _ _ at (j - 1) v (q / 16) (q % 16) lp lf (omega arith)
      ∙ rw (fourteen, ← is) (ap (λ (l : List ℕ). take at ns ++ l) (sym (append_assoc (set f (j - 1) v) (q / 16 ∷ q % 16 ∷ []) (drop (at + 16) ns))))

-- ---- what is told of a nibble

pub told_missing : (v : ℕ) → v ≡ 0 → givens_of (Flag None) ≡ flag_given v ∷ []
told_missing v e = rw (eq-eqb v 0 e)

pub told_flag : (v : ℕ) → (v ≡ 0 → ⊥) → givens_of (Flag (Some v)) ≡ flag_given v ∷ []
told_flag v n = rw (ne_eqb v 0 n)

-- ---- the returns of the calls on flags

pub value_passes : (marks : FlagTable) (j v : ℕ) (u : Bool) → u ≡ flag_in_range marks j v → not u ≡ false → (flag_value_check marks j v).fits ≡ false
value_passes marks j v u eu hu = rw (sym eu ∙ not-false u hu)

-- a value in range is one of the ten
pub in_ten : (marks : FlagTable) (j v : ℕ) (u : Bool) → u ≡ flag_in_range marks j v → not u ≡ false → (1 ≤ v) × (v ≤ 10)
in_ten marks j v u eu hu = let e = and_true (between 1 10 v) (permitted marks j v) (sym eu ∙ not-false u hu) in between_in 1 10 v true (sym e.0) refl

module _ (marks : FlagTable) (b : List ℕ) (bs : Bytes b) (r : Report) (f : Found marks b 1 r) where
  -- 9: the value is out of range, or not permitted
  pub value_refuses : (j v : ℕ) (t u : Bool) → t ≡ is_flag j → not t ≡ false → u ≡ flag_in_range marks j v → not u ≡ true → after (refusal 9 j) b [] ≡ effect marks b (edits (set_flag j v))
  unfolding call_checks outputs_of
  value_refuses j v t u is h eu hu =
      call_refuses marks b (observation_of b) (edits (set_flag j v)) bs f.judged (flag_number_check j ∷ []) (flag_value_check marks j v) _ refl
      (no_check (flag_number_check j) [] (number_passes 1 14 j t is h) first-nil) (rw (sym eu ∙ not-true u hu))

  module _ (h : Held) (there : r.held ≡ Some h) where
    fine : FineAt marks (attachment 1 (content (observation_of b) 1))
    fine = content_fine marks 1 (good marks bs f).fine (present marks bs f h there)

    body_long : length (content (observation_of b) 1) ≡ 16
    unfolding body_valid
    body_long = (valid_flags marks (content (observation_of b) 1) fine.valid).long

    -- the sixteen nibbles
    flags_body : take 16 (drop (h.place + 3) (nibbles b)) ≡ content (observation_of b) 1
    flags_body =
        ap (λ (n : ℕ). take n (drop (h.place + 3) (nibbles b))) (sym (al_is marks bs f h there ∙ body_long)) ∙ content_is marks bs f h there

    -- they stand in the buffer
    pub body_within : (h.place + 19 ≤ 2 * length b) × (h.place + 19 ≤ 3706)
    body_within =
        let reached = reach marks bs f h there in
        let al = al_is marks bs f h there in
        let long = body_long in
        (omega arith, omega arith)

    -- sixteen others in their place
    module _ (ns : List ℕ) (l : length ns ≡ 16) where
      body_edit : Edit marks b (put_in 1 ns (observation_of b).attachments) ns (h.place + 3) 16 (75 + length (tail_nibbles (observation_of b).attachments)) (length (observation_of b).attachments)
      unfolding tail_nibbles attachment_nibbles
      body_edit =
          let p = spot marks bs f h there in
          let header : List ℕ = 1 ∷ 0 ∷ 1 ∷ [] in
          let old = body_long in record {
            judged = f.judged;
            before = tail_nibbles p.before ++ (1 ∷ 0 ∷ 1 ∷ []);
            gone = content (observation_of b) 1;
            behind = tail_nibbles p.after;
            from = split marks bs f h there ∙ ap (λ (n : ℕ). tail_nibbles p.before ++ ((n / 16 ∷ n % 16 ∷ 1 ∷ []) ++ (content (observation_of b) 1 ++ tail_nibbles p.after))) old
                ∙ sym (append_assoc (tail_nibbles p.before) header (content (observation_of b) 1 ++ tail_nibbles p.after));
            to = ap tail_nibbles (put_placed p ns) ∙ tail-append p.before (attachment 1 ns ∷ p.after)
                ∙ ap (λ (n : ℕ). tail_nibbles p.before ++ ((n / 16 ∷ n % 16 ∷ 1 ∷ []) ++ (ns ++ tail_nibbles p.after))) l
                ∙ sym (append_assoc (tail_nibbles p.before) header (ns ++ tail_nibbles p.after));
            at_is = omega (arith, place_is marks bs f h there, length-append (tail_nibbles p.before) header);
            old_is = sym old;
            end_is = refl;
            count_is = sym (put_length p ns);
            count_lt = omega (arith, fine_count marks (good marks bs f).fine);
          }

      body_laid : (d : List ℕ) → Bytes d → length d ≡ length b → FineAt marks (attachment 1 ns)
          → nibbles d ≡ take (h.place + 3) (nibbles b) ++ (ns ++ drop (h.place + 3 + 16) (nibbles b))
          → d ≡ layout b (size (observation_of b)) (with_content (observation_of b) 1 ns)
      body_laid d bd same fits written =
          edit_kept marks bs body_edit d (written ∙ spliced_same marks bs body_edit l)
          (fine_nibbles marks (put_fine marks 1 ns fits (good marks bs f).fine)) bd same (put_length (spot marks bs f h there) ns)

    module _ (j : ℕ) (t : Bool) (is : t ≡ is_flag j) (in-range : not t ≡ false) where
      known : (1 ≤ j) × (j ≤ 14)
      known = between_in 1 14 j t is in-range

      passes : first (flag_number_check j ∷ stands_check (observation_of b) 1 ∷ []) ≡ none
      passes = no_check (flag_number_check j) (stands_check (observation_of b) 1 ∷ []) (number_passes 1 14 j t is in-range) (stands_passes marks bs f h there)

      -- what is told of the nibble that stands in flag j
      module _ (o : ℕ) (at : o ≡ get_or (nibbles b) (h.place + 3 + (j - 1)) 0) (g : Outcome) (tells : givens_of g ≡ flag_given o ∷ []) where
        shows : answer_of (Ok g) ≡ Answer.accepted (read_gives (observation_of b) (read_flag j) ∷ [])
        unfolding read_gives
        shows =
            let k = known in
            let is : o ≡ flag_at (content (observation_of b) 1) j =
            at ∙ sym (get_or-take 16 (drop (h.place + 3) (nibbles b)) (j - 1) 0 (omega arith) ∙ get_or-drop (h.place + 3) (nibbles b) (j - 1) 0)
            ∙ ap (λ (x : List ℕ). get_or x (j - 1) 0) flags_body in
            ap Answer.accepted tells ∙ ap (λ (x : ℕ). Answer.accepted (flag_given x ∷ [])) is

        pub flag_read : after (answer_of (Ok g)) b [] ≡ effect marks b (reads (read_flag j))
        unfolding call_checks gives
        flag_read = ap (λ (x : Answer). after x b []) shows ∙ read_done marks b (observation_of b) bs f.judged (read_flag j) passes

        -- set and clear
        module _ (d : List ℕ) (bd : Bytes d) (same : length d ≡ length b) (v : ℕ) (written : nibbles d ≡ flagged (nibbles b) (h.place + 3) j v) where
          flag_laid : flag_fits marks j v ≡ true → d ≡ layout b (size (observation_of b)) (with_content (observation_of b) 1 (with_flag (content (observation_of b) 1) j v))
          unfolding flagged body_valid
          flag_laid fits =
              let old = content (observation_of b) 1 in
              let l = flag_set-length old j v body_long in
              body_laid (with_flag old j v) l d bd same
              (record {
                filled = omega arith;
                short = omega arith;
                nibbles = flag_set-nibbles old j v marks fine.valid known.0 fits;
                low = omega arith;
                high = omega arith;
                valid = flag_set_valid old j v marks fine.valid known.0 fits;
              })
              (written ∙ rw flags_body refl)

          flag_fits_lem : size (with_content (observation_of b) 1 (with_flag (content (observation_of b) 1) j v)) ≤ length b
          flag_fits_lem =
              let old = content (observation_of b) 1 in
              let p = spot marks bs f h there in
              same_within marks b (observation_of b) bs f.judged (with_content (observation_of b) 1 (with_flag old j v))
              (omega (arith, put_size p (with_flag old j v), flag_set-length old j v body_long, body_long))

          pub flag_set : (u : Bool) → u ≡ flag_in_range marks j v → not u ≡ false → after (answer_of (Ok g)) d [] ≡ effect marks b (edits (set_flag j v))
          unfolding call_checks made gives
          flag_set u eu hu =
              let inside = sym eu ∙ not-false u hu in
              ap (λ (x : Answer). after x d []) shows
              ∙ edit_done marks b (observation_of b) bs f.judged (set_flag j v) d
              (no_check (flag_number_check j) (flag_value_check marks j v ∷ stands_check (observation_of b) 1 ∷ []) (number_passes 1 14 j t is in-range)
              (no_check (flag_value_check marks j v) (stands_check (observation_of b) 1 ∷ []) (value_passes marks j v u eu hu) (stands_passes marks bs f h there)))
              flag_fits_lem (flag_laid (range_fits marks j v inside))

          pub flag_cleared : v ≡ 0 → after (answer_of (Ok g)) d [] ≡ effect marks b (edits (clear_flag j))
          unfolding call_checks made gives
          flag_cleared e =
              ap (λ (x : Answer). after x d []) shows
              ∙ edit_done marks b (observation_of b) bs f.judged (clear_flag j) d passes
              (rw e at flag_fits_lem) (rw e at (flag_laid (rw e (missing_fits marks j))))
