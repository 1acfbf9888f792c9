-- The two round trips, from what unpack and pack leave.
-- Assumes nothing.
use Prim.Native.Nat.{ℕ, ◌^◌, ◌≤◌, ◌<◌}
use native.Mathlib.Omega.{arith}
use mathlib.Core.Path.{◌≡◌, refl, sym, ap, ap₂, ◌∙◌}
use mathlib.Core.Bool.{Bool, true, false, cond, not, ◌||◌}
use mathlib.Core.List.{List, [], ◌∷◌, ◌++◌, map, append_assoc, append-nil}
use mathlib.Core.Option.{Option, none, some}
use lib.ListN.{length, take, drop, length-append, take-append-drop, drop_of_length-le}
use lib.Seq.{length-take-le, take_all}
use lib.Dec.{ltb}
use lib.IntN.{ℤ}
use lib.Signed.{mag}
use borrow.Author.Tests.{le-ltb, lt-ltb, ltb-false}
use Rattle.format.specs.Bits.{Bytes}
use Rattle.format.specs.Order.{Refusal, Check, check, first}
use Rattle.format.specs.Field.{table}
use Rattle.format.specs.Flags.{FlagTable}
use Rattle.format.specs.Observation.{Observation, packing, size}
use Rattle.format.specs.Report.{Verdict, judge, attachment_checks}
use Rattle.format.specs.Calls.{Given, Answer, all_nibbles, over}
use Rattle.format.specs.Reply.{refusal}
use Rattle.format.specs.Whole.{Wrote, wrote_by, Unpacked, unpacked, unpack_on, unpacked_by, unpack_checks, unpack_gives, unpack, value_or_zero, presence, tail, bit_outside}
use Rattle.format.specs.Whole.{pack_checks, count_in, pack_observation, pack_order, pack_gives, pack}
use Rattle.laws.proofs.Sequences.{or_false, cond_case}
use Rattle.laws.proofs.Order.{first_fits, first_skip, first-nil, first_none, first-append_some, first-append_skip, first-append_none}
use Rattle.laws.proofs.Report.{size_is}
use Rattle.laws.proofs.Whole.{pack_outcome, unpack_accepted, pack-unpacked, unpack-after-pack}
use Rattle.laws.proofs.Effects.{refused_accepted}
use Rattle.report.specs.Answers.{judged_of}
use Rattle.std.specs.Prelude.{Result, Ok, Err, IsErrAnd}
use Rattle.format.specs.Reply.{refusal_of}
use Rattle.format.specs.declared.Refusal as code
use Rattle.laws.proofs.Results.{err_is}
use Rattle.pack.specs.Answers.{pack_answer}
use Rattle.unpack.specs.Answers.{contents_numbers, unpack_answer}
use Rattle.unpack.specs.declared.Contents.{Contents}
use Rattle.trips.specs.Trips.{trip, restore_checks, restored_by, restored_on, restored, recover_checks, recovered_by, recovered, Holds}

-- ---- pack after unpack

-- the test that refuses the outputs of unpack
abbrev too_short : Observation → List ℤ → List ℕ → Bool
too_short s vs ns = ltb (length vs) 46 || ltb (length ns) (length (tail s))

by_test : (s : Observation) (vs : List ℤ) (ns : List ℕ) (t : Bool) → too_short s vs ns ≡ t
    → unpacked_by (first (unpack_checks s vs ns)) s vs ns ≡ unpacked_by (cond t (some (record { number = 13; place = 0 })) none) s vs ns
by_test s vs ns true e = ap (λ (o : Option Refusal). unpacked_by o s vs ns) (first_fits _ _ e)
by_test s vs ns false e = ap (λ (o : Option Refusal). unpacked_by o s vs ns) (first_skip _ _ e ∙ first-nil)

-- what unpack was given, and gave
pub record Opened (marks : FlagTable) (b : List ℕ) (vs us : List ℤ) (ns ts : List ℕ) (c : Contents) : Type 0 where
  pub observation : Observation
  pub verdict : judge marks b ≡ Verdict.accepted observation
  pub long : 46 ≤ length vs
  pub wide : length (tail observation) ≤ length ns
  pub values : us ≡ over (map value_or_zero observation.values) vs
  pub rest : ts ≡ over (tail observation) ns
  pub word : c.word ≡ presence observation
  pub rptin : c.rptin ≡ observation.rptin
  pub end : c.nibbles ≡ length (tail observation)

-- the numbers of an answer that gives counts
abbrev amount : Option ℤ → ℕ
amount none = 0
amount (some z) = mag z

abbrev amounts : Answer → List ℕ
amounts (Answer.refused r) = []
amounts (Answer.accepted gs) = map (λ (g : Given). amount g.number) gs

module _ (marks : FlagTable) (b : List ℕ) (vs us : List ℤ) (ns ts : List ℕ) where
  pub restore_refused : (r : Refusal) (out : List ℕ) → unpacked (Answer.refused r) us ts ≡ unpack marks b vs ns → trip (Answer.refused r) us ts out ≡ restored marks b vs ns out
  unfolding unpack restored
  restore_refused r out = go (judge marks b)
    where
      inner : (s : Observation) (t : Bool) → too_short s vs ns ≡ t → unpacked (Answer.refused r) us ts ≡ unpacked_by (first (unpack_checks s vs ns)) s vs ns
          → trip (Answer.refused r) us ts out ≡ restored_on (Verdict.accepted s) b vs ns out
      inner s true q e =
          let f = e ∙ by_test s vs ns true q in
          (λ i. trip (f i).answer (f i).values (f i).tail out)
          ∙ ap (λ (o : Option Refusal). restored_by o s b vs ns out) (sym (first_fits _ _ q))
      inner s false q e = refused_accepted _ _ (ap (λ (u : Unpacked). u.answer) (e ∙ by_test s vs ns false q))

      go : (v : Verdict) → unpacked (Answer.refused r) us ts ≡ unpack_on v vs ns → trip (Answer.refused r) us ts out ≡ restored_on v b vs ns out
      go (Verdict.refused q) e = λ i. trip (e i).answer (e i).values (e i).tail out
      go (Verdict.accepted s) e = inner s (too_short s vs ns) refl e

  numbers_word : (c : Contents) (s : Observation) → Answer.accepted (contents_numbers c) ≡ Answer.accepted (unpack_gives s)
      → (c.word ≡ presence s) × (c.rptin ≡ s.rptin) × (c.nibbles ≡ length (tail s))
  unfolding unpack_gives
  numbers_word c s e =
      let f : amounts (Answer.accepted (contents_numbers c)) ≡ amounts (Answer.accepted (unpack_gives s)) = ap amounts e in
      ((cc), (cc), (cc))

  pub opened : (c : Contents) → unpacked (Answer.accepted (contents_numbers c)) us ts ≡ unpack marks b vs ns → Opened marks b vs us ns ts c
  unfolding unpack
  opened c = go (judge marks b) refl
    where
      inner : (s : Observation) → judge marks b ≡ Verdict.accepted s → (t : Bool) → too_short s vs ns ≡ t
          → unpacked (Answer.accepted (contents_numbers c)) us ts ≡ unpacked_by (first (unpack_checks s vs ns)) s vs ns → Opened marks b vs us ns ts c
      inner s j true q e = refused_accepted _ _ (sym (ap (λ (u : Unpacked). u.answer) (e ∙ by_test s vs ns true q)))
      inner s j false q e =
          let f = e ∙ by_test s vs ns false q in
          let n = numbers_word c s (ap (λ (u : Unpacked). u.answer) f) in
          let h = or_false _ _ q in
          record {
            observation = s;
            verdict = j;
            long = ltb-false (length vs) 46 h.0;
            wide = ltb-false (length ns) (length (tail s)) h.1;
            values = ap (λ (u : Unpacked). u.values) f;
            rest = ap (λ (u : Unpacked). u.tail) f;
            word = n.0;
            rptin = n.1;
            end = n.2;
          }

      go : (v : Verdict) → judge marks b ≡ v → unpacked (Answer.accepted (contents_numbers c)) us ts ≡ unpack_on v vs ns → Opened marks b vs us ns ts c
      go (Verdict.refused r) j e = refused_accepted _ _ (sym (ap (λ (u : Unpacked). u.answer) e))
      go (Verdict.accepted s) j e = inner s j (too_short s vs ns) refl e

-- the tail that was given lies within its output
pub opened_within : (marks : FlagTable) {b : List ℕ} {vs us : List ℤ} {ns ts : List ℕ} {c : Contents} → Opened marks b vs us ns ts c → c.nibbles ≤ length ts
opened_within marks {ns = ns} o = omega (arith, o.end, ap length o.rest, length-append (tail o.observation) (drop (length (tail o.observation)) ns))

-- pack accepts what it accepted
pack_accepted : (marks : FlagTable) (values : List ℤ) (word rptin : ℕ) (ns out : List ℕ) (gs : List Given) (o : List ℕ)
    → pack marks values word rptin ns out ≡ record { answer = Answer.accepted gs; out = o } → first (pack_order marks (length out) values word rptin ns) ≡ none
unfolding pack
pack_accepted marks values word rptin ns out gs o e = go (first (pack_order marks (length out) values word rptin ns)) e
  where
    go : (q : Option Refusal)
        → wrote_by q (pack_gives (size (pack_observation values word rptin ns))) (packing (pack_observation values word rptin ns)) out
        ≡ record { answer = Answer.accepted gs; out = o }
        → q ≡ none
    go none e = refl
    go (some r) e = refused_accepted _ _ (ap (λ (w : Wrote). w.answer) e)

module _ (marks : FlagTable) (b : List ℕ) (bs : Bytes b) (vs us : List ℤ) (ns ts : List ℕ) (c : Contents) (o : Opened marks b vs us ns ts c) where
  same_pack : (out : List ℕ)
      → pack marks us c.word c.rptin (take c.nibbles ts) out
      ≡ pack marks (unpack marks b vs ns).values (presence o.observation) o.observation.rptin (take (length (tail o.observation)) (unpack marks b vs ns).tail) out
  same_pack out =
      let is = sym (unpack_accepted marks b o.observation vs ns o.verdict o.long o.wide) in
      let u : us ≡ (unpack marks b vs ns).values = o.values ∙ ap (λ (x : Unpacked). x.values) is in
      let t : ts ≡ (unpack marks b vs ns).tail = o.rest ∙ ap (λ (x : Unpacked). x.tail) is in
      λ i. pack marks (u i) (o.word i) (o.rptin i) (take (o.end i) (t i)) out

  pack_back : (out : List ℕ) → size o.observation ≤ length out
      → pack marks us c.word c.rptin (take c.nibbles ts) out
      ≡ record { answer = Answer.accepted (pack_gives (size o.observation)); out = over (take (size o.observation) b) out }
  pack_back out h = same_pack out ∙ pack-unpacked marks b o.observation vs ns out bs o.verdict o.long o.wide h

  pub restore_packed : (a : Answer) (out after : List ℕ) → Holds marks out b → record { answer = a; out = after } ≡ pack marks us c.word c.rptin (take c.nibbles ts) out
      → trip a us ts after ≡ restored marks b vs ns out
  unfolding restored
  restore_packed a out after holds e =
      let x = o.observation in
      let h = holds x o.verdict in
      let short : too_short x vs ns ≡ false = rw (le-ltb (length vs) 46 o.long, le-ltb (length ns) (length (tail x)) o.wide) in
      let passed : first (restore_checks x vs ns out) ≡ none = first_skip _ _ short ∙ first_skip _ _ (le-ltb (length out) (size x) h) ∙ first-nil in
      let f = e ∙ pack_back out h in
      (λ i. trip (f i).answer (o.values i) (o.rest i) (f i).out)
      ∙ ap (λ (q : Option Refusal). restored_by q x b vs ns out) (sym passed)
      ∙ ap (λ (v : Verdict). restored_on v b vs ns out) (sym o.verdict)

-- the report is refused; the output is too short for it; it holds it
module _ (marks : FlagTable) (b : List ℕ) where
  refused_by : (r : Refusal) (vs : List ℤ) (ns out : List ℕ) → Err r ≡ judged_of (judge marks b) → trip (Answer.refused r) vs ns out ≡ restored marks b vs ns out
  unfolding restored
  refused_by r vs ns out = go (judge marks b)
    where
      go : (v : Verdict) → Err r ≡ judged_of v → trip (Answer.refused r) vs ns out ≡ restored_on v b vs ns out
      go (Verdict.refused q) e = let x : r ≡ q = cc in ap (λ (k : Refusal). trip (Answer.refused k) vs ns out) x
      go (Verdict.accepted s) e = absurd (cc)

  pub report_refused : (x : Result ℕ code.Refusal) (e : code.Refusal) (vs : List ℤ) (ns out : List ℕ) → IsErrAnd x (λ y. y ≡ e) → Err (refusal_of e) ≡ judged_of (judge marks b)
      → trip (pack_answer x) vs ns out ≡ restored marks b vs ns out
  report_refused x e vs ns out h is = rw (err_is x e h) (refused_by (refusal_of e) vs ns out is)

  pub report_no_room : (n : ℕ) (vs : List ℤ) (ns out : List ℕ) → Ok n ≡ judged_of (judge marks b) → length out < n → trip (refusal 13 0) vs ns out ≡ restored marks b vs ns out
  unfolding restored
  report_no_room n vs ns out e h = go (judge marks b) e
    where
      short : (s : Observation) → length out < size s → (t : Bool) → too_short s vs ns ≡ t → first (restore_checks s vs ns out) ≡ some (record { number = 13; place = 0 })
      short s l true q = first_fits _ _ q
      short s l false q = first_skip _ _ q ∙ first_fits _ _ (lt-ltb (length out) (size s) l)

      go : (v : Verdict) → Ok n ≡ judged_of v → trip (refusal 13 0) vs ns out ≡ restored_on v b vs ns out
      go (Verdict.refused r) q = absurd (cc)
      go (Verdict.accepted s) q =
          let x : n ≡ size s = cc in
          ap (λ (o : Option Refusal). restored_by o s b vs ns out) (sym (short s (omega arith) (too_short s vs ns) refl))

  pub report_holds : (n : ℕ) (out : List ℕ) → Ok n ≡ judged_of (judge marks b) → n ≤ length out → Holds marks out b
  report_holds n out e h s v =
      let q : Ok n ≡ judged_of (Verdict.accepted s) = e ∙ ap judged_of v in
      let x : n ≡ size s = cc in
      omega arith

-- ---- unpack after pack

module _ (marks : FlagTable) (values : List ℤ) (word rptin : ℕ) (ns out : List ℕ) (vs : List ℤ) (ts : List ℕ) where
  abbrev packed : Observation
  packed = pack_observation values word rptin ns

  -- the test that refuses the outputs of unpack, and how much of its output pack is lent
  abbrev too_little : Bool
  too_little = ltb (length vs) 46 || ltb (length ts) (length ns)

  abbrev lent : ℕ
  lent = cond too_little 0 (length out)

  -- pack's checks, the last of which is that of its output
  abbrev front : List Check
  front =
      check (ltb (length values) 46) 13 0
      ∷ check (bit_outside word) 8 0
      ∷ (pack_checks 1 table word values ++ (check (not (all_nibbles ns)) 14 0 ∷ attachment_checks marks (count_in ns) 1 [] ns))

  order_split : (n : ℕ) → pack_order marks n values word rptin ns ≡ front ++ (check (ltb n (size packed)) 13 0 ∷ [])
  unfolding pack_order
  order_split n =
      ap (λ (l : List Check). check (ltb (length values) 46) 13 0 ∷ check (bit_outside word) 8 0 ∷ l)
      (sym (append_assoc (pack_checks 1 table word values) (check (not (all_nibbles ns)) 14 0 ∷ attachment_checks marks (count_in ns) 1 [] ns) _))

  -- the trip's first refusal is pack's on what it is lent
  lent_order : first (recover_checks marks values word rptin ns out vs ts) ≡ first (pack_order marks lent values word rptin ns)
  unfolding first
  lent_order = go too_little refl
    where
      thirteen : Option Refusal
      thirteen = some (record { number = 13; place = 0 })

      -- 13 of pack's output, or the one behind it
      either : (t : Bool) → first (check t 13 0 ∷ check true 13 0 ∷ []) ≡ thirteen
      either true = refl
      either false = refl

      nothing_lent : (o : Option Refusal) → first front ≡ o → (t : Bool)
          → first (front ++ (check t 13 0 ∷ check true 13 0 ∷ [])) ≡ first (front ++ (check (ltb 0 (size packed)) 13 0 ∷ []))
      nothing_lent (some r) q t = first-append_some front (check t 13 0 ∷ check true 13 0 ∷ []) r q ∙ sym (first-append_some front (check (ltb 0 (size packed)) 13 0 ∷ []) r q)
      nothing_lent none q t =
          first-append_skip front (check t 13 0 ∷ check true 13 0 ∷ []) q
          ∙ either t
          ∙ sym (first-append_skip front (check (ltb 0 (size packed)) 13 0 ∷ []) q ∙ first_fits (check (ltb 0 (size packed)) 13 0) [] (lt-ltb 0 (size packed) (omega (arith, size_is packed))))

      all_lent : (o : Option Refusal) → first (pack_order marks (length out) values word rptin ns) ≡ o
          → first (pack_order marks (length out) values word rptin ns ++ (check false 13 0 ∷ [])) ≡ o
      all_lent (some r) q = first-append_some (pack_order marks (length out) values word rptin ns) (check false 13 0 ∷ []) r q
      all_lent none q = first-append_skip (pack_order marks (length out) values word rptin ns) (check false 13 0 ∷ []) q ∙ first_skip (check false 13 0) [] refl ∙ first-nil

      go : (t : Bool) → too_little ≡ t
          → first (pack_order marks (length out) values word rptin ns ++ (check t 13 0 ∷ [])) ≡ first (pack_order marks (cond t 0 (length out)) values word rptin ns)
      go true q =
          ap (λ (l : List Check). first (l ++ (check true 13 0 ∷ []))) (order_split (length out))
          ∙ ap first (append_assoc front (check (ltb (length out) (size packed)) 13 0 ∷ []) (check true 13 0 ∷ []))
          ∙ nothing_lent (first front) refl (ltb (length out) (size packed))
          ∙ ap first (sym (order_split 0))
      go false q = all_lent _ refl

  module _ (n : ℕ) (is : n ≡ lent) where
    pub lent_within : n ≤ length out
    lent_within = rw is (cond_case (λ (m : ℕ). m ≤ length out) too_little 0 (length out) (λ e. omega arith) (λ e. omega arith))

    lent_first : first (pack_order marks (length (take n out)) values word rptin ns) ≡ first (recover_checks marks values word rptin ns out vs ts)
    lent_first =
        ap (λ (m : ℕ). first (pack_order marks m values word rptin ns)) (length-take-le n out lent_within ∙ is) ∙ sym lent_order

    refused_by_pack : (x : Refusal) (o : List ℕ) → record { answer = Answer.refused x; out = o } ≡ pack marks values word rptin ns (take n out)
        → trip (Answer.refused x) vs ts (o ++ drop n out) ≡ recovered marks values word rptin ns out vs ts
    unfolding pack recovered
    refused_by_pack x o e = go (first (pack_order marks (length (take n out)) values word rptin ns)) refl e
      where
        go : (q : Option Refusal) → first (pack_order marks (length (take n out)) values word rptin ns) ≡ q
            → record { answer = Answer.refused x; out = o } ≡ wrote_by q (pack_gives (size packed)) (packing packed) (take n out)
            → trip (Answer.refused x) vs ts (o ++ drop n out) ≡ recovered_by (first (recover_checks marks values word rptin ns out vs ts)) values word rptin ns out vs ts
        go (some r) q e =
            (λ i. trip (e i).answer vs ts ((e i).out ++ drop n out))
            ∙ ap (λ (y : List ℕ). trip (Answer.refused r) vs ts y) (take-append-drop n out)
            ∙ ap (λ (y : Option Refusal). recovered_by y values word rptin ns out vs ts) (sym q ∙ lent_first)
        go none q e = refused_accepted _ _ (ap (λ (w : Wrote). w.answer) e)

    pub recover_refused : (x : Result Contents code.Refusal) (e : code.Refusal) (o : List ℕ) → IsErrAnd x (λ y. y ≡ e)
        → record { answer = Answer.refused (refusal_of e); out = o } ≡ pack marks values word rptin ns (take n out)
        → trip (unpack_answer x) vs ts (o ++ drop n out) ≡ recovered marks values word rptin ns out vs ts
    recover_refused x e o h is = rw (err_is x e h) (refused_by_pack (refusal_of e) o is)

    module _ (gs : List Given) (o : List ℕ) (e : record { answer = Answer.accepted gs; out = o } ≡ pack marks values word rptin ns (take n out)) where
      -- no check fits, so that all of the output was lent
      passed : first (recover_checks marks values word rptin ns out vs ts) ≡ none
      passed = sym lent_first ∙ pack_accepted marks values word rptin ns (take n out) gs o (sym e)

      order_passed : first (pack_order marks (length out) values word rptin ns) ≡ none
      order_passed = (first-append_none _ _ passed).0

      enough : too_little ≡ false
      enough = (first_none _ [] (first-append_none (pack_order marks (length out) values word rptin ns) _ passed).1).0

      all : n ≡ length out
      all = is ∙ ap (λ (t : Bool). cond t 0 (length out)) enough

      written : o ++ drop n out ≡ (pack marks values word rptin ns out).out
      written =
          ap₂ (λ (x y : List ℕ). x ++ y)
          (ap (λ (w : Wrote). w.out) e ∙ ap (λ (x : List ℕ). (pack marks values word rptin ns x).out) (take_all n out (omega (arith, all))))
          (drop_of_length-le out {i = n} (omega (arith, all)))
          ∙ append-nil _

      pub recover_written : (r : rptin < 2 ^ 16) (a : Answer) (us : List ℤ) (qs : List ℕ)
          → unpacked a us qs ≡ unpack marks (o ++ drop n out) vs ts → trip a us qs (o ++ drop n out) ≡ recovered marks values word rptin ns out vs ts
      unfolding recovered
      recover_written r a us qs u =
          let h = or_false _ _ enough in
          let f =
          u ∙ ap (λ (x : List ℕ). unpack marks x vs ts) written
          ∙ unpack-after-pack marks values word rptin ns out r order_passed vs ts (ltb-false (length vs) 46 h.0) (ltb-false (length ts) (length ns) h.1) in
          let report : o ++ drop n out ≡ over (packing packed) out =
          written ∙ ap (λ (w : Wrote). w.out) (sym (pack_outcome marks values word rptin ns out none order_passed)) in
          (λ i. trip (f i).answer (f i).values (f i).tail (report i))
          ∙ ap (λ (x : Option Refusal). recovered_by x values word rptin ns out vs ts) (sym passed)
