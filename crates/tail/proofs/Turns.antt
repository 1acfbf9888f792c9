-- A walk over attachments: what is still to be walked gives the answer.
-- Assumes nothing.
use Prim.Native.Nat.{ℕ, suc, ◌+◌, ◌-◌, ◌*◌, ◌^◌, ◌≤◌, ◌<◌}
use native.Mathlib.Nat.{add-zero}
use native.Mathlib.Numerals.{add-one}
use native.Mathlib.Omega.{arith}
use mathlib.Core.Path.{◌≡◌, refl, sym, ap, ap₂, ◌∙◌}
use mathlib.Core.Bool.{Bool, true, false, cond, ◌||◌}
use mathlib.Core.List.{List, [], ◌∷◌}
use mathlib.Core.Option as found
use mathlib.Core.Option.{none, some}
use lib.ListN.{length, drop, length-drop}
use lib.Seq.{length-take-le}
use lib.Dec.{eqb}
use borrow.Author.Tests.{eqb-true}
use Rattle.std.specs.Prelude.{Option, Some, None, Ok, Err, Result}
use Rattle.std.proofs.lemmas.Bool.Decides.{nat_tests}
use Rattle.format.specs.Order.{Refusal, first}
use Rattle.format.specs.Flags.{FlagTable}
use Rattle.format.specs.Nibbles.{Attachment, attachment, tail_nibbles, attachments_of, length_at, id_at, content_at, behind, among, Nibbles}
use Rattle.format.specs.Report.{attachment_checks}
use Rattle.format.specs.Calls.{stands, content_of}
use Rattle.laws.proofs.Sequences.{test_case, or_false}
use Rattle.laws.proofs.Attachments.{tail-length}
use Rattle.nibble.specs.View.{view, from, moved}
use Rattle.nibble.specs.declared.Cursor.{Cursor}
use Rattle.nibble.proofs.View.{from-length, from-moved, cond_some, cond_none}
use Rattle.nibble.specs.declared.Header.{Header}
use Rattle.tail.specs.Look.{looked_at, head_at, start_at, passed_by}
use Rattle.tail.specs.Walk.{place_of, held_at, walked_by, walked}
use Rattle.tail.specs.declared.Held.{Held}
use Rattle.tail.specs.declared.State.{State}
use Rattle.tail.specs.declared.Tail.{Tail}
use Rattle.tail.proofs.Mask.{Seen, seen_none, seen_more, mask_grows, mask_lt}
use Rattle.tail.proofs.Checks.{look_checks, passes, head_small}

-- where attachments that begin at a place end; where an id stands: found before, or else among them
abbrev tail_behind : Bool → Option Held → ℕ → ℕ → List Attachment → Tail
tail_behind before held at want list = record { end = at + length (tail_nibbles list); held = cond before held (held_at at want list) }

-- what n attachments from position i on give
unfoldable pub walked_from : FlagTable → List ℕ → ℕ → ℕ → List ℕ → Cursor → ℕ → Option Held → Result Tail Refusal
walked_from marks b n i seen c want held =
    walked_by (first (attachment_checks marks n i seen (from b c))) (tail_behind (among want seen) held c.at want (attachments_of n (from b c)))

-- ---- a choice between what was found and what is still to come

eqb_sym : (x y : ℕ) → eqb x y ≡ eqb y x
eqb_sym x y = grind (arith, nat_tests)

-- what is found at t, unless it was before
chosen : (s t before : Bool) (x y z : Option Held) → s ≡ t → (t ≡ true → before ≡ false) → cond before x (cond t y z) ≡ cond (s || before) (cond t y x) z
chosen s true before x y z e f = rw (e, f refl)
chosen s false before x y z e f = rw e

-- nothing is to come
found_or : (before : Bool) (x : Option Held) → (before ≡ false → x ≡ None) → cond before x None ≡ x
found_or true x f = refl
found_or false x f = sym (f refl)

-- at the first attachment, or behind it
held_first : (at want d : ℕ) (content : List ℕ) (more : List Attachment)
    → held_at at want (attachment d content ∷ more) ≡ cond (eqb d want) (Some (record { place = at; al = length content })) (held_at (at + (3 + length content)) want more)
unfolding stands place_of content_of
held_first at want d content more = test_case (eqb d want) (λ t. rw t) (λ t. rw t)

-- one attachment further
module _ (before : Bool) (held : Option Held) (at next want a d : ℕ) (content : List ℕ) (more : List Attachment) (size : length content ≡ a)
    (behind : next ≡ at + (3 + a)) (new : d ≡ want → before ≡ false) where
  tail_passed : tail_behind before held at want (attachment d content ∷ more)
      ≡ tail_behind (eqb want d || before) (cond (eqb d want) (Some (record { place = at; al = a })) held) next want more
  tail_passed =
      let e : at + length (tail_nibbles (attachment d content ∷ more)) ≡ at + (3 + a) + length (tail_nibbles more) = omega (arith, tail-length (attachment d content) more) in
      let here : Option Held = Some (record { place = at; al = a }) in
      let c = chosen (eqb want d) (eqb d want) before held here (held_at (at + (3 + a)) want more) (eqb_sym want d) (λ t. new (eqb-true d want t)) in
      rw (behind, e, held_first at want d content more, size, c)

-- what stands behind an attachment begins AL nibbles behind its header
pub behind-from : (b : List ℕ) (c : Cursor) (h : Header) → h ≡ head_at b c → behind (from b c) ≡ from b (moved h.body h.al)
behind-from b c h e = rw e (ap (drop (length_at (from b c))) (from-moved b c 3) ∙ from-moved b (moved c 3) (length_at (from b c)))

-- ---- one attachment of a walk

module _ (marks : FlagTable) (b : List ℕ) (c : Cursor) (mask : ℕ) (seen : List ℕ) (want : ℕ) (held : Option Held) (n i : ℕ) (m : Seen mask seen) where
  from_fault : (r : Refusal) → looked_at marks b c mask i ≡ Err r → walked_from marks b (suc n) i seen c want held ≡ Err r
  unfolding walked_from
  from_fault r e = rw (look_checks marks b c mask seen n i m, e)

  from_fine : (h : Header) → looked_at marks b c mask i ≡ Ok h
      → walked_from marks b (suc n) i seen c want held
      ≡ walked_from marks b n (i + 1) (h.id ∷ seen) (moved h.body h.al) want (cond (eqb h.id want) (Some (record { place = c.at; al = h.al })) held)
  unfolding walked_from attachments_of among
  from_fine h e =
      let p = passes marks b c mask i h e in
      let ns = from b c in
      let next = moved h.body h.al in
      let more = attachments_of n (from b next) in
      let rest = behind-from b c h p.read in
      let al : h.al ≡ length_at ns = ap (λ (x : Header). x.al) p.read in
      let id : h.id ≡ id_at ns = ap (λ (x : Header). x.id) p.read in
      let at : next.at ≡ c.at + (3 + h.al) = omega (arith, ap (λ (x : Header). x.body.at) p.read) in
      let list : attachments_of (suc n) ns ≡ attachment h.id (content_at ns) ∷ more = rw (rest, id) in
      let size : length (content_at ns) ≡ h.al = length-take-le (length_at ns) (drop 3 ns) (omega (arith, p.fits, al, length-drop 3 ns, from-length b c)) ∙ sym al in
      let new : h.id ≡ want → among want seen ≡ false = λ q. ap (λ (x : ℕ). among x seen) (sym q) ∙ sym (m.at h.id) ∙ p.new in
      let checks : first (attachment_checks marks (suc n) i seen ns) ≡ first (attachment_checks marks n (suc i) (h.id ∷ seen) (from b next)) =
      look_checks marks b c mask seen n i m ∙ rw (e, rest, id) in
      rw (add-one i) (ap₂ walked_by checks (ap (tail_behind (among want seen) held c.at want) list ∙ tail_passed (among want seen) held c.at next.at want h.al h.id (content_at ns) more size at new))

-- ---- the walk

-- the attachments before position i are walked over: the ids seen, bounds, and what the others give
pub record Walking (marks : FlagTable) (b : List ℕ) (c : Cursor) (count want : ℕ) (st : State) (i : ℕ) : Type 0 where
  pub seen : List ℕ
  pub ids : Seen st.mask seen
  pub kept : among want seen ≡ false → st.held ≡ None
  pub few : i ≤ st.mask + 1
  pub low : st.mask < 65536
  pub near : st.cursor.at ≤ 65536 + 258 * i
  pub nibbles : Nibbles (view st.cursor.packed b)
  pub passed : i ≤ count + 1
  pub rest : walked_from marks b (count + 1 - i) i seen st.cursor want st.held ≡ walked marks b c count want

pub walk_start : (marks : FlagTable) (b : List ℕ) (c : Cursor) (count want : ℕ) → Nibbles (view c.packed b) → c.at ≤ 65536
    → Walking marks b c count want (start_at c) 1
unfolding walked_from walked among
walk_start marks b c count want n h =
    let e : count + 1 - 1 ≡ count = omega arith in
    record {
      seen = [];
      ids = seen_none;
      kept = λ _. refl;
      few = omega arith;
      low = omega arith;
      near = omega arith;
      nibbles = n;
      passed = omega arith;
      rest = rw e;
    }

module _ (marks : FlagTable) (b : List ℕ) (c : Cursor) (count want : ℕ) (st : State) (i : ℕ) (k : Walking marks b c count want st i) where
  pub walk_end : count < i → Ok (record { end = st.cursor.at; held = st.held }) ≡ walked marks b c count want
  unfolding walked_from attachments_of attachment_checks first stands tail_nibbles
  walk_end h =
      let z : count + 1 - i ≡ 0 = omega arith in
      let ended : walked_from marks b 0 i k.seen st.cursor want st.held ≡ Ok (record { end = st.cursor.at; held = st.held }) =
      rw (add-zero st.cursor.at, found_or (among want k.seen) st.held k.kept) in
      sym ended ∙ (rw z at k.rest)

  -- what a look requires, and a pass
  pub walk_look : Nibbles (view st.cursor.packed b) × (st.cursor.at ≤ 2 ^ 30)
  walk_look = (k.nibbles, omega (arith, k.few, k.low, k.near))

  pub walk_pass : (h : Header) → looked_at marks b st.cursor st.mask i ≡ Ok h → (h.body.at ≤ 2 ^ 31) × (h.al < 256) × (h.id < 16)
  walk_pass h e =
      let p = passes marks b st.cursor st.mask i h e in
      let s = head_small b st.cursor h k.nibbles p.read in
      (omega (arith, walk_look.1, ap (λ (x : Header). x.body.at) p.read), s.0, s.1)

  module _ (l : i ≤ count) where
    left : count + 1 - i ≡ suc (count + 1 - (i + 1))
    left = omega arith

    pub walk_fault : (r : Refusal) → looked_at marks b st.cursor st.mask i ≡ Err r → Err r ≡ walked marks b c count want
    walk_fault r e = sym (from_fault marks b st.cursor st.mask k.seen want st.held (count + 1 - (i + 1)) i k.ids r e) ∙ (rw left at k.rest)

    pub walk_more : (h : Header) → looked_at marks b st.cursor st.mask i ≡ Ok h → Walking marks b c count want (passed_by st h want) (i + 1)
    unfolding among
    walk_more h e =
        let p = passes marks b st.cursor st.mask i h e in
        let s = walk_pass h e in
        let g = mask_grows st.mask h.id p.new in
        let few = k.few in
        let near = k.near in
        let at = ap (λ (x : Header). x.body.at) p.read in
        let packed = ap (λ (x : Header). x.body.packed) p.read in
        record {
          seen = h.id ∷ k.seen;
          ids = seen_more st.mask k.seen h.id k.ids;
          kept = λ t. let f = or_false (eqb want h.id) (among want k.seen) t in rw (eqb_sym h.id want, f.0) (k.kept f.1);
          few = omega arith;
          low = mask_lt st.mask h.id k.low s.2;
          near = omega arith;
          nibbles = rw packed k.nibbles;
          passed = omega arith;
          rest = sym (from_fine marks b st.cursor st.mask k.seen want st.held (count + 1 - (i + 1)) i k.ids h e) ∙ (rw left at k.rest);
        }

-- ---- what an answer says

pub walked_refused : {T : Type 0} (o : found.Option Refusal) (t : T) (r : Refusal) → walked_by o t ≡ Err r → o ≡ some r
walked_refused none t r e = cc
walked_refused (some q) t r e = let p : q ≡ r = cc in ap some p

pub walked_ended : {T : Type 0} (o : found.Option Refusal) (t u : T) → walked_by o t ≡ Ok u → (o ≡ none) × (u ≡ t)
walked_ended none t u e = (refl, (cc))
walked_ended (some r) t u e = cc

-- what the place of an id says
pub record IsHeld (at i : ℕ) (list : List Attachment) (h : Held) : Type 0 where
  pub stands : stands i list ≡ true
  pub place : h.place ≡ place_of at i list
  pub al : h.al ≡ length (content_of i list)

module _ (at i : ℕ) (list : List Attachment) where
  pub held_some : (h : Held) → held_at at i list ≡ Some h → IsHeld at i list h
  held_some h e =
      let p = cond_some (stands i list) (record { place = place_of at i list; al = length (content_of i list) }) h e in
      record { stands = p.0; place = ap (λ (x : Held). x.place) p.1; al = ap (λ (x : Held). x.al) p.1 }

  pub held_none : held_at at i list ≡ None → stands i list ≡ false
  held_none e = cond_none (stands i list) (record { place = place_of at i list; al = length (content_of i list) }) e
