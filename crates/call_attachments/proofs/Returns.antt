-- Drop and put as edits, and what each return of them leaves.
-- Assumes nothing.
use Prim.Native.Nat.{ℕ, ◌+◌, ◌-◌, ◌*◌, ◌/◌, ◌≤◌, ◌<◌}
use native.Mathlib.Omega.{arith}
use mathlib.Core.Path.{◌≡◌, refl, sym, ap, ◌∙◌}
use mathlib.Core.Bool.{false, not}
use mathlib.Core.List.{List, [], ◌∷◌, append-nil}
use lib.ListN.{length, set}
use lib.Seq.{paste}
use borrow.Author.Tests.{lt-leb, le-leb}
use Rattle.format.specs.Bits.{Bytes}
use Rattle.format.specs.Order.{between}
use Rattle.format.specs.Flags.{FlagTable}
use Rattle.format.specs.Nibbles.{Attachment, attachment, nibbles, attachment_nibbles, tail_nibbles}
use Rattle.format.specs.Observation.{Observation, size}
use Rattle.format.specs.Report.{numbers_of, observation_of}
use Rattle.format.specs.Calls.{edits, made, remove, gives, content_of, put_in, remove_from, with_attachments, with_content, id_check, call_checks, Answer}
use Rattle.format.specs.Buffer.{after, effect}
use Rattle.laws.proofs.Order.{no_check}
use Rattle.laws.proofs.Nibbles.{length-nibbles}
use Rattle.laws.proofs.Attachments.{FineAt, fine_nibbles, fine_count, tail-append}
use Rattle.laws.proofs.AttachmentEdits.{put_fine, remove_fine, put_absent, put_placed, remove-placed, put_length, remove-length, append-length}
use Rattle.laws.proofs.Report.{judged, within}
use Rattle.laws.proofs.Edits.{Edit, edit_inside, edit_size, edit_laid}
use Rattle.laws.proofs.Effects.{edit_done}
use Rattle.card.specs.Answers.{Carded}
use Rattle.report.specs.declared.Report.{Report}
use Rattle.std.specs.Prelude.{Some, None, Ok, Err}
use Prim.{tt}
use Rattle.tail.specs.declared.Held.{Held}
use Rattle.format.specs.declared.Refusal.TheVariants.{Room}
use Rattle.call_attachments.specs.declared.Spot.{Spot}
use Rattle.report.specs.Found.{Found}
use Rattle.report.proofs.Found.{good, al_is, end_is, count_is, absent, split, place_is, spot, stands_passes}
use Rattle.call_attachments.specs.Edit.{Resizable, resized, PutEdit, new_size, with_put, without_id, has_room, putting, room_answer}
use Rattle.call_attachments.proofs.Edits.{spliced_none, spliced_laid}

-- room for an edit
resizable : (marks : FlagTable) {b : List ℕ} {list : List Attachment} {x : List ℕ} {at old end count : ℕ} (new : ℕ) → Bytes b → Edit marks b list x at old end count
    → new ≡ length x → new ≤ 65536 → size (with_attachments (observation_of b) list) ≤ length b → Resizable (length b) at old new end
resizable marks {b} {list} {x} {at} {old} {end} new bs e l small room =
    let w = within marks b (observation_of b) bs e.judged in
    let i = edit_inside marks bs e in
    let z = edit_size marks bs e in
    let d = e.end_is in
    record { inside = i.0; few = omega arith; small = small; fits = omega arith; room = omega arith }

-- ---- drop

module _ (marks : FlagTable) {b : List ℕ} {i : ℕ} {r : Report} (bs : Bytes b) (f : Found marks b i r) (h : Held) (stands : r.held ≡ Some h) where
  abbrev list : List Attachment
  list = (observation_of b).attachments

  abbrev content : List ℕ
  content = content_of i list

  header_length : 3 + h.al ≡ length (attachment_nibbles (attachment i (content_of i (observation_of b).attachments)))
  unfolding attachment_nibbles
  header_length = omega (arith, al_is marks bs f h stands)

  pub remove_edit : Edit marks b (remove_from i (observation_of b).attachments) [] h.place (3 + h.al) r.end (r.count - 1)
  remove_edit =
      let p = spot marks bs f h stands in
      let n = count_is marks bs f in
      let m = remove-length p in
      record {
        judged = f.judged;
        before = tail_nibbles p.before;
        gone = attachment_nibbles (attachment i content);
        behind = tail_nibbles p.after;
        from = split marks bs f h stands;
        to = ap tail_nibbles (remove-placed p) ∙ tail-append p.before p.after;
        at_is = place_is marks bs f h stands;
        old_is = header_length;
        end_is = end_is marks bs f;
        count_is = omega arith;
        count_lt = omega (arith, fine_count marks (good marks bs f).fine);
      }

  remove_fits : size (with_attachments (observation_of b) (remove_from i (observation_of b).attachments)) ≤ length b
  remove_fits =
      let w = within marks b (observation_of b) bs f.judged in
      let z = edit_size marks bs remove_edit in
      let e = end_is marks bs f in
      omega arith

  pub remove_room : Resizable (length b) h.place (3 + h.al) 0 r.end
  remove_room = resizable marks 0 bs remove_edit refl (omega arith) remove_fits

  pub count_some : 1 ≤ r.count
  count_some = omega (arith, count_is marks bs f, remove-length (spot marks bs f h stands))

  pub remove-laid : (c d : List ℕ) → nibbles c ≡ resized (nibbles b) h.place (3 + h.al) 0 r.end → length c ≡ length b
      → Carded c d (set (numbers_of c) 48 (r.count - 1)) → Bytes d → d ≡ without_id b i
  remove-laid c d moved same k bd =
      edit_laid marks bs remove_edit c (moved ∙ spliced_none (nibbles b) h.place (3 + h.al) r.end)
      (fine_nibbles marks (remove_fine marks i (good marks bs f).fine)) d bd (k.long ∙ same) k.card k.behind

  pub remove_done : (d : List ℕ) → not (between 1 15 i) ≡ false → d ≡ without_id b i → after (Answer.accepted []) d [] ≡ effect marks b (edits (remove i))
  unfolding call_checks gives made
  remove_done d known laid =
      edit_done marks b (observation_of b) bs f.judged (remove i) d (no_check (id_check i) _ known (stands_passes marks bs f h stands)) remove_fits laid

-- ---- put: at the end, or in place of what stands

module _ (marks : FlagTable) {b : List ℕ} {i : ℕ} {r : Report} {ns : List ℕ} (bs : Bytes b) (f : Found marks b i r) (fine : FineAt marks (attachment i ns)) where
  few : length (put_in i ns (observation_of b).attachments) < 16
  few = omega (arith, fine_count marks (put_fine marks i ns fine (good marks bs f).fine))

  pub append_count : r.held ≡ None → r.count + 1 < 16
  append_count e =
      let list = (observation_of b).attachments in
      omega (arith, few, count_is marks bs f, append-length i ns list (absent marks bs f e))

  pub append_edit : r.held ≡ None → PutEdit b i ns (record { at = r.end; old = 0; end = r.end; count = r.count + 1 })
  unfolding tail_nibbles
  append_edit e =
      let list = (observation_of b).attachments in
      let a = absent marks bs f e in
      let n : r.count + 1 ≡ length (put_in i ns list) = omega (arith, count_is marks bs f, append-length i ns list a) in
      let edit : Edit marks b (put_in i ns (observation_of b).attachments) (attachment_nibbles (attachment i ns)) r.end 0 r.end (r.count + 1) = record {
        judged = f.judged;
        before = tail_nibbles (observation_of b).attachments;
        gone = [];
        behind = [];
        from = sym (append-nil (tail_nibbles (observation_of b).attachments));
        to = ap tail_nibbles (put_absent i ns list a) ∙ tail-append list (attachment i ns ∷ []);
        at_is = end_is marks bs f;
        old_is = refl;
        end_is = end_is marks bs f;
        count_is = n;
        count_lt = omega (arith, few);
      } in
      record { marks = marks; edit = edit; fine = fine }

  pub replace_edit : (h : Held) → r.held ≡ Some h → PutEdit b i ns (record { at = h.place; old = 3 + h.al; end = r.end; count = r.count })
  unfolding tail_nibbles
  replace_edit h stands =
      let p = spot marks bs f h stands in
      let n : r.count ≡ length (put_in i ns (observation_of b).attachments) = count_is marks bs f ∙ sym (put_length p ns) in
      let edit : Edit marks b (put_in i ns (observation_of b).attachments) (attachment_nibbles (attachment i ns)) h.place (3 + h.al) r.end r.count = record {
        judged = f.judged;
        before = tail_nibbles p.before;
        gone = attachment_nibbles (attachment i (content_of i (observation_of b).attachments));
        behind = tail_nibbles p.after;
        from = split marks bs f h stands;
        to = ap tail_nibbles (put_placed p ns) ∙ tail-append p.before (attachment i ns ∷ p.after);
        at_is = place_is marks bs f h stands;
        old_is = header_length marks bs f h stands;
        end_is = end_is marks bs f;
        count_is = n;
        count_lt = omega (arith, few);
      } in
      record { marks = marks; edit = edit; fine = fine }

-- ---- the returns of a put

module _ {b : List ℕ} {i : ℕ} {ns : List ℕ} {spot : Spot} (bs : Bytes b) (e : PutEdit b i ns spot) where
  abbrev t : Observation
  t = with_content (observation_of b) i ns

  attachment-length : 3 + length ns ≡ length (attachment_nibbles (attachment i ns))
  unfolding attachment_nibbles
  attachment-length = omega arith

  put_size : size (with_content (observation_of b) i ns) ≡ (spot.end - spot.old + (3 + length ns) + 1) / 2
  put_size = edit_size e.marks bs e.edit ∙ ap (λ (n : ℕ). (spot.end - spot.old + n + 1) / 2) (sym attachment-length)

  pub put_small : (spot.old ≤ spot.end) × (spot.end ≤ 3706) × (spot.at ≤ spot.end) × (length ns ≤ 255)
  put_small =
      let w = within e.marks b (observation_of b) bs e.edit.judged in
      let i = edit_inside e.marks bs e.edit in
      let d = e.edit.end_is in
      (omega arith, omega arith, omega arith, e.fine.short)

  pub put_refused : length b < new_size spot.end spot.old (length ns) → (Err Room ≡ room_answer (has_room b i ns)) × (b ≡ putting b i ns)
  put_refused h = rw (lt-leb (size t) (length b) (rw put_size h)) (refl, refl)

  module _ (fits : new_size spot.end spot.old (length ns) ≤ length b) where
    pub put_room : Resizable (length b) spot.at spot.old (3 + length ns) spot.end
    put_room = resizable e.marks (3 + length ns) bs e.edit attachment-length (omega (arith, e.fine.short)) (omega (arith, put_size))

    pub lay_room : spot.at + (3 + length ns) ≤ 2 * length b
    lay_room = omega (arith, put_room.room)

    pub put_laid : (c₁ c₂ d : List ℕ) → nibbles c₁ ≡ resized (nibbles b) spot.at spot.old (3 + length ns) spot.end
        → nibbles c₂ ≡ paste (nibbles c₁) spot.at (attachment_nibbles (attachment i ns)) (3 + length ns) → length c₂ ≡ length b
        → Carded c₂ d (set (numbers_of c₂) 48 spot.count) → Bytes d → d ≡ with_put b i ns
    put_laid c₁ c₂ d moved laid same k bd =
        let g = (judged e.marks b (observation_of b) bs e.edit.judged).good in
        let x = attachment_nibbles (attachment i ns) in
        let spliced = laid ∙ ap (λ (l : List ℕ). paste l spot.at x (3 + length ns)) moved
        ∙ spliced_laid (nibbles b) x spot.at spot.old (3 + length ns) spot.end attachment-length (rw length-nibbles lay_room) in
        edit_laid e.marks bs e.edit c₂ spliced (fine_nibbles e.marks (put_fine e.marks i ns e.fine g.fine)) d bd (k.long ∙ same) k.card k.behind

    pub put_done_lem : (d : List ℕ) → d ≡ with_put b i ns → (Ok tt ≡ room_answer (has_room b i ns)) × (d ≡ putting b i ns)
    put_done_lem d is = rw (le-leb (size t) (length b) (rw put_size fits)) (refl, is)
