-- Put and remove: they leave attachments that stand, and what they do to the attachment, the others and the tail's size.
-- Assumes nothing.
use Prim.Native.Nat.{ℕ, suc, ◌+◌}
use native.Mathlib.Omega.{arith}
use mathlib.Core.Path.{◌≡◌, refl, sym, ap, subst, ◌∙◌}
use mathlib.Core.Bool.{true, false, ◌&&◌}
use mathlib.Core.List.{List, [], ◌∷◌, ◌++◌, append-nil}
use lib.ListN.{length, length-append}
use lib.Dec.{eqb, leb}
use borrow.Author.Tests.{eq-eqb, ne_eqb, eqb-true, eqb-false, leb-true}
use Rattle.format.specs.Order.{between}
use Rattle.format.specs.Flags.{FlagTable}
use Rattle.format.specs.Nibbles.{Attachment, attachment, tail_nibbles, among}
use Rattle.format.specs.Report.{body_valid}
use Rattle.format.specs.Calls.{stands, content_of, put_in, remove_from, all_nibbles}
use Rattle.laws.proofs.Sequences.{and_true, or_false, true_false, cond_case}
use Rattle.laws.proofs.Attachments.{all_nibbles_lem, FineAt, Fine, empty, one, tail-length, tail-append}

-- ---- an edit leaves attachments that stand

put_after : (marks : FlagTable) {seen : List ℕ} {list : List Attachment} (i : ℕ) (ns : List ℕ) → FineAt marks (attachment i ns) → among i seen ≡ false
    → Fine marks seen list → Fine marks seen (put_in i ns list)
unfolding put_in among
put_after marks i ns at new empty = one at new empty
put_after marks {seen} i ns at new (one {a = a} {more = more} b old f) =
    cond_case (Fine marks seen) (eqb a.id i) (attachment i ns ∷ more) (a ∷ put_in i ns more)
    (λ e. one at new (rw (eqb-true a.id i e) at f))
    (λ e. one b old (put_after marks i ns at (rw (ne_eqb i a.id (λ s. eqb-false a.id i e (sym s))) new) f))

pub put_fine : (marks : FlagTable) {list : List Attachment} (i : ℕ) (ns : List ℕ) → FineAt marks (attachment i ns) → Fine marks [] list → Fine marks [] (put_in i ns list)
unfolding among
put_fine marks i ns at f = put_after marks i ns at refl f

-- what the checks of a put leave is fine
pub put_checked : (marks : FlagTable) (i : ℕ) (ns : List ℕ) → between 1 15 i ≡ true → between 1 255 (length ns) ≡ true
    → all_nibbles ns && body_valid marks i ns ≡ true → FineAt marks (attachment i ns)
put_checked marks i ns ids lengths body =
    let p = and_true (leb 1 i) (leb i 15) ids in
    let q = and_true (leb 1 (length ns)) (leb (length ns) 255) lengths in
    let r = and_true (all_nibbles ns) (body_valid marks i ns) body in
    record {
      filled = leb-true 1 (length ns) q.0;
      short = leb-true (length ns) 255 q.1;
      nibbles = all_nibbles_lem ns r.0;
      low = leb-true 1 i p.0;
      high = leb-true i 15 p.1;
      valid = r.1;
    }

-- attachments stand after fewer ids too
fewer : (marks : FlagTable) {seen seen' : List ℕ} {list : List Attachment} → ((x : ℕ) → among x seen ≡ false → among x seen' ≡ false)
    → Fine marks seen list → Fine marks seen' list
unfolding among
fewer marks h empty = empty
fewer marks {seen} {seen'} h (one {a = a} at new f) = one at (h a.id new) (fewer marks more f)
  where
    more : (x : ℕ) → among x (a.id ∷ seen) ≡ false → among x (a.id ∷ seen') ≡ false
    more x e = let p = or_false (eqb x a.id) (among x seen) e in rw p.0 (h x p.1)

pub remove_fine : (marks : FlagTable) {seen : List ℕ} {list : List Attachment} (i : ℕ) → Fine marks seen list → Fine marks seen (remove_from i list)
unfolding remove_from among
remove_fine marks i empty = empty
remove_fine marks {seen} i (one {a = a} {more = more} at new f) =
    cond_case (Fine marks seen) (eqb a.id i) more (a ∷ remove_from i more)
    (λ e. fewer marks (λ x q. (or_false (eqb x a.id) (among x seen) q).1) f)
    (λ e. one at new (remove_fine marks i f))

-- the content of an attachment that stands
pub content_fine : (marks : FlagTable) {seen : List ℕ} {list : List Attachment} (i : ℕ) → Fine marks seen list → stands i list ≡ true
    → FineAt marks (attachment i (content_of i list))
unfolding stands content_of
content_fine marks i empty h = absurd (true_false false h refl)
content_fine marks i (one {a = a} {more = more} at new f) h =
    cond_case (λ (ns : List ℕ). FineAt marks (attachment i ns)) (eqb a.id i) a.content (content_of i more)
    (λ e. subst (λ (k : ℕ). FineAt marks (attachment k a.content)) (eqb-true a.id i e) at)
    (λ e. content_fine marks i f (rw e at h))

-- ---- the place of an attachment

-- an edit goes past attachments of other ids
module _
    (i : ℕ) (f : List Attachment → List Attachment)
    (keeps : (a : Attachment) (more : List Attachment) → eqb a.id i ≡ false → f (a ∷ more) ≡ a ∷ f more) where
  edit_past : (before rest : List Attachment) → stands i before ≡ false → f (before ++ rest) ≡ before ++ f rest
  unfolding stands
  edit_past [] rest h = refl
  edit_past (a ∷ before) rest h =
      let p = or_false (eqb a.id i) (stands i before) h in
      keeps a (before ++ rest) p.0 ∙ ap (λ (l : List Attachment). a ∷ l) (edit_past before rest p.1)

put_past : (i : ℕ) (ns : List ℕ) (before rest : List Attachment) → stands i before ≡ false
    → put_in i ns (before ++ rest) ≡ before ++ put_in i ns rest
unfolding put_in
put_past i ns = edit_past i (put_in i ns) (λ a more e. rw e)

remove_past : (i : ℕ) (before rest : List Attachment) → stands i before ≡ false
    → remove_from i (before ++ rest) ≡ before ++ remove_from i rest
unfolding remove_from
remove_past i = edit_past i (remove_from i) (λ a more e. rw e)

-- where its id does not stand, a put appends it
pub put_absent : (i : ℕ) (ns : List ℕ) (list : List Attachment) → stands i list ≡ false → put_in i ns list ≡ list ++ (attachment i ns ∷ [])
unfolding put_in
put_absent i ns list h = rw append-nil at (put_past i ns list [] h)

-- id i stands first behind some attachments, with this content
pub record Placed (i : ℕ) (content : List ℕ) (list : List Attachment) : Type 0 where
  pub before : List Attachment
  pub after : List Attachment
  pub splits : list ≡ before ++ (attachment i content ∷ after)
  pub clear : stands i before ≡ false

pub placed : (i : ℕ) (list : List Attachment) → stands i list ≡ true → Placed i (content_of i list) list
unfolding stands content_of
placed i [] h = absurd (true_false false h refl)
placed i (a ∷ more) h =
    cond_case (λ (ns : List ℕ). Placed i ns (a ∷ more)) (eqb a.id i) a.content (content_of i more)
    (λ e. record { before = []; after = more; splits = ap (λ (k : ℕ). attachment k a.content ∷ more) (eqb-true a.id i e); clear = refl })
    (λ e. further e (placed i more (rw e at h)))
  where
    further : eqb a.id i ≡ false → Placed i (content_of i more) more → Placed i (content_of i more) (a ∷ more)
    further e p =
        record { before = a ∷ p.before; after = p.after; splits = ap (λ (l : List Attachment). a ∷ l) p.splits; clear = rw e p.clear }

module _ {i : ℕ} {content : List ℕ} {list : List Attachment} (p : Placed i content list) where
  pub put_placed : (ns : List ℕ) → put_in i ns list ≡ p.before ++ (attachment i ns ∷ p.after)
  unfolding put_in
  put_placed ns = rw (p.splits, put_past i ns p.before (attachment i content ∷ p.after) p.clear, eq-eqb i i refl)

  pub remove-placed : remove_from i list ≡ p.before ++ p.after
  unfolding remove_from
  remove-placed = rw (p.splits, remove_past i p.before (attachment i content ∷ p.after) p.clear, eq-eqb i i refl)

-- ---- sizes

tail-size : (xs ys : List Attachment) → length (tail_nibbles (xs ++ ys)) ≡ length (tail_nibbles xs) + length (tail_nibbles ys)
tail-size xs ys = simp (tail-append, length-append)

module _ {i : ℕ} {content : List ℕ} {list : List Attachment} (p : Placed i content list) where
  pub put_size : (ns : List ℕ) → length (tail_nibbles (put_in i ns list)) + length content ≡ length (tail_nibbles list) + length ns
  put_size ns = rw (put_placed p ns, p.splits) (simp (tail-size, tail-length) (omega arith))

  pub put_length : (ns : List ℕ) → length (put_in i ns list) ≡ length list
  put_length ns = rw (put_placed p ns, p.splits) (simp length-append)

  pub remove-length : suc (length (remove_from i list)) ≡ length list
  remove-length = rw (remove-placed p, p.splits) (simp length-append (omega arith))

module _ (i : ℕ) (ns : List ℕ) (list : List Attachment) (absent : stands i list ≡ false) where
  pub append-length : length (put_in i ns list) ≡ suc (length list)
  append-length = rw (put_absent i ns list absent) (simp length-append (omega arith))
