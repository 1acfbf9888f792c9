-- Laws of scripts: every list of calls has one, and how a replay goes through one.
-- Assumes nothing.
use Prim.Native.Nat.{ℕ, zero, suc, ◌+◌, ◌-◌, ◌^◌, ◌≤◌, ◌<◌}
use native.Mathlib.Nat.{add_assoc, add-zero, zero-add}
use native.Mathlib.Omega.{arith}
use mathlib.Core.Path.{◌≡◌, refl, sym, ap, ap₂, subst, ◌∙◌}
use mathlib.Core.Bool.{Bool, true, false, cond}
use mathlib.Core.List.{List, [], ◌∷◌, ◌++◌, append_assoc, append-nil}
use mathlib.Core.Option.{Option, none, some}
use lib.ListN.{length, get_or, take, drop, length-append, length-drop}
use lib.Seq.{drop-drop, drop_at, take_at, drop-append_seam, take-append-add, drop-append-add, length-take-le}
use lib.Dec.{leb}
use lib.IntN.{ℤ}
use borrow.Author.Tests.{le-leb, lt-leb, leb-true}
use Rattle.format.specs.Bits.{Bytes}
use Rattle.format.specs.Flags.{FlagTable}
use Rattle.format.specs.Calls.{Call, reads, edits, fetches, read_field, set_field, clear_field, clear_with_indicators, read_flag, set_flag, clear_flag, put, fetch, remove, put_text, fetch_text}
use Rattle.format.specs.Calls.{outputs_of, Answer, over}
use Rattle.format.specs.Machine.{Course, course}
use Rattle.format.specs.Buffer.{after, Shown, shown, effect, calls, claim}
use Rattle.laws.proofs.Bits.{append_below}
use Rattle.laws.proofs.WholeList.{whole_list}
use Rattle.script.specs.Script.{bytes_of, bytes8, Entry, entry, number_at, bytes_at, second, kinds, within, entry_at, joined, record_size, log_size, next_in, list_of, script_entry}
use Rattle.script.specs.Script.{script_of, Slice, Fits, AllFit, head_of, record_of, records, answers_in, Replayed, logged, Claimed, Performs, idle, performed, turn}
use Rattle.numbers.specs.Words.{signed, unsigned}
use Rattle.script.proofs.Numbers.{length-bytes8, number_at_lem, bytes_at_lem, signed-unsigned, unsigned_lt}
use Rattle.script.proofs.Log.{record_length, alike_joined, effect_outs, claim_told}

-- ---- entries

-- an entry of kind k that is whole; one that is cut off; one of no kind
module _ (s : List ℕ) (k : ℕ) (e : Entry) (kind : get_or s 0 0 ≡ k) (says : get_or (kinds s) k none ≡ some e) where
  pub entry_whole : e.taken ≤ length s → entry_at s ≡ some e
  unfolding entry_at within
  entry_whole h = rw (kind, says, le-leb e.taken (length s) h)

  pub entry_cut : length s < e.taken → entry_at s ≡ none
  unfolding entry_at within
  entry_cut h = rw (kind, says, lt-leb e.taken (length s) h)

pub entry_zero : (s : List ℕ) → get_or s 0 0 ≡ 0 → entry_at s ≡ none
unfolding entry_at within kinds
entry_zero s h = rw h

-- the four forms of an entry, and what stands behind it: one number; two; a number and counted bytes; counted bytes twice
module _ (k : ℕ) (rest : List ℕ) where
  one_number : (f : ℕ → Call) (x : ℕ) → x < 2 ^ 64
      → (let s = k ∷ (bytes8 x ++ rest) in get_or (kinds s) k none ≡ some (entry (f (number_at s 1)) 9))
      → entry_at (k ∷ (bytes8 x ++ rest)) ≡ some (entry (f x) (length (k ∷ bytes8 x)))
  one_number f x h says =
      let l = length-bytes8 x in
      let n : 9 ≡ length (k ∷ bytes8 x) = omega arith in
      entry_whole (k ∷ (bytes8 x ++ rest)) k _ refl says (simp length-append (omega arith))
      ∙ ap₂ (λ (y m : ℕ). some (entry (f y) m)) (number_at_lem (k ∷ []) 1 refl x rest h) n

  two_numbers : (f : ℕ → ℕ → Call) (x y : ℕ) → x < 2 ^ 64 → y < 2 ^ 64
      → (let s = k ∷ (bytes8 x ++ (bytes8 y ++ rest)) in get_or (kinds s) k none ≡ some (entry (f (number_at s 1) (number_at s 9)) 17))
      → entry_at (k ∷ (bytes8 x ++ (bytes8 y ++ rest))) ≡ some (entry (f x y) (length (k ∷ (bytes8 x ++ bytes8 y))))
  two_numbers f x y h g says =
      let l = length-bytes8 x in
      let m = length-bytes8 y in
      let n : 17 ≡ length (k ∷ (bytes8 x ++ bytes8 y)) = simp length-append (omega arith) in
      let ex = number_at_lem (k ∷ []) 1 refl x (bytes8 y ++ rest) h in
      let ey = number_at_lem (k ∷ bytes8 x) 9 (sym (omega arith)) y rest g in
      entry_whole (k ∷ (bytes8 x ++ (bytes8 y ++ rest))) k _ refl says (simp length-append (omega arith))
      ∙ ap₂ (λ (v w : ℕ). some (entry (f v w) 17)) ex ey
      ∙ ap (λ (w : ℕ). some (entry (f x y) w)) n

  counted : (f : ℕ → List ℕ → Call) (x : ℕ) (d : List ℕ) → x < 2 ^ 64 → length d < 2 ^ 64
      → (let s = k ∷ (bytes8 x ++ (bytes8 (length d) ++ (d ++ rest))) in
      get_or (kinds s) k none ≡ some (entry (f (number_at s 1) (bytes_at s 9)) (17 + number_at s 9)))
      → entry_at (k ∷ (bytes8 x ++ (bytes8 (length d) ++ (d ++ rest)))) ≡ some (entry (f x d) (length (k ∷ (bytes8 x ++ (bytes8 (length d) ++ d)))))
  counted f x d h g says =
      let s = k ∷ (bytes8 x ++ (bytes8 (length d) ++ (d ++ rest))) in
      let l = length-bytes8 x in
      let m = length-bytes8 (length d) in
      let n : 17 + length d ≡ length (k ∷ (bytes8 x ++ (bytes8 (length d) ++ d))) = simp length-append (omega arith) in
      let ex = number_at_lem (k ∷ []) 1 refl x (bytes8 (length d) ++ (d ++ rest)) h in
      let en = number_at_lem (k ∷ bytes8 x) 9 (sym (omega arith)) (length d) (d ++ rest) g in
      let ed = bytes_at_lem (k ∷ bytes8 x) 9 (sym (omega arith)) d rest g in
      entry_whole s k _ refl says (rw en (simp length-append (omega arith)))
      ∙ ap₂ (λ (v : ℕ) (w : List ℕ). some (entry (f v w) (17 + number_at s 9))) ex ed
      ∙ ap (λ (w : ℕ). some (entry (f x d) w)) (ap (λ (w : ℕ). 17 + w) en ∙ n)

  texts : (f : List ℕ → List ℕ → Call) (d e : List ℕ) → length d < 2 ^ 64 → length e < 2 ^ 64
      → (let s = k ∷ (bytes8 (length d) ++ (d ++ (bytes8 (length e) ++ (e ++ rest)))) in
      get_or (kinds s) k none ≡ some (entry (f (bytes_at s 1) (bytes_at s (second s))) (17 + number_at s 1 + number_at s (second s))))
      → entry_at (k ∷ (bytes8 (length d) ++ (d ++ (bytes8 (length e) ++ (e ++ rest)))))
      ≡ some (entry (f d e) (length (k ∷ (bytes8 (length d) ++ (d ++ (bytes8 (length e) ++ e))))))
  texts f d e g h says =
      let s = k ∷ (bytes8 (length d) ++ (d ++ (bytes8 (length e) ++ (e ++ rest)))) in
      let p = k ∷ (bytes8 (length d) ++ d) in
      let i = 9 + length d in
      let l = length-bytes8 (length d) in
      let m = length-bytes8 (length e) in
      let n : 17 + length d + length e ≡ length (k ∷ (bytes8 (length d) ++ (d ++ (bytes8 (length e) ++ e)))) = simp length-append (omega arith) in
      let lp : length p ≡ i = simp length-append (omega arith) in
      let split : s ≡ p ++ (bytes8 (length e) ++ (e ++ rest)) = ap (λ (x : List ℕ). k ∷ x) (sym (append_assoc (bytes8 (length d)) d (bytes8 (length e) ++ (e ++ rest)))) in
      let en = number_at_lem (k ∷ []) 1 refl (length d) (d ++ (bytes8 (length e) ++ (e ++ rest))) g in
      let ed = bytes_at_lem (k ∷ []) 1 refl d (bytes8 (length e) ++ (e ++ rest)) g in
      let em : number_at s (second s) ≡ length e = ap₂ (λ (x : List ℕ) (j : ℕ). number_at x (9 + j)) split en ∙ number_at_lem p i lp (length e) (e ++ rest) h in
      let ee : bytes_at s (second s) ≡ e = ap₂ (λ (x : List ℕ) (j : ℕ). bytes_at x (9 + j)) split en ∙ bytes_at_lem p i lp e rest h in
      let ls : length s ≡ 17 + length d + length e + length rest = simp length-append (omega arith) in
      entry_whole s k _ refl says (omega (arith, en, em, ls))
      ∙ ap₂ (λ (v w : List ℕ). some (entry (f v w) (17 + number_at s 1 + number_at s (second s)))) ed ee
      ∙ ap (λ (w : ℕ). some (entry (f d e) w)) (ap₂ (λ (v w : ℕ). 17 + v + w) en em ∙ n)

-- an entry that was written is read back, whatever stands behind it
pub entry_back : (c : Call) (rest : List ℕ) → Fits c → entry_at (script_entry c ++ rest) ≡ some (entry c (length (script_entry c)))
unfolding script_entry Fits kinds
entry_back (reads (read_field k)) rest h = one_number 1 rest (λ (x : ℕ). reads (read_field x)) k h refl
entry_back (edits (set_field k v)) rest h =
    rw append_assoc
    (two_numbers 2 rest (λ (x y : ℕ). edits (set_field x (record { 0 = signed y }))) k (unsigned v.0) h.0 (unsigned_lt v.0 h.1) refl
    ∙ ap (λ (z : ℤ). some (entry (edits (set_field k (record { 0 = z }))) (length (2 ∷ (bytes8 k ++ bytes8 (unsigned v.0)))))) (signed-unsigned v.0 h.1))
entry_back (edits (clear_field k)) rest h = one_number 3 rest (λ (x : ℕ). edits (clear_field x)) k h refl
entry_back (reads (read_flag j)) rest h = one_number 4 rest (λ (x : ℕ). reads (read_flag x)) j h refl
entry_back (edits (set_flag j v)) rest h = rw append_assoc (two_numbers 5 rest (λ (x y : ℕ). edits (set_flag x y)) j v h.0 h.1 refl)
entry_back (edits (clear_flag j)) rest h = one_number 6 rest (λ (x : ℕ). edits (clear_flag x)) j h refl
entry_back (edits (put i ns)) rest h =
    simp append_assoc (counted 7 rest (λ (x : ℕ) (d : List ℕ). edits (put x d)) i ns h.0 h.1.0 refl)
entry_back (fetches (fetch i out)) rest h =
    simp append_assoc (counted 8 rest (λ (x : ℕ) (d : List ℕ). fetches (fetch x d)) i out h.0 h.1.0 refl)
entry_back (edits (remove i)) rest h = one_number 9 rest (λ (x : ℕ). edits (remove x)) i h refl
entry_back (edits (put_text t os)) rest h = simp append_assoc (texts 10 rest (λ (d e : List ℕ). edits (put_text d e)) t os h.0.0 h.1.0 refl)
entry_back (edits (clear_with_indicators k)) rest h = one_number 12 rest (λ (x : ℕ). edits (clear_with_indicators x)) k h refl
entry_back (fetches (fetch_text out origins)) rest h =
    simp append_assoc (texts 11 rest (λ (d e : List ℕ). fetches (fetch_text d e)) out origins h.0.0 h.1.0 refl)

-- a property of each entry of a list is one of the entry at k
abbrev OfEach : (Entry → Type 0) → List (Option Entry) → Type 0
OfEach P [] = Unit {0}
OfEach P (none ∷ more) = OfEach P more
OfEach P (some e ∷ more) = P e × OfEach P more

of_each : (P : Entry → Type 0) (os : List (Option Entry)) (k : ℕ) (e : Entry) → OfEach P os → get_or os k none ≡ some e → P e
of_each P [] k e h q = let z : ◌≡◌ {A = ℕ} 0 1 = cc in absurd (omega arith)
of_each P (none ∷ more) zero e h q = let z : ◌≡◌ {A = ℕ} 0 1 = cc in absurd (omega arith)
of_each P (none ∷ more) (suc k) e h q = of_each P more k e h q
of_each P (some d ∷ more) zero e h q = let r : d ≡ e = cc in subst P r h.0
of_each P (some d ∷ more) (suc k) e h q = of_each P more k e h.1 q

-- an entry's bytes: at least its kind and a number; and, where it is whole, as many as are written for its call
record Sized (s : List ℕ) (e : Entry) : Type 0 where
  some_bytes : 9 ≤ e.taken
  as_written : e.taken ≤ length s → length (script_entry e.call) ≡ e.taken

module _ (s : List ℕ) where
  one_sized : (k x : ℕ) {c : Call} → script_entry c ≡ k ∷ bytes8 x → Sized s (entry c 9)
  one_sized k x e = record { some_bytes = omega arith; as_written = λ w. rw (e, length-bytes8) }

  two_sized : (k x y : ℕ) {c : Call} → script_entry c ≡ k ∷ (bytes8 x ++ bytes8 y) → Sized s (entry c 17)
  two_sized k x y e = record { some_bytes = omega arith; as_written = λ w. rw e (simp (length-append, length-bytes8)) }

  -- counted bytes behind a number at i
  counted_sized : (i : ℕ) {c : Call} → 1 ≤ i → length (script_entry c) ≡ i + 8 + length (bytes_at s i) → Sized s (entry c (i + 8 + number_at s i))
  counted_sized i h e =
      record {
        some_bytes = omega arith;
        as_written = λ w. e ∙ ap (λ (n : ℕ). i + 8 + n) (length-take-le (number_at s i) (drop (i + 8) s) (simp length-drop (omega arith)));
      }

  long_sized : (k x : ℕ) {c : Call} → script_entry c ≡ k ∷ (bytes8 x ++ (bytes8 (length (bytes_at s 9)) ++ bytes_at s 9)) → Sized s (entry c (17 + number_at s 9))
  long_sized k x e = counted_sized 9 (omega arith) (rw e (simp (length-append, length-bytes8) (omega arith)))

  texts_sized : (k : ℕ) {c : Call} → script_entry c ≡ k ∷ (bytes8 (length (bytes_at s 1)) ++ (bytes_at s 1 ++ (bytes8 (length (bytes_at s (second s))) ++ bytes_at s (second s))))
      → Sized s (entry c (17 + number_at s 1 + number_at s (second s)))
  texts_sized k e =
      record {
        some_bytes = omega arith;
        as_written = λ w.
            let x : length (bytes_at s 1) ≡ number_at s 1 = length-take-le (number_at s 1) (drop 9 s) (simp length-drop (omega arith)) in
            let y : length (bytes_at s (second s)) ≡ number_at s (second s) = length-take-le (number_at s (second s)) (drop (second s + 8) s) (simp length-drop (omega arith)) in
            rw e (simp (length-append, length-bytes8) (omega arith));
      }

  kinds_sized : OfEach (Sized s) (kinds s)
  unfolding kinds script_entry
  kinds_sized =
      let n = number_at s 1 in
      let m = number_at s 9 in (
        one_sized 1 n refl,
        (
          two_sized 2 n (unsigned (signed m)) refl,
          (
            one_sized 3 n refl,
            (
              one_sized 4 n refl,
              (
                two_sized 5 n m refl,
                (one_sized 6 n refl, (long_sized 7 n refl, (long_sized 8 n refl, (one_sized 9 n refl, (texts_sized 10 refl, (texts_sized 11 refl, (one_sized 12 n refl, tt))))))),
              ),
            ),
          ),
        ),
      )

-- ---- the next entry

module _ (wants : Entry → ℕ) (n : ℕ) where
  within_some : (o : Option Entry) (e : Entry) → within wants n o ≡ some e → (o ≡ some e) × (wants e ≤ n)
  unfolding within
  within_some none e q = let z : ◌≡◌ {A = ℕ} 0 1 = cc in absurd (omega arith)
  within_some (some d) e q = go (leb (wants d) n) refl q
    where
      go : (t : Bool) → leb (wants d) n ≡ t → cond t (some d) none ≡ some e → (some d ≡ some e) × (wants e ≤ n)
      go true f q = let r : d ≡ e = cc in (q, rw r at (leb-true (wants d) n f))
      go false f q = let z : ◌≡◌ {A = ℕ} 0 1 = cc in absurd (omega arith)

-- it takes at least 9 bytes of the script and all that are written for its call; its record fits the room
pub record Next (room : ℕ) (s : List ℕ) (e : Entry) : Type 0 where
  pub there : entry_at s ≡ some e
  pub some_bytes : 9 ≤ e.taken
  pub whole : e.taken ≤ length s
  pub as_written : length (script_entry e.call) ≡ e.taken
  pub fits : record_size e.call ≤ room

pub next_some : (room : ℕ) (s : List ℕ) (e : Entry) → next_in room s ≡ some e → Next room s e
unfolding next_in entry_at
next_some room s e q =
    let n = within_some (λ (d : Entry). record_size d.call) room (entry_at s) e q in
    let w = within_some (λ (d : Entry). d.taken) (length s) (get_or (kinds s) (get_or s 0 0) none) e n.0 in
    let z = of_each (Sized s) (kinds s) (get_or s 0 0) e (kinds_sized s) w.0 in
    record { there = n.0; some_bytes = z.some_bytes; whole = w.1; as_written = z.as_written w.1; fits = n.1 }

-- the entry at the head is next if its record fits; if not, or if there is none, none is
module _ (room : ℕ) (s : List ℕ) where
  pub next_in_lem : (e : Entry) → entry_at s ≡ some e → record_size e.call ≤ room → next_in room s ≡ some e
  unfolding next_in within
  next_in_lem e q h = rw (q, le-leb (record_size e.call) room h)

  pub next_full : (e : Entry) → entry_at s ≡ some e → room < record_size e.call → next_in room s ≡ none
  unfolding next_in within
  next_full e q h = rw (q, lt-leb (record_size e.call) room h)

  pub next_none : entry_at s ≡ none → next_in room s ≡ none
  unfolding next_in within
  next_none q = rw q

-- ---- the list of a script

pub list_nil : (fuel room : ℕ) (s : List ℕ) → next_in room s ≡ none → list_of fuel room s ≡ []
unfolding list_of
list_nil zero room s q = refl
list_nil (suc fuel) room s q = rw (q, list_of)

list_suc : (fuel room : ℕ) (s : List ℕ) (e : Entry) → next_in room s ≡ some e
    → list_of (suc fuel) room s ≡ e.call ∷ list_of fuel (room - record_size e.call) (drop e.taken s)
unfolding list_of
list_suc fuel room s e q = rw (q, list_of)

list_empty : (fuel room : ℕ) (s : List ℕ) → length s ≤ 0 → list_of fuel room s ≡ []
list_empty fuel room [] h = list_nil fuel room [] (next_none room [] (entry_zero [] refl))
list_empty fuel room (x ∷ s) h = absurd (omega arith)

-- fuel does not matter once it is the script's length
pub list_fuel : (f g room : ℕ) (s : List ℕ) → length s ≤ f → length s ≤ g → list_of f room s ≡ list_of g room s
list_fuel zero g room s hf hg = list_empty zero room s hf ∙ sym (list_empty g room s hf)
list_fuel (suc f) zero room s hf hg = list_empty (suc f) room s hg ∙ sym (list_empty zero room s hg)
list_fuel (suc f) (suc g) room s hf hg = go (next_in room s) refl (list_fuel f g)
  where
    go : (o : Option Entry) → next_in room s ≡ o → ((r : ℕ) (d : List ℕ) → length d ≤ f → length d ≤ g → list_of f r d ≡ list_of g r d)
        → list_of (suc f) room s ≡ list_of (suc g) room s
    go none q rec = list_nil (suc f) room s q ∙ sym (list_nil (suc g) room s q)
    go (some e) q rec =
        let n = next_some room s e q in
        let l = length-drop e.taken s in
        list_suc f room s e q
        ∙ ap (λ (cs : List Call). e.call ∷ cs) (rec (room - record_size e.call) (drop e.taken s) (omega arith) (omega arith))
        ∙ sym (list_suc g room s e q)

-- the first call, and the list of what is behind it
pub list_cons : (room : ℕ) (s : List ℕ) (e : Entry) → next_in room s ≡ some e
    → (let rest = drop e.taken s in list_of (length s) room s ≡ e.call ∷ list_of (length rest) (room - record_size e.call) rest)
list_cons room s e q =
    let rest = drop e.taken s in
    let l = length-drop e.taken s in
    let n = next_some room s e q in
    list_fuel (length s) (suc (length s)) room s (omega arith) (omega arith)
    ∙ list_suc (length s) room s e q
    ∙ ap (λ (cs : List Call). e.call ∷ cs) (list_fuel (length s) (length rest) (room - record_size e.call) rest (omega arith) (omega arith))

-- EVERY LIST HAS A SCRIPT: the script of a list is read as that list, and then as the list of what is behind it
pub script_list : (cs : List Call) (room : ℕ) (rest : List ℕ) → AllFit cs → log_size cs ≤ room
    → (let s = script_of cs ++ rest in list_of (length s) room s ≡ cs ++ list_of (length rest) (room - log_size cs) rest)
unfolding script_of AllFit log_size
script_list [] room rest f h = let e : room - 0 ≡ room = omega arith in rw e
script_list (c ∷ cs) room rest f h =
    let s = script_entry c ++ (script_of cs ++ rest) in
    let e = entry c (length (script_entry c)) in
    let q = next_in_lem room s e (entry_back c (script_of cs ++ rest) f.0) (omega arith) in
    let d : room - record_size c - log_size cs ≡ room - (record_size c + log_size cs) = omega arith in
    rw append_assoc
    (list_cons room s e q
    ∙ ap (λ (x : List Call). c ∷ x)
    (rw (drop-append_seam (script_entry c) (script_of cs ++ rest), ← d) (script_list cs (room - record_size c) rest f.1 (omega arith))))

-- with nothing behind it
pub script_alone : (cs : List Call) (room : ℕ) → AllFit cs → log_size cs ≤ room → list_of (length (script_of cs)) room (script_of cs) ≡ cs
script_alone cs room f h =
    rw append-nil at (script_list cs room [] f h)
    ∙ ap (λ (x : List Call). cs ++ x) (list_empty 0 (room - log_size cs) [] (omega arith))
    ∙ append-nil cs

-- it is a script of bytes
bytes_of_bytes : (w n : ℕ) → Bytes (bytes_of w n)
unfolding bytes_of
bytes_of_bytes zero n i = omega arith
bytes_of_bytes (suc w) n zero = omega arith
bytes_of_bytes (suc w) n (suc i) = bytes_of_bytes w n i

bytes8-bytes : (n : ℕ) → Bytes (bytes8 n)
unfolding bytes8
bytes8-bytes n = bytes_of_bytes 8 n

counted-bytes : (d : List ℕ) → Slice d → Bytes (bytes8 (length d) ++ d)
counted-bytes d h = append_below 256 (bytes8 (length d)) d (bytes8-bytes (length d)) h.1

-- the forms of an entry: a number alone, and a number before other bytes
alone : (k x : ℕ) → k < 256 → Bytes (k ∷ bytes8 x)
alone k x h zero = h
alone k x h (suc i) = bytes8-bytes x i

before : (k x : ℕ) (s : List ℕ) → k < 256 → Bytes s → Bytes (k ∷ (bytes8 x ++ s))
before k x s h f = append_below 256 (k ∷ bytes8 x) s (alone k x h) f

entry-bytes : (c : Call) → Fits c → Bytes (script_entry c)
unfolding script_entry Fits
entry-bytes (reads (read_field k)) h = alone 1 k (omega arith)
entry-bytes (edits (set_field k v)) h = before 2 k (bytes8 (unsigned v.0)) (omega arith) (bytes8-bytes (unsigned v.0))
entry-bytes (edits (clear_field k)) h = alone 3 k (omega arith)
entry-bytes (reads (read_flag j)) h = alone 4 j (omega arith)
entry-bytes (edits (set_flag j v)) h = before 5 j (bytes8 v) (omega arith) (bytes8-bytes v)
entry-bytes (edits (clear_flag j)) h = alone 6 j (omega arith)
entry-bytes (edits (put i ns)) h = before 7 i (bytes8 (length ns) ++ ns) (omega arith) (counted-bytes ns h.1)
entry-bytes (fetches (fetch i out)) h = before 8 i (bytes8 (length out) ++ out) (omega arith) (counted-bytes out h.1)
entry-bytes (edits (remove i)) h = alone 9 i (omega arith)
entry-bytes (edits (put_text t os)) h =
    before 10 (length t) (t ++ (bytes8 (length os) ++ os)) (omega arith) (append_below 256 t (bytes8 (length os) ++ os) h.0.1 (counted-bytes os h.1))
entry-bytes (edits (clear_with_indicators k)) h = alone 12 k (omega arith)
entry-bytes (fetches (fetch_text out origins)) h =
    before 11 (length out) (out ++ (bytes8 (length origins) ++ origins)) (omega arith)
    (append_below 256 out (bytes8 (length origins) ++ origins) h.0.1 (counted-bytes origins h.1))

pub script_bytes : (cs : List Call) → AllFit cs → Bytes (script_of cs)
unfolding script_of AllFit
script_bytes [] f = λ i. omega arith
script_bytes (c ∷ cs) f = append_below 256 (script_entry c) (script_of cs) (entry-bytes c f.0) (script_bytes cs f.1)

-- a call's answer and outputs
abbrev pub shown_of : FlagTable → List ℕ → Call → Shown
shown_of marks b c = shown (effect marks b c).answer (effect marks b c).outs

pub record_size_lem : (marks : FlagTable) (b : List ℕ) (c : Call) → length (record_of (shown_of marks b c)) ≡ record_size c
unfolding record_size
record_size_lem marks b c = record_length (shown_of marks b c) ∙ ap (λ (n : ℕ). 37 + n) (alike_joined (effect marks b c).outs (outputs_of c) (effect_outs marks b c))

-- ---- a replay

-- what the calls of a script leave, each on the buffer as the one before left it
unfoldable pub finish : FlagTable → List ℕ → List ℕ → List ℕ → Replayed
finish marks b script log =
    let cs = list_of (length script) (length log) script in
    logged cs (calls marks b cs) log

-- it is what is claimed, of the script's list and of every list that has this script
pub performs : (marks : FlagTable) (r : Replayed) (b script log : List ℕ) → r ≡ finish marks b script log → Bytes b → Performs marks r b script log
unfolding finish
performs marks r b script log h bytes =
    record {
      of_script = claimed (list_of (length script) (length log) script) h;
      of_list = λ cs f e g. claimed cs (h ∙ ap (λ (l : List Call). logged l (calls marks b l) log) (of cs f e g));
      in_bytes = script_bytes;
    }
  where
    claimed : (cs : List Call) → r ≡ logged cs (calls marks b cs) log → Claimed marks r b log cs
    claimed cs q =
        let is : r ≡ logged cs (claim marks b cs) log = q ∙ ap (λ (x : Course (List ℕ) Shown). logged cs x log) (whole_list marks b cs bytes) in
        record { left = is; told = ap (λ (x : Replayed). answers_in cs x.log) is ∙ claim_told marks b cs log bytes }

    of : (cs : List Call) → AllFit cs → script_of cs ≡ script → log_size cs ≤ length log → list_of (length script) (length log) script ≡ cs
    of cs f e g = rw (← e) (script_alone cs (length log) f g)

-- a part of the log that stands already, and what comes behind it
abbrev pub behind : List ℕ → ℕ → ℕ → Replayed → Replayed
behind front n at r =
    record { buffer = r.buffer; log = front ++ r.log; calls = n + r.calls; taken = at + r.taken; written = length front + r.written }

-- no entry is next
pub finish_end : (marks : FlagTable) (b script log : List ℕ) → next_in (length log) script ≡ none
    → finish marks b script log ≡ idle b log
unfolding finish calls course records script_of
finish_end marks b script log q = rw (list_nil (length script) (length log) script q)

-- one is: a list's first call, its record, and what the rest leaves
logged-cons : (marks : FlagTable) (b : List ℕ) (c : Call) (cs : List Call) (log : List ℕ)
    → (let a = record_of (shown_of marks b c) in
    logged (c ∷ cs) (calls marks b (c ∷ cs)) log ≡ behind a 1 (length (script_entry c)) (logged cs (calls marks (effect marks b c).buffer cs) (drop (length a) log)))
unfolding calls course records script_of
logged-cons marks b c cs log =
    let a = record_of (shown_of marks b c) in
    let r = records (calls marks (effect marks b c).buffer cs).answers in
    let n : suc (length cs) ≡ 1 + length cs = omega arith in
    rw (append_assoc a r (drop (length (a ++ r)) log), length-append a r, length-append (script_entry c) (script_of cs), drop-drop (length r) (length a) log, n)

pub finish_next : (marks : FlagTable) (b script log : List ℕ) (e : Entry) → next_in (length log) script ≡ some e
    → (let a = record_of (shown_of marks b e.call) in
    finish marks b script log ≡ behind a 1 e.taken (finish marks (effect marks b e.call).buffer (drop e.taken script) (drop (length a) log)))
unfolding finish
finish_next marks b script log e q =
    let a = record_of (shown_of marks b e.call) in
    let left : length log - record_size e.call ≡ length (drop (length a) log) =
    ap (λ (n : ℕ). length log - n) (sym (record_size_lem marks b e.call)) ∙ sym (length-drop (length a) log) in
    rw (list_cons (length log) script e q, left, ← (next_some (length log) script e q).as_written)
    (logged-cons marks b e.call _ log)

-- ---- its turn, at each return

module _ (marks : FlagTable) (b script log : List ℕ) where
  pub turn-idle : next_in (length log) script ≡ none → idle b log ≡ turn marks b script log
  unfolding turn
  turn-idle q = rw (q, turn)

  turn-next : (e : Entry) → next_in (length log) script ≡ some e → turn marks b script log ≡ performed marks b e log
  unfolding turn
  turn-next e q = rw (q, turn)

  pub turn_done : (e : Entry) (a : Answer) (b' : List ℕ) (outs : List (List ℕ)) (log' : List ℕ) → next_in (length log) script ≡ some e
      → after a b' outs ≡ effect marks b e.call
      → log' ≡ over (head_of a ++ joined outs) log
      → record { buffer = b'; log = log'; calls = 1; taken = e.taken; written = record_size e.call } ≡ turn marks b script log
  unfolding record_of
  turn_done e a b' outs log' q f w = rw (turn-next e q, ← f, w)

-- its sizes, and what it leaves to do
pub record Turned (marks : FlagTable) (b script log : List ℕ) (t : Replayed) : Type 0 where
  pub within : t.taken ≤ length script
  pub room : t.written ≤ length log
  pub counted : t.calls ≤ t.taken
  pub log_length : length t.log ≡ length log
  pub left : finish marks b script log
      ≡ behind (take t.written t.log) t.calls t.taken (finish marks t.buffer (drop t.taken script) (drop t.written t.log))
  pub ended : t.taken ≡ 0 → finish marks b script log ≡ idle t.buffer t.log

behind-nothing : (r : Replayed) → r ≡ behind [] 0 0 r
behind-nothing r = rw (zero-add r.calls, zero-add r.taken, zero-add r.written)

pub turned : (marks : FlagTable) (b script log : List ℕ) (t : Replayed) → t ≡ turn marks b script log → Turned marks b script log t
turned marks b script log t h = subst (Turned marks b script log) (sym h) (go (next_in (length log) script) refl)
  where
    go : (o : Option Entry) → next_in (length log) script ≡ o → Turned marks b script log (turn marks b script log)
    go none q =
        rw (← turn-idle marks b script log q)
        (record {
          within = omega arith;
          room = omega arith;
          counted = omega arith;
          log_length = refl;
          left = behind-nothing (finish marks b script log);
          ended = λ z. finish_end marks b script log q;
        })
    go (some e) q =
        let n = next_some (length log) script e q in
        let a = record_of (shown_of marks b e.call) in
        let l = record_size_lem marks b e.call in
        rw (turn-next marks b script log e q)
        (record {
          within = n.whole;
          room = n.fits;
          counted = omega arith;
          log_length = simp (length-append, length-drop) (omega arith);
          left = rw (take_at a (drop (length a) log) (record_size e.call) l, drop_at a (drop (length a) log) (record_size e.call) l) (finish_next marks b script log e q);
          ended = λ z. absurd (omega arith);
        })

-- ---- what its loop keeps: what stands in the log, and what the rest of the script will leave, are the whole

behind-behind : (p q : List ℕ) (m n i j : ℕ) (r : Replayed) → behind p m i (behind q n j r) ≡ behind (p ++ q) (m + n) (i + j) r
behind-behind p q m n i j r =
    rw (length-append p q, append_assoc p q r.log, add_assoc m n r.calls, add_assoc i j r.taken, add_assoc (length p) (length q) r.written)

pub record Going (marks : FlagTable) (b₀ script log₀ b log : List ℕ) (n at to : ℕ) : Type 0 where
  pub within : at ≤ length script
  pub room : to ≤ length log
  pub counted : n ≤ at
  pub log_length : length log ≡ length log₀
  pub left : finish marks b₀ script log₀ ≡ behind (take to log) n at (finish marks b (drop at script) (drop to log))

pub kept_start : (marks : FlagTable) (b script log : List ℕ) → Going marks b script log b log 0 0 0
kept_start marks b script log =
    record { within = omega arith; room = omega arith; counted = omega arith; log_length = refl; left = behind-nothing (finish marks b script log) }

module _ (marks : FlagTable) (b₀ script log₀ b log : List ℕ) (n at to : ℕ) (k : Going marks b₀ script log₀ b log n at to) (t : Replayed) (h : t ≡ turn marks b (drop at script) (drop to log)) where
  pub kept-turn : Going marks b₀ script log₀ t.buffer (take to log ++ t.log) (n + t.calls) (at + t.taken) (to + t.written)
  kept-turn =
      let u = turned marks b (drop at script) (drop to log) t h in
      let s = length-drop at script in
      let d = length-drop to log in
      let f : length (take to log) ≡ to = length-take-le to log k.room in
      let m = length-append (take to log) t.log in
      let front : take (to + t.written) (take to log ++ t.log) ≡ take to log ++ take t.written t.log =
      rw f at (take-append-add (take to log) t.log t.written) in
      let rest : drop (to + t.written) (take to log ++ t.log) ≡ drop t.written t.log =
      rw f at (drop-append-add (take to log) t.log t.written) in
      record {
        within = omega arith;
        room = omega arith;
        counted = omega arith;
        log_length = omega arith;
        left =
            rw (front, rest, ← drop-drop t.taken at script)
            (k.left
            ∙ ap (behind (take to log) n at) u.left
            ∙ behind-behind (take to log) (take t.written t.log) n t.calls at t.taken _);
      }

  pub kept_end : t.taken ≡ 0 → record { buffer = t.buffer; log = take to log ++ t.log; calls = n; taken = at; written = to } ≡ finish marks b₀ script log₀
  kept_end z =
      let u = turned marks b (drop at script) (drop to log) t h in
      let f : length (take to log) ≡ to = length-take-le to log k.room in
      rw (k.left, u.ended z, f, add-zero n, add-zero at, add-zero to)
