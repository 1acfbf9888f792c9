-- The writer: one symbol, whether a text may hold it, and the loops.
-- Assumes nothing.
use Prim.Native.Nat.{ℕ, ◌+◌, ◌-◌, ◌/◌, ◌≤◌, ◌<◌}
use native.Mathlib.Omega.{arith}
use native.Mathlib.Numerals.{add-one}
use mathlib.Core.Path.{◌≡◌, refl, sym, ap, ap₂, ◌∙◌}
use mathlib.Core.Bool.{Bool, true, false, ◌&&◌}
use mathlib.Core.List.{List, [], ◌∷◌, ◌++◌, append_assoc, append-nil}
use lib.ListN.{length, get_or, drop, length-append, drop_of_length-le}
use lib.Seq.{drop-cons, sets}
use lib.Dec.{ltb, leb, eqb}
use borrow.Author.Tests.{ltb-true, ltb-false, eqb-true, eqb-false, lt-ltb, le-ltb, eq-eqb, ne_eqb, le-leb, lt-leb}
use Rattle.format.specs.Order.{all_marks}
use Rattle.format.specs.ShipText.{char_table, Symbol, symbol_of, symbols_in, admitted, all_admitted, is_space, symbol_nibbles, fulls, rest, space_run, write_from, write_text}
use Rattle.format.specs.ShipText.{spaces, text_valid, read_text}
use Rattle.characters.specs.Table.{nibbles_by}
use Rattle.text_writer.specs.declared.Characters.{Characters}
use Rattle.text_writer.specs.declared.Symbols.{Symbols}
use Rattle.text_writer.specs.Pieces.{piece_by}
use Rattle.text_writer.specs.Answers.{written_of, Writes}
use Rattle.format.specs.declared.Refusal.{Refusal}
use Rattle.format.specs.declared.Refusal.TheVariants.{Length, Content}
use Rattle.std.specs.Prelude.{Result, Ok, Err}
use Rattle.std.specs.List.{list_all, zip}
use Rattle.laws.proofs.Agreement.{plain_entry, short-entry}
use Rattle.laws.proofs.Sequences.{true_false, cond_case, test_case}
use Rattle.laws.proofs.ShipText.{piece, waiting, write_one, text_valid_lem, strip_tail}
use Rattle.laws.proofs.Stores.{stores, stores_length, stores_over}

-- ---- one symbol

pub no_space : (b o : ℕ) → (b ≡ 32 → o ≡ 0 → ⊥) → is_space (symbol_of b o) ≡ false
unfolding is_space symbol_of
no_space b o n = test_case (eqb o 0) (λ e. rw (e, ne_eqb b 32 (λ k. n k (eqb-true o 0 e)))) (λ e. rw e)

-- a symbol taken behind s - 1 spaces: the place, one more than the spaces that wait, and what is laid if there is room
abbrev pub Taken : List ℕ → ℕ → ℕ → Symbol → ℕ → ℕ → List ℕ → List ℕ → Type 0
Taken t at s y x z d o =
    (x ≡ at + length (piece_by t (s - 1) y)) × (z ≡ waiting (s - 1) y + 1) × (x ≤ length d → o ≡ sets d at (piece_by t (s - 1) y))

pub symbol_space : (t : List ℕ) (at s b o : ℕ) (d : List ℕ) → 1 ≤ s → b ≡ 32 → o ≡ 0 → Taken t at s (symbol_of b o) at (s + 1) d d
unfolding piece_by waiting is_space symbol_of
symbol_space t at s b o d h e f = rw (eq-eqb o 0 f, eq-eqb b 32 e) (omega arith, omega arith, λ _. refl)

no_run : (at : ℕ) (d : List ℕ) → (at ≡ at + length (space_run 0)) × (d ≡ sets d at (space_run 0))
unfolding space_run fulls rest
no_run at d = (omega arith, refl)

module _ (t : List ℕ) (at s : ℕ) (y : Symbol) (n : is_space y ≡ false) (ns : List ℕ) (k : ns ≡ nibbles_by t y) where
  pub symbol_code : (a x : ℕ) (d o p : List ℕ) → (a ≡ at + length (space_run (s - 1))) × (o ≡ sets d at (space_run (s - 1)))
      → (x ≡ a + length ns) × (x ≤ length o → p ≡ sets o a ns) → Taken t at s y x 1 d p
  unfolding piece_by waiting
  symbol_code a x d o p f g =
      let run = space_run (s - 1) in
      rw (n, ← k) (
        omega (arith, f.0, g.0, length-append run ns),
        refl,
        λ r. stores d o p run ns at a f.1 f.0 (g.1 (omega (arith, stores_length d o run at f.1))),
      )

  -- the same with no space before it
  pub symbol_alone : (x : ℕ) (d p : List ℕ) → s ≡ 1 → (x ≡ at + length ns) × (x ≤ length d → p ≡ sets d at ns) → Taken t at s y x 1 d p
  symbol_alone x d p e g =
      let none : s - 1 ≡ 0 = omega arith in
      symbol_code at x d d p (rw none (no_run at d)) g

-- by the table of the characters it is the writer's piece
piece_is : (t : List ℕ) (s b o : ℕ) → t ≡ char_table → b < 256 → piece_by t s (symbol_of b o) ≡ piece s (symbol_of b o)
unfolding piece_by piece symbol_of symbol_nibbles
piece_is t s b o e h = rw e (test_case (eqb o 0) (λ f. rw (f, plain_entry b h)) (λ f. rw f))

-- ---- what a text may hold

under : (w : ℕ) → ltb w 0x3000 ≡ ltb (w / 4096) 3
under w =
    test_case (ltb w 0x3000)
    (λ e. let h = ltb-true w 0x3000 e in e ∙ sym (lt-ltb (w / 4096) 3 (omega arith)))
    (λ e. let h = ltb-false w 0x3000 e in e ∙ sym (le-ltb (w / 4096) 3 (omega arith)))

-- a byte and its mark
abbrev pub holds : ℕ → ℕ → Bool
holds b o = leb o 1 && admitted (symbol_of b o)

pub plain_held : (t : List ℕ) (b o : ℕ) → t ≡ char_table → b < 256 → o ≡ 0 → ltb (get_or t b 0) 0x3000 ≡ holds b o
unfolding admitted symbol_of
plain_held t b o e h f = rw (e, f, lt-ltb b 256 h) (under (get_or char_table b 0) ∙ short-entry b h)

pub original_held : (b o : ℕ) → b < 256 → (o ≡ 0 → ⊥) → eqb o 1 ≡ holds b o
unfolding admitted symbol_of
original_held b o h n =
    rw (ne_eqb o 0 n, lt-ltb b 256 h)
    (test_case (eqb o 1) (λ e. rw (e, eqb-true o 1 e)) (λ e. let k = eqb-false o 1 e in rw (e, lt-leb o 1 (omega arith))))

-- all symbols
abbrev pub all_fit : List ℕ → List ℕ → Bool
all_fit t os = all_marks os && all_admitted (symbols_in t os)

and_swap : (a b c d : Bool) → (a && b) && (c && d) ≡ (a && c) && (b && d)
and_swap true true c d = refl
and_swap true false true d = refl
and_swap true false false d = refl
and_swap false b c d = refl

module _ (t os : List ℕ) (n : length t ≡ length os) where
  symbols_drop : (i : ℕ) → i < length t → symbols_in (drop i t) (drop i os) ≡ symbol_of (get_or t i 0) (get_or os i 0) ∷ symbols_in (drop (i + 1) t) (drop (i + 1) os)
  unfolding symbols_in
  symbols_drop i h = rw (add-one, drop-cons t i 0 h, drop-cons os i 0 (omega arith))

pub fit_pairs : (t os : List ℕ) → length t ≡ length os → list_all (λ (p : ℕ × ℕ). holds p.0 p.1) (zip t os) ≡ all_fit t os
unfolding all_marks all_admitted symbols_in
fit_pairs [] [] e = refl
fit_pairs [] (o ∷ os) e = absurd (omega arith)
fit_pairs (b ∷ t) [] e = absurd (omega arith)
fit_pairs (b ∷ t) (o ∷ os) e =
    ap (λ (r : Bool). holds b o && r) (fit_pairs t os (omega arith))
    ∙ and_swap (leb o 1) (admitted (symbol_of b o)) (all_marks os) (all_admitted (symbols_in t os))

-- ---- the writer's loop

total_is : (xs : List Symbol) → all_admitted xs ≡ true → (text_valid (write_text xs) ≡ true) × ((k : ℕ) × (xs ≡ read_text (write_text xs) ++ spaces k))
total_is xs h = (text_valid_lem xs h, strip_tail (write_text xs) xs h refl)

waiting_bound : (s : ℕ) (x : Symbol) → waiting s x ≤ s + 1
unfolding waiting
waiting_bound s x = cond_case (λ (k : ℕ). k ≤ s + 1) (is_space x) (s + 1) 0 (λ _. omega arith) (λ _. omega arith)

-- what stays as it is
pub record Given (symbols : Symbols) (d : List ℕ) : Type 0 where
  pub size : length d ≡ 255
  pub fit : true ≡ all_fit symbols.bytes.now symbols.origins.now

-- the nibbles of i symbols stand in front, s spaces wait
pub record Writing (symbols : Symbols) (d : List ℕ) (at s i : ℕ) (out : List ℕ) : Type 0 where
  pub given : Given symbols d
  pub inside : i ≤ length symbols.bytes.now
  pub few : s ≤ i
  pub room : at ≤ 255
  pub done : List ℕ
  pub place : at ≡ length done
  pub rest : write_text (symbols_in symbols.bytes.now symbols.origins.now) ≡ done ++ write_from s (symbols_in (drop i symbols.bytes.now) (drop i symbols.origins.now))
  pub laid : out ≡ sets d 0 done

pub writing_unfit : (t os d : List ℕ) → false ≡ all_fit t os → Writes t os d d (Err Content)
unfolding written_of
writing_unfit t os d e = record { answer = rw (sym e); nibbles = λ f. absurd (true_false _ f (sym e)); total = total_is }

module _ (symbols : Symbols) (d : List ℕ) where
  abbrev t : List ℕ
  t = symbols.bytes.now

  abbrev os : List ℕ
  os = symbols.origins.now

  pub writing_none : Given symbols d → Writing symbols d 0 0 0 d
  unfolding write_text
  writing_none g = record { given = g; inside = omega arith; few = omega arith; room = omega arith; done = []; place = refl; rest = refl; laid = refl }

  pub writing_length : (at s i : ℕ) (out : List ℕ) → Writing symbols d at s i out → length out ≡ length d
  writing_length at s i out w = stores_length d out w.done 0 w.laid

  -- symbol i, the byte b with the mark a
  module _ (at s i x z : ℕ) (out o : List ℕ) (w : Writing symbols d at (s - 1) i out) (h : i < length symbols.bytes.now)
      (b a : ℕ) (byte : b ≡ get_or symbols.bytes.now i 0) (mark : a ≡ get_or symbols.origins.now i 0) (k : b < 256)
      (characters : Characters) (taken : Taken characters.codes.table.now at s (symbol_of b a) x z out o) where
    abbrev y : Symbol
    y = symbol_of b a

    abbrev later : List Symbol
    later = symbols_in (drop (i + 1) t) (drop (i + 1) os)

    f : (x ≡ at + length (piece (s - 1) y)) × (z ≡ waiting (s - 1) y + 1) × (x ≤ length out → o ≡ sets out at (piece (s - 1) y))
    f = rw (piece_is characters.codes.table.now (s - 1) b a characters.whole k) at taken

    head : symbols_in (drop i t) (drop i os) ≡ y ∷ later
    head = symbols_drop t os symbols.even i h ∙ ap₂ (λ (m n : ℕ). symbol_of m n ∷ later) (sym byte) (sym mark)

    waits : waiting (s - 1) y ≡ z - 1
    waits = omega (arith, f.1)

    step-rest : write_text (symbols_in t os) ≡ (w.done ++ piece (s - 1) y) ++ write_from (z - 1) later
    step-rest =
        w.rest
        ∙ ap (λ (l : List Symbol). w.done ++ write_from (s - 1) l) head
        ∙ ap (λ (l : List ℕ). w.done ++ l) (write_one (s - 1) y later)
        ∙ sym (append_assoc w.done (piece (s - 1) y) (write_from (waiting (s - 1) y) later))
        ∙ ap (λ (j : ℕ). (w.done ++ piece (s - 1) y) ++ write_from j later) waits

    step-place : x ≡ length (w.done ++ piece (s - 1) y)
    step-place = omega (arith, f.0, w.place, length-append w.done (piece (s - 1) y))

    pub writing_more : x ≤ 255 → (1 ≤ z) × Writing symbols d x (z - 1) (i + 1) o
    writing_more r =
        let p : at ≡ 0 + length w.done = omega (arith, w.place) in (
          omega (arith, f.1),
          record {
            given = w.given;
            inside = omega arith;
            few = omega (arith, f.1, waiting_bound (s - 1) y, w.few);
            room = r;
            done = w.done ++ piece (s - 1) y;
            place = step-place;
            rest = step-rest;
            laid = stores d out o w.done (piece (s - 1) y) 0 at w.laid p (f.2 (omega (arith, w.given.size, writing_length at (s - 1) i out w)));
          },
        )

    pub writing_long : 255 < x → Writes symbols.bytes.now symbols.origins.now d o (Err Length)
    unfolding written_of
    writing_long r =
        let n = length (write_text (symbols_in t os)) in
        let l : 255 < n = omega (arith, step-place, ap length step-rest, length-append (w.done ++ piece (s - 1) y) (write_from (z - 1) later)) in
        record { answer = rw (sym w.given.fit, lt-leb n 255 l); nibbles = λ _ q. absurd (omega arith); total = total_is }

  pub writing_end : (at s i : ℕ) (out : List ℕ) → Writing symbols d at s i out → length symbols.bytes.now ≤ i → Writes symbols.bytes.now symbols.origins.now d out (Ok at)
  unfolding written_of
  writing_end at s i out w h =
      let ns = write_text (symbols_in t os) in
      let e : ns ≡ w.done =
      w.rest ∙ ap (λ (l : List ℕ). w.done ++ write_from s (symbols_in l (drop i os))) (drop_of_length-le t {i = i} h) ∙ ap (λ (l : List ℕ). w.done ++ l) (none s) ∙ append-nil w.done in
      let p : at ≡ length ns = w.place ∙ ap length (sym e) in
      let l : length ns ≤ 255 = omega (arith, w.room) in
      record {
        answer = rw (sym w.given.fit, le-leb (length ns) 255 l) (ap fits p);
        nibbles = λ _ _. stores_over d out ns (omega (arith, w.given.size)) (w.laid ∙ ap (sets d 0) (sym e));
        total = total_is;
      }
    where
      fits : ℕ → Result ℕ Refusal
      fits n = Ok n

      none : (j : ℕ) → write_from j (symbols_in [] (drop i os)) ≡ []
      none j = unfold write_from symbols_in in refl
