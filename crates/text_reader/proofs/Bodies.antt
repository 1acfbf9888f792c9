-- What the reader has done after i nibbles of a body, and after more.
-- Assumes nothing.
use Prim.Native.Nat.{ℕ, zero, suc, ◌+◌, ◌-◌, ◌*◌, ◌≤◌, ◌<◌}
use native.Mathlib.Omega.{arith}
use mathlib.Core.Path.{◌≡◌, refl, sym, ap, ap₂, subst, ◌∙◌}
use mathlib.Core.Bool.{true}
use mathlib.Core.List.{List, [], ◌∷◌, ◌++◌, map, append-nil, append_assoc, map-append}
use lib.Dec.{leb, ltb}
use lib.ListN.{length, take, drop, replicate, length-append, length-take, length-drop, length-map, length-replicate}
use lib.Seq.{take-add, take-take, drop-drop, sets}
use borrow.Author.Tests.{le-leb, ltb-true, ltb-false}
use Rattle.format.specs.Nibbles.{nibbles}
use Rattle.format.specs.ShipText.{TextState, Between}
use Rattle.format.specs.ShipText.{Symbol, plain, spaces, read_from, end_from, at_end, text_valid, read_text}
use Rattle.format.specs.Calls.{over}
use Rattle.laws.proofs.Nibbles.{length-nibbles}
use Rattle.laws.proofs.ShipText.{read_append, end_append, credit, read_length, read_text_length}
use Rattle.text_reader.specs.declared.Body.{Body}
use Rattle.text_reader.specs.declared.Code.{Code}
use Rattle.text_reader.specs.Codes.{code_at, code_in}
use Rattle.text_reader.specs.Content.{content}
use Rattle.std.specs.Prelude.{Some, None}
use Rattle.laws.proofs.Sequences.{test_case}
use Rattle.laws.proofs.Stores.{stores, stores_length, stores_over}
use Rattle.text_reader.proofs.Reading.{symbol_in, none_some, some_same, code_end, Taken, taken, held, end_held, held-given, held_credit}

map-replicate : {A : Type 0} (f : A → ℕ) (n : ℕ) (x : A) → map f (replicate n x) ≡ replicate n (f x)
map-replicate f zero x = refl
map-replicate f (suc n) x = ap (λ (l : List ℕ). f x ∷ l) (map-replicate f n x)

-- ---- i nibbles from a place on

-- the state behind them, and the symbols that they gave
unfoldable pub reached : List ℕ → ℕ → ℕ → TextState
reached v at i = end_from (Between 0) (take i (drop at v))

unfoldable pub given : List ℕ → ℕ → ℕ → List Symbol
given v at i = read_text (take i (drop at v))

module _ (v : List ℕ) (at : ℕ) where
  -- nothing wraps
  given_bound : (i : ℕ) → length (given v at i) + held (reached v at i) ≤ 9 * i
  unfolding given read_text reached credit
  given_bound i =
      let ns = take i (drop at v) in
      omega (
        arith,
        read_length ns (Between 0),
        held_credit (end_from (Between 0) ns),
        length-take i (drop at v),
      )

  -- k nibbles more
  take_more : (i k : ℕ) → take (i + k) (drop at v) ≡ take i (drop at v) ++ take k (drop (at + i) v)
  take_more i k = take-add i k (drop at v) ∙ ap (λ (l : List ℕ). take i (drop at v) ++ take k l) (drop-drop i at v)

  reached_more : (i k : ℕ) → reached v at (i + k) ≡ end_from (reached v at i) (take k (drop (at + i) v))
  unfolding reached
  reached_more i k = ap (end_from (Between 0)) (take_more i k) ∙ end_append (take i (drop at v)) (take k (drop (at + i) v)) (Between 0)

  given_more : (i k : ℕ) → given v at (i + k) ≡ given v at i ++ read_from (reached v at i) (take k (drop (at + i) v))
  unfolding given read_text reached
  given_more i k = ap (read_from (Between 0)) (take_more i k) ∙ read_append (take i (drop at v)) (take k (drop (at + i) v)) (Between 0)

-- ---- the reader

-- the text so far: what i nibbles gave, and the spaces that wait
unfoldable pub laid : List ℕ → ℕ → ℕ → List Symbol
laid v at i = given v at i ++ spaces (held (reached v at i))

-- i nibbles of whole codes, and the length of their text
pub record Parsed (v : List ℕ) (at len count i : ℕ) : Type 0 where
  pub inside : i ≤ len
  pub state : reached v at i ≡ Between (held (reached v at i))
  pub long : count ≡ length (laid v at i)

module _ (v : List ℕ) (at : ℕ) where
  laid-length : (i : ℕ) → length (laid v at i) ≡ length (given v at i) + held (reached v at i)
  unfolding laid spaces
  laid-length i = length-append (given v at i) (spaces (held (reached v at i))) ∙ ap (λ (k : ℕ). length (given v at i) + k) (length-replicate (held (reached v at i)) (plain 32))

  pub laid_none : [] ≡ laid v at 0
  unfolding laid given read_text read_from reached end_from held spaces
  laid_none = refl

  pub laid_room : (f : Symbol → ℕ) (i : ℕ) (d out : List ℕ) → out ≡ sets d 0 (map f (laid v at i)) → length out ≡ length d
  laid_room f i d out e = stores_length d out (map f (laid v at i)) 0 e

  pub parse_none : (len : ℕ) → Parsed v at len 0 0
  unfolding reached end_from held
  parse_none len = record { inside = omega arith; state = refl; long = ap length laid_none }

module _ (v : List ℕ) (at len : ℕ) (valid : text_valid (take len (drop at v)) ≡ true) where
  -- the body from nibble i on
  ends : (i : ℕ) → i ≤ len → at_end (end_from (reached v at i) (take (len - i) (drop (at + i) v))) ≡ true
  unfolding reached text_valid
  ends i h =
      let e : i + (len - i) ≡ len = omega arith in
      ap at_end (sym (reached_more v at i (len - i)) ∙ ap (reached v at) e) ∙ valid

  -- its text so far is no longer than the whole
  laid-within : (i : ℕ) → i ≤ len → length (laid v at i) ≤ length (read_text (take len (drop at v)))
  unfolding given
  laid-within i h =
      let e : i + (len - i) ≡ len = omega arith in
      let ns = take (len - i) (drop (at + i) v) in
      let xs = read_from (reached v at i) ns in
      omega (
        arith,
        laid-length v at i,
        held-given ns (reached v at i) (ends i h),
        ap length (given_more v at i (len - i)),
        ap (λ (k : ℕ). length (given v at k)) e,
        length-append (given v at i) xs,
      )

  pub laid_all : (i : ℕ) → i ≤ len → len ≤ i → laid v at i ≡ read_text (take len (drop at v))
  unfolding laid given reached text_valid spaces
  laid_all i h k =
      let e : i ≡ len = omega arith in
      ap (laid v at) e ∙ ap (λ (w : ℕ). given v at len ++ spaces w) (end_held (reached v at len) valid) ∙ append-nil (given v at len)

  module _ (fits : at + len ≤ length v) (count i : ℕ) (p : Parsed v at len count i) (end place : ℕ) (z : end ≡ at + len) (y : place ≡ at + i) where
    abbrev left : List ℕ
    left = take (end - place) (drop place v)

    left_is : left ≡ take (len - i) (drop (at + i) v)
    left_is = let k : end - place ≡ len - i = omega arith in ap₂ (λ (m j : ℕ). take m (drop j v)) k y

    left_length : length left ≡ len - i
    left_length = omega (arith, p.inside, length-take (end - place) (drop place v), length-drop place v)

    code_taken : i < len → Taken (held (reached v at i)) left (code_at left) × (code_in left ≡ Some (code_at left))
    code_taken h =
        taken (held (reached v at i)) left (omega (arith, left_length))
        (ap₂ (λ (st : TextState) (l : List ℕ). at_end (end_from st l)) (sym p.state) left_is ∙ ends i p.inside)

    -- before the end there is a code
    pub code_there : i < len → Some (code_at left) ≡ code_in left
    code_there h = sym (code_taken h).1

    -- and where there is none, that is the end
    pub all_read : None ≡ code_in left → len ≤ i
    all_read e = test_case (ltb i len) (λ f. absurd (none_some (e ∙ (code_taken (ltb-true i len f)).1))) (λ f. ltb-false i len f)

    module _ (c : Code) (e : Some c ≡ code_in left) where
      h : i < len
      h = test_case (ltb i len) (λ f. ltb-true i len f) (λ f. let k = ltb-false i len f in absurd (none_some (code_end left (omega (arith, left_length)) ∙ sym e)))

      this : Taken (held (reached v at i)) left c
      this = let t = code_taken h in subst (Taken (held (reached v at i)) left) (some_same (sym t.1 ∙ sym e)) t.0

      -- its nibbles, among those that are left
      front : take c.nibbles left ≡ take c.nibbles (drop (at + i) v)
      front = ap (take c.nibbles) left_is ∙ take-take c.nibbles (len - i) (drop (at + i) v) (omega (arith, this.inside, left_length))

      reached_code : reached v at (i + c.nibbles) ≡ Between this.waits
      reached_code =
          reached_more v at i c.nibbles
          ∙ ap₂ end_from p.state (sym front)
          ∙ this.state

      held-code : held (reached v at (i + c.nibbles)) ≡ this.waits
      unfolding held
      held-code = ap held reached_code

      pub laid_code : laid v at (i + c.nibbles) ≡ laid v at i ++ replicate c.count (symbol_in c)
      unfolding laid
      laid_code =
          let w = held (reached v at i) in
          let xs = read_from (Between w) (take c.nibbles left) in
          ap (λ (k : ℕ). given v at (i + c.nibbles) ++ spaces k) held-code
          ∙ ap (λ (l : List Symbol). l ++ spaces this.waits)
          (given_more v at i c.nibbles ∙ ap (λ (l : List Symbol). given v at i ++ l) (ap₂ read_from p.state (sym front)))
          ∙ append_assoc (given v at i) xs (spaces this.waits)
          ∙ ap (λ (l : List Symbol). given v at i ++ l) this.symbols
          ∙ sym (append_assoc (given v at i) (spaces w) (replicate c.count (symbol_in c)))

      count_code : count + c.count ≡ length (laid v at (i + c.nibbles))
      count_code =
          omega (
            arith,
            p.long,
            ap length laid_code,
            length-append (laid v at i) (replicate c.count (symbol_in c)),
            length-replicate c.count (symbol_in c),
          )

      pub code_inside : (0 < c.nibbles) × (i + c.nibbles ≤ len)
      code_inside = (this.some, omega (arith, h, this.inside, left_length))

      pub parse_more : Parsed v at len (count + c.count) (i + c.nibbles)
      unfolding held
      parse_more = record {
        inside = code_inside.1;
        state = reached_code ∙ ap Between (sym held-code);
        long = count_code;
      }

      -- it fits where the whole text fits
      pub code_fits : count + c.count ≤ length (read_text (take len (drop at v)))
      code_fits = omega (arith, count_code, laid-within (i + c.nibbles) code_inside.1)

      -- nothing wraps
      pub code_small : count + c.count ≤ 9 * len
      code_small = omega (arith, count_code, laid-length v at (i + c.nibbles), given_bound v at (i + c.nibbles), code_inside.1)

      -- a byte for each symbol, or a mark for each
      pub store_code : (f : Symbol → ℕ) (x : ℕ) → f (symbol_in c) ≡ x → (d out o : List ℕ) → out ≡ sets d 0 (map f (laid v at i)) → o ≡ sets out count (replicate c.count x)
          → o ≡ sets d 0 (map f (laid v at (i + c.nibbles)))
      store_code f x g d out o q r =
          let k : count ≡ 0 + length (map f (laid v at i)) = omega (arith, p.long, length-map (laid v at i) f) in
          stores d out o (map f (laid v at i)) (replicate c.count x) 0 count q k r
          ∙ ap (sets d 0)
          (ap (λ (l : List ℕ). map f (laid v at i) ++ l) (ap (replicate c.count) (sym g) ∙ sym (map-replicate f c.count (symbol_in c)))
          ∙ sym (map-append f (laid v at i) (replicate c.count (symbol_in c))) ∙ ap (map f) (sym laid_code))

  pub count_end : (count i : ℕ) → Parsed v at len count i → len ≤ i → count ≡ length (read_text (take len (drop at v)))
  count_end count i p k = p.long ∙ ap length (laid_all i p.inside k)

  pub store_end : (f : Symbol → ℕ) (count i : ℕ) (d out : List ℕ) → Parsed v at len count i → len ≤ i → length (read_text (take len (drop at v))) ≤ length d
      → out ≡ sets d 0 (map f (laid v at i)) → out ≡ over (map f (read_text (take len (drop at v)))) d
  store_end f count i d out p k room e =
      let xs = read_text (take len (drop at v)) in
      stores_over d out (map f xs) (omega (arith, length-map xs f)) (e ∙ ap (λ (l : List Symbol). sets d 0 (map f l)) (laid_all i p.inside k))

-- ---- the loops over a body

-- a loop stands at a place in the body, behind so many symbols
pub record Reached (b : Body) (end count place : ℕ) : Type 0 where
  pub done : ℕ
  pub there : place ≡ b.at + done
  pub ends : end ≡ b.at + b.len
  pub parsed : Parsed (nibbles b.report.now) b.at b.len count done

abbrev pub reach_none : (b : Body) → Reached b (b.at + b.len) 0 b.at
reach_none b = record { done = 0; there = omega arith; ends = refl; parsed = parse_none (nibbles b.report.now) b.at b.len }

-- of the symbols so far what f gives of each is laid
pub record Stored (b : Body) (f : Symbol → ℕ) (done : ℕ) (before after : List ℕ) : Type 0 where
  pub is : after ≡ sets before 0 (map f (laid (nibbles b.report.now) b.at done))

pub stored_none : (b : Body) (f : Symbol → ℕ) (before : List ℕ) → Stored b f 0 before before
stored_none b f before = record { is = ap (λ (l : List Symbol). sets before 0 (map f l)) (laid_none (nibbles b.report.now) b.at) }

module _ {b : Body} {end count place : ℕ} (r : Reached b end count place) where
  abbrev v : List ℕ
  v = nibbles b.report.now

  pub lies : b.at + b.len ≤ length (nibbles b.report.now)
  lies = omega (arith, length-nibbles b.report.now, b.inside)

  module _ {c : Code} (e : Some c ≡ code_in (take (end - place) (drop place (nibbles b.report.now)))) where
    abbrev pub reach_more : Reached b end (count + c.count) (place + c.nibbles)
    reach_more = record {
      done = r.done + c.nibbles;
      there = omega (arith, r.there);
      ends = r.ends;
      parsed = parse_more v b.at b.len b.valid lies count r.done r.parsed end place r.ends r.there c e;
    }

    -- the next place is further on, and no sum wraps
    pub reach_bounds : (0 < c.nibbles) × (place + c.nibbles ≤ b.at + b.len) × (end ≡ b.at + b.len) × (count + c.count ≤ 9 * b.len)
    reach_bounds =
        let inside = code_inside v b.at b.len b.valid lies count r.done r.parsed end place r.ends r.there c e in (
          inside.0,
          omega (arith, inside.1, r.there),
          r.ends,
          code_small v b.at b.len b.valid lies count r.done r.parsed end place r.ends r.there c e,
        )

    module _ {f : Symbol → ℕ} {before after : List ℕ} (s : Stored b f r.done before after) where
      -- there is room where the whole text has room
      pub reach_room : length (read_text (content b)) ≤ length before → count + c.count ≤ length after
      reach_room room =
          omega (
            arith,
            room,
            code_fits v b.at b.len b.valid lies count r.done r.parsed end place r.ends r.there c e,
            laid_room v b.at f r.done before after s.is,
          )

      pub reach_stored : {x : ℕ} {out : List ℕ} → f (symbol_in c) ≡ x → out ≡ sets after count (replicate c.count x) → Stored b f (r.done + c.nibbles) before out
      reach_stored g q = record { is = store_code v b.at b.len b.valid lies count r.done r.parsed end place r.ends r.there c e f _ g before after _ s.is q }

  module _ (e : None ≡ code_in (take (end - place) (drop place (nibbles b.report.now)))) where
    last : b.len ≤ r.done
    last = all_read v b.at b.len b.valid lies count r.done r.parsed end place r.ends r.there e

    pub reach_count : count ≡ length (read_text (content b))
    reach_count = count_end v b.at b.len b.valid count r.done r.parsed last

    pub reach_all : {f : Symbol → ℕ} {before after : List ℕ} → Stored b f r.done before after → length (read_text (content b)) ≤ length before
        → after ≡ over (map f (read_text (content b))) before
    reach_all s room = store_end v b.at b.len b.valid _ count r.done _ _ r.parsed last room s.is

-- it fits where nine symbols a nibble fit
pub fits_all : (b : Body) (room : ℕ) → 9 * b.len ≤ room → true ≡ leb (length (read_text (content b))) room
fits_all b room h =
    sym (le-leb _ room (omega (arith, read_text_length (content b), length-take b.len (drop b.at (nibbles b.report.now)))))
