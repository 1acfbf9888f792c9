-- Laws of a replay's functions, at each return.
-- Assumes nothing.
use Prim.Native.Nat.{ℕ, zero, suc, ◌+◌, ◌-◌, ◌≤◌, ◌<◌}
use native.Mathlib.Omega.{arith}
use mathlib.Core.Path.{◌≡◌, refl, sym, ap, ap₂, subst, ◌∙◌}
use mathlib.Core.List.{List, [], ◌∷◌, ◌++◌, append_assoc, append-nil}
use mathlib.Core.Logic.{◌⊎◌, inl, inr}
use mathlib.Core.Option.{Option, none, some}
use lib.ListN.{length, get_or, take, drop, length-append, length-drop, take-append-drop, get_or-eq_default}
use lib.Seq.{drop-drop, drop_at, take_at, length-take-le, take_all, drop-length}
use Rattle.format.specs.Flags.{FlagTable}
use Rattle.format.specs.Calls.{Call, outputs_of, Quantity, Given, counted, Answer, accepted, over}
use Rattle.format.specs.Buffer.{zeros, After, after, effect}
use Rattle.format.specs.Reply.{refusal, givens_of}
use Rattle.format.specs.declared.Outcome.{Outcome}
use Rattle.format.specs.Bits.{Bytes}
use Rattle.laws.proofs.Sequences.{None, none_lt}
use Rattle.script.specs.declared.Labelled.{Labelled}
use Rattle.numbers.specs.Words.{unsigned}
use Rattle.script.specs.Labels.{quantity_label, labelled_of, labelled_row}
use Rattle.script.specs.Script.{bytes_of, bytes8, Entry, entry, number_at, bytes_at, second, kinds, within, entry_at, joined, record_size, next_in, row_of, head_of, Replayed, Performs, idle, turn}
use Rattle.script.proofs.Numbers.{length-bytes8, over-behind}
use Rattle.script.proofs.Log.{head_length, Alike, effect_outs}
use Rattle.script.proofs.Scripts.{entry_whole, entry_cut, next_in_lem, next_full, next_none, next_some, turn-idle, turn_done, turned, Going, kept-turn, kept_end, performs}

-- ---- one entry

-- no entry is next where the script is short or the log has no room for any record
next-short : (room : ℕ) (s : List ℕ) → length s < 9 → next_in room s ≡ none
next-short room s h = go (next_in room s) refl
  where
    go : (o : Option Entry) → next_in room s ≡ o → next_in room s ≡ none
    go none q = q
    go (some e) q = let n = next_some room s e q in absurd (omega (arith, n.some_bytes, n.whole))

next_cramped : (room : ℕ) (s : List ℕ) → room < 37 → next_in room s ≡ none
unfolding record_size
next_cramped room s h = go (next_in room s) refl
  where
    go : (o : Option Entry) → next_in room s ≡ o → next_in room s ≡ none
    go none q = q
    go (some e) q = let n = next_some room s e q in absurd (omega (arith, n.fits))

pub next_nowhere : (room : ℕ) (s : List ℕ) → (length s < 9) ⊎ ((9 ≤ length s) × (room < 37)) → next_in room s ≡ none
next_nowhere room s (inl h) = next-short room s h
next_nowhere room s (inr h) = next_cramped room s h.1

-- an entry of kind k that says e: cut off; without room; performed
module _ (marks : FlagTable) (b s log : List ℕ) (k : ℕ) (e : Entry) (kind : get_or s 0 0 ≡ k) (says : get_or (kinds s) k none ≡ some e) where
  pub turn_cut : length s < e.taken → idle b log ≡ turn marks b s log
  turn_cut h = turn-idle marks b s log (next_none (length log) s (entry_cut s k e kind says h))

  pub turn_full : e.taken ≤ length s → length log < record_size e.call → idle b log ≡ turn marks b s log
  turn_full h g = turn-idle marks b s log (next_full (length log) s e (entry_whole s k e kind says h) g)

  turn-made : e.taken ≤ length s → record_size e.call ≤ length log → (a : Answer) (b' : List ℕ) (outs : List (List ℕ)) (log' : List ℕ)
      → after a b' outs ≡ effect marks b e.call
      → log' ≡ over (head_of a ++ joined outs) log
      → record { buffer = b'; log = log'; calls = 1; taken = e.taken; written = record_size e.call } ≡ turn marks b s log
  turn-made h g a b' outs log' f w = turn_done marks b s log e a b' outs log' (next_in_lem (length log) s e (entry_whole s k e kind says h) g) f w

-- an entry with no output, its call made as c' and its bytes counted as t'
pub turn_plain : (marks : FlagTable) (b s log : List ℕ) (k : ℕ) (c c' : Call) (t t' : ℕ) (a : Answer) (b' log' : List ℕ) → get_or s 0 0 ≡ k → get_or (kinds s) k none ≡ some (entry c t)
    → outputs_of c ≡ []
    → after a b' [] ≡ effect marks b c'
    → log' ≡ over (head_of a) log
    → c' ≡ c
    → t' ≡ t
    → t ≤ length s
    → 37 ≤ length log
    → record { buffer = b'; log = log'; calls = 1; taken = t'; written = 37 } ≡ turn marks b s log
unfolding joined
turn_plain marks b s log k c c' t t' a b' log' kind says no_output f w made took whole room =
    let z : record_size c ≡ 37 = unfold record_size in ap (λ (d : List (List ℕ)). 37 + length (joined d)) no_output in
    rw (took, ← z)
    (turn-made marks b s log k (entry c t) kind says whole (omega arith) a b' [] log' (f ∙ ap (effect marks b) made) (rw (append-nil (head_of a)) w))

-- ---- an answer over the first 37 bytes

refused_row : row_of 3 [] ≡ zeros 27
unfolding row_of bytes8 bytes_of
refused_row = refl

pub refusal_put : (n p : ℕ) → head_of (refusal n p) ≡ (0 ∷ n ∷ bytes8 p) ++ zeros 27
unfolding head_of
refusal_put n p = rw refused_row

abbrev unlabelled : Labelled
unlabelled = record { label = 0; number = 0 }

-- an outcome that gives one number
pub one_given : (o o' : Outcome) (r l : Labelled) → o ≡ o' → r ≡ l → labelled_row 3 (givens_of o') ≡ l ∷ unlabelled ∷ unlabelled ∷ []
    → r ∷ unlabelled ∷ unlabelled ∷ [] ≡ labelled_row 3 (givens_of o)
one_given o o' r l e f g = ap (λ (x : Labelled). x ∷ unlabelled ∷ unlabelled ∷ []) f ∙ sym g ∙ ap (λ (x : Outcome). labelled_row 3 (givens_of x)) (sym e)

abbrev ten : List ℕ
ten = 1 ∷ 0 ∷ bytes8 0

abbrev nine : Labelled → List ℕ
nine l = l.label ∷ bytes8 l.number

-- three numbers, none of them missing
pub three_put : (q : Quantity) (n : ℕ) (r : Quantity) (m : ℕ) (s : Quantity) (k : ℕ) → head_of (accepted (counted q n ∷ counted r m ∷ counted s k ∷ []))
    ≡ 1 ∷ 0 ∷ (bytes8 0 ++ (quantity_label q ∷ (bytes8 n ++ (quantity_label r ∷ (bytes8 m ++ (quantity_label s ∷ bytes8 k))))))
unfolding head_of row_of unsigned
three_put q n r m s k = rw append-nil

-- three numbers, one behind the other
three_laid : (x y z : Labelled) → ((ten ++ nine x) ++ nine y) ++ nine z
    ≡ 1 ∷ 0 ∷ (bytes8 0 ++ (x.label ∷ (bytes8 x.number ++ (y.label ∷ (bytes8 y.number ++ (z.label ∷ (bytes8 z.number ++ [])))))))
three_laid x y z =
    append_assoc (ten ++ nine x) (nine y) (nine z) ∙ append_assoc ten (nine x) (nine y ++ nine z)
    ∙ ap (λ (l : List ℕ). ten ++ (nine x ++ (nine y ++ (z.label ∷ l)))) (sym (append-nil (bytes8 z.number)))

row_put : (gs : List Given) (r : List Labelled) → r ≡ labelled_row 3 gs
    → ((ten ++ nine (get_or r 0 unlabelled)) ++ nine (get_or r 1 unlabelled)) ++ nine (get_or r 2 unlabelled) ≡ head_of (accepted gs)
unfolding labelled_row head_of row_of
row_put [] r is = rw is (three_laid unlabelled unlabelled unlabelled)
row_put (x ∷ []) r is = rw is (three_laid (labelled_of x) unlabelled unlabelled)
row_put (x ∷ y ∷ []) r is = rw is (three_laid (labelled_of x) (labelled_of y) unlabelled)
row_put (x ∷ y ∷ z ∷ gs) r is = rw is (three_laid (labelled_of x) (labelled_of y) (labelled_of z))

-- an accepted call's answer, written in four parts
module _ (gs : List Given) (r : List Labelled) (is : r ≡ labelled_row 3 gs) (log log₁ ys zs us : List ℕ) (head : log₁ ≡ over ten log)
    (first : ys ≡ over (nine (get_or r 0 unlabelled)) (take (length log₁ - 10) (drop 10 log₁))) where
  abbrev log₂ : List ℕ
  log₂ = take 10 log₁ ++ (ys ++ drop (length log₁ - 10) (drop 10 log₁))

  abbrev log₃ : List ℕ
  log₃ = take 19 log₂ ++ (zs ++ drop (length log₂ - 19) (drop 19 log₂))

  pub outcome_put : zs ≡ over (nine (get_or r 1 unlabelled)) (take (length log₂ - 19) (drop 19 log₂))
      → us ≡ over (nine (get_or r 2 unlabelled)) (take (length log₃ - 28) (drop 28 log₃))
      → take 28 log₃ ++ (us ++ drop (length log₃ - 28) (drop 28 log₃)) ≡ over (head_of (accepted gs)) log
  outcome_put second third =
      let x = nine (get_or r 0 unlabelled) in
      let y = nine (get_or r 1 unlabelled) in
      let z = nine (get_or r 2 unlabelled) in
      let one = over-behind log log₁ ten x ys 10 head (simp length-bytes8) first in
      let two = over-behind log log₂ (ten ++ x) y zs 19 one (simp (length-append, length-bytes8)) second in
      over-behind log log₃ ((ten ++ x) ++ y) z us 28 two (simp (length-append, length-bytes8)) third ∙ ap (λ (xs : List ℕ). over xs log) (row_put gs r is)

-- no kind above 12
pub kinds-rest : (s : List ℕ) (k : ℕ) → None 12 k → get_or (kinds s) k none ≡ none
unfolding kinds
kinds-rest s zero p = refl
kinds-rest s (suc k) p = let h = none_lt 12 (suc k) (omega arith) p in get_or-eq_default (kinds s) none {n = suc k} (omega arith)

-- a script that begins with no entry
pub entry-rest : (s : List ℕ) → get_or (kinds s) (get_or s 0 0) none ≡ none → entry_at s ≡ none
unfolding entry_at within
entry-rest s e = rw e

-- ---- parts

pub part-whole : (l : List ℕ) (i : ℕ) → take (length l - i) (drop i l) ≡ drop i l
part-whole l i = take_all (length l - i) (drop i l) (omega (arith, length-drop i l))

pub put_whole : (l ys : List ℕ) (i : ℕ) → take i l ++ (ys ++ drop (length l - i) (drop i l)) ≡ take i l ++ ys
put_whole l ys i = rw (← length-drop i l, drop-length (drop i l), append-nil ys)

-- the counted bytes at i, as the part of the script that ends at e
pub part-counted : (s : List ℕ) (i e : ℕ) → e ≡ i + 8 + number_at s i → take (e - (i + 8)) (drop (i + 8) s) ≡ bytes_at s i
part-counted s i e ends =
    let x : e - (i + 8) ≡ number_at s i = omega arith in
    ap (λ (j : ℕ). take j (drop (i + 8) s)) x

-- an output in the middle of a log, first copied there, then written, and then the answer before it
module _ (log ys out : List ℕ) (n m : ℕ) (g : 37 + n ≤ length log) (same : m ≡ n) (ly : length ys ≡ n) where
  abbrev log₁ : List ℕ
  log₁ = take 37 log ++ (ys ++ drop m (drop 37 log))

  front : length (take 37 log) ≡ 37
  front = length-take-le 37 log (omega arith)

  pub output_part : take m (drop 37 log₁) ≡ ys
  output_part = rw (drop_at (take 37 log) (ys ++ drop m (drop 37 log)) 37 front, same) (take_at ys (drop n (drop 37 log)) n ly)

  front₁ : length (take 37 log₁) ≡ 37
  front₁ = rw (take_at (take 37 log) (ys ++ drop m (drop 37 log)) 37 front) front

  rest₁ : drop m (drop 37 log₁) ≡ drop (37 + n) log
  rest₁ =
      rw (drop_at (take 37 log) (ys ++ drop m (drop 37 log)) 37 front, same)
      (drop_at ys (drop n (drop 37 log)) n ly ∙ drop-drop n 37 log)

  pub output_log : (a : Answer) → length out ≡ n → over (head_of a) (take 37 log₁ ++ (out ++ drop m (drop 37 log₁))) ≡ over (head_of a ++ out) log
  output_log a lo =
      rw (rest₁, length-append (head_of a) out, head_length a, lo, drop_at (take 37 log₁) (out ++ drop (37 + n) log) 37 front₁)
      (sym (append_assoc (head_of a) out (drop (37 + n) log)))

-- ---- an entry with counted bytes

-- as many as are counted
pub counted-length : (s : List ℕ) (i : ℕ) → i + 8 + number_at s i ≤ length s → length (bytes_at s i) ≡ number_at s i
counted-length s i h = length-take-le (number_at s i) (drop (i + 8) s) (omega (arith, length-drop (i + 8) s))

-- an output of the bytes counted at i, which end at e, stands as ys, at the log's place 37, to the call made as f'
module _ (marks : FlagTable) (b s log : List ℕ) (k i e : ℕ) (f f' : List ℕ → Call) (kind : get_or s 0 0 ≡ k) (says : get_or (kinds s) k none ≡ some (entry (f (bytes_at s i)) (i + 8 + number_at s i)))
    (output-of : (d : List ℕ) → outputs_of (f d) ≡ d ∷ []) (ends : e ≡ i + 8 + number_at s i) (whole : e ≤ length s) where
  abbrev pub lent : List ℕ
  lent = take (e - (i + 8)) (drop (i + 8) s)

  lent_is : lent ≡ bytes_at s i
  lent_is = part-counted s i e ends

  size : record_size (f (bytes_at s i)) ≡ 37 + length lent
  unfolding record_size joined
  size =
      ap (λ (d : List (List ℕ)). 37 + length (joined d)) (output-of (bytes_at s i))
      ∙ ap (λ (d : List ℕ). 37 + length d) (append-nil (bytes_at s i) ∙ sym lent_is)

  pub output_full : length log < 37 + length lent → idle b log ≡ turn marks b s log
  output_full h = turn_full marks b s log k (entry (f (bytes_at s i)) (i + 8 + number_at s i)) kind says (omega arith) (rw size h)

  pub turn_output : (ys out log' : List ℕ) (a : Answer) → 37 + length lent ≤ length log → f' ≡ f
      → ys ≡ lent
      → (let log₂ = take 37 log ++ (ys ++ drop (37 + length lent - 37) (drop 37 log)) in
      after a b (out ∷ []) ≡ effect marks b (f' (take (37 + length lent - 37) (drop 37 log₂)))
      → log' ≡ over (head_of a) (take 37 log₂ ++ (out ++ drop (37 + length lent - 37) (drop 37 log₂)))
      → record { buffer = b; log = log'; calls = 1; taken = e; written = 37 + length lent } ≡ turn marks b s log)
  unfolding joined
  turn_output ys out log' a room made copied g w =
      let n = length lent in
      let m : 37 + n - 37 ≡ n = omega arith in
      let is : after a b (out ∷ []) ≡ effect marks b (f (bytes_at s i)) =
      g ∙ ap₂ (λ (h : List ℕ → Call) (d : List ℕ). effect marks b (h d)) made (output_part log ys ys n (37 + n - 37) room m (ap length copied) ∙ copied ∙ lent_is) in
      let alike : Alike (out ∷ []) (bytes_at s i ∷ []) =
      subst (λ (x : List (List ℕ)). Alike (out ∷ []) x) (output-of (bytes_at s i))
      (subst (λ (x : After). Alike x.outs (outputs_of (f (bytes_at s i)))) (sym is) (effect_outs marks b (f (bytes_at s i)))) in
      ap₂ (λ (t w : ℕ). record { buffer = b; log = log'; calls = 1; taken = t; written = w }) ends (sym size)
      ∙ turn-made marks b s log k (entry (f (bytes_at s i)) (i + 8 + number_at s i)) kind says (omega arith) (rw size room) a b (out ∷ []) log' is
      (rw (append-nil out) (w ∙ output_log log ys out n (37 + n - 37) room m (ap length copied) a (alike.0 ∙ ap length (sym lent_is))))

-- two outputs, of the bytes counted at 1, which end at j, and of those counted there, stand as `both` at the log's place 37
module _ (marks : FlagTable) (b s log : List ℕ) (k j e : ℕ) (f : List ℕ → List ℕ → Call) (kind : get_or s 0 0 ≡ k)
    (says : get_or (kinds s) k none ≡ some (entry (f (bytes_at s 1) (bytes_at s (second s))) (17 + number_at s 1 + number_at s (second s)))) (ends : j ≡ second s) where
  abbrev texts : Entry
  texts = entry (f (bytes_at s 1) (bytes_at s (second s))) (17 + number_at s 1 + number_at s (second s))

  second_is : number_at s j ≡ number_at s (second s)
  second_is = ap (number_at s) ends

  pub second_cut : length s < j + 8 + number_at s j → idle b log ≡ turn marks b s log
  second_cut h = turn_cut marks b s log k texts kind says (omega (arith, second_is, ends))

  module _ (ends₂ : e ≡ j + 8 + number_at s j) (whole : e ≤ length s) where
    abbrev pub out : List ℕ
    out = take (j - 9) (drop 9 s)

    abbrev pub origins : List ℕ
    origins = take (e - (j + 8)) (drop (j + 8) s)

    pub out_is : out ≡ bytes_at s 1
    out_is = part-counted s 1 j ends

    pub origins_are : origins ≡ bytes_at s (second s)
    origins_are = part-counted s j e ends₂ ∙ ap (bytes_at s) ends

    pub texts_taken : e ≡ texts.taken
    texts_taken = omega (arith, ends₂, second_is, ends)

    pub texts_whole : texts.taken ≤ length s
    texts_whole = omega (arith, texts_taken)

    module _ (outputs-of : (d e : List ℕ) → outputs_of (f d e) ≡ d ∷ e ∷ []) where
      sizes : record_size texts.call ≡ 37 + length out + length origins
      unfolding record_size joined
      sizes =
          ap (λ (d : List (List ℕ)). 37 + length (joined d)) (outputs-of (bytes_at s 1) (bytes_at s (second s)))
          ∙ simp length-append (omega (arith, ap length out_is, ap length origins_are))

      pub outputs_full : length log < 37 + length out + length origins → idle b log ≡ turn marks b s log
      outputs_full h = turn_full marks b s log k texts kind says texts_whole (rw sizes h)

      pub turn_outputs : (both log' : List ℕ) (a : Answer) → (let to = 37 + length out + length origins in
          to ≤ length log → length both ≡ length (take (to - 37) (drop 37 log))
          → after a b (take (length out) both ∷ drop (length out) both ∷ []) ≡ effect marks b (f out origins)
          → log' ≡ over (head_of a) (take 37 log ++ (both ++ drop (to - 37) (drop 37 log)))
          → record { buffer = b; log = log'; calls = 1; taken = e; written = to } ≡ turn marks b s log)
      unfolding joined
      turn_outputs both log' a room long g w =
          let n = length out in
          let m = length origins in
          let lb : length both ≡ n + m = long ∙ length-take-le (37 + n + m - 37) (drop 37 log) (omega (arith, length-drop 37 log)) ∙ omega arith in
          let is = g ∙ ap (effect marks b) (ap₂ f out_is origins_are) in
          let outs : take n both ++ (drop n both ++ []) ≡ both = ap (λ (l : List ℕ). take n both ++ l) (append-nil (drop n both)) ∙ take-append-drop n both in
          let front : length (take 37 log) ≡ 37 = length-take-le 37 log (omega arith) in
          let behind : 37 + (37 + n + m - 37) ≡ length (head_of a ++ both) = omega (arith, length-append (head_of a) both, head_length a) in
          let put : over (head_of a) (take 37 log ++ (both ++ drop (37 + n + m - 37) (drop 37 log))) ≡ over (head_of a ++ both) log =
          ap (λ (l : List ℕ). head_of a ++ l)
          (ap (λ (i : ℕ). drop i (take 37 log ++ (both ++ drop (37 + n + m - 37) (drop 37 log)))) (head_length a)
          ∙ drop_at (take 37 log) (both ++ drop (37 + n + m - 37) (drop 37 log)) 37 front
          ∙ ap (λ (l : List ℕ). both ++ l) (drop-drop (37 + n + m - 37) 37 log ∙ ap (λ (i : ℕ). drop i log) behind))
          ∙ sym (append_assoc (head_of a) both (drop (length (head_of a ++ both)) log)) in
          ap₂ (λ (t w : ℕ). record { buffer = b; log = log'; calls = 1; taken = t; written = w }) texts_taken (sym sizes)
          ∙ turn-made marks b s log k texts kind says texts_whole (rw sizes room) a b (take n both ∷ drop n both ∷ []) log' is
          (w ∙ put ∙ ap (λ (l : List ℕ). over (head_of a ++ l) log) (sym outs))

-- ---- the loop

module _ (marks : FlagTable) (b₀ script log₀ b log : List ℕ) (n at to : ℕ) (k : Going marks b₀ script log₀ b log n at to) (t : Replayed)
    (h : t ≡ turn marks b (take (length script - at) (drop at script)) (take (length log - to) (drop to log))) where
  turns : t ≡ turn marks b (drop at script) (drop to log)
  turns = h ∙ ap₂ (turn marks b) (part-whole script at) (part-whole log to)

  pub kept_parts : Going marks b₀ script log₀ t.buffer (take to log ++ (t.log ++ drop (length log - to) (drop to log))) (n + t.calls) (at + t.taken) (to + t.written)
  kept_parts = rw (put_whole log t.log to) (kept-turn marks b₀ script log₀ b log n at to k t turns)

  -- each call takes bytes
  pub turn_counted : t.calls ≤ t.taken
  turn_counted = (turned marks b (drop at script) (drop to log) t turns).counted

  pub parts_end : t.taken ≡ 0 → Bytes b₀
      → Performs marks (record { buffer = t.buffer; log = take to log ++ (t.log ++ drop (length log - to) (drop to log)); calls = n; taken = at; written = to }) b₀ script log₀
  parts_end z bytes =
      rw (put_whole log t.log to)
      (performs marks _ b₀ script log₀ (kept_end marks b₀ script log₀ b log n at to k t turns z) bytes)
