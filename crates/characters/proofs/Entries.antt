-- Runs of entries, stored one after another, and the table that the rules give, which agrees with the symbols.
-- Assumes nothing.
use Prim.Native.Nat.{ℕ, zero, suc, ◌+◌, ◌<◌}
use native.Mathlib.Omega.{arith}
use native.Mathlib.Nat.{add-zero}
use mathlib.Core.Path.{◌≡◌, refl, sym, ap, ◌∙◌}
use mathlib.Core.Bool.{true}
use mathlib.Core.List.{List, [], ◌∷◌, ◌++◌, append-nil}
use lib.ListN.{length, get_or, set, drop_of_length-le}
use lib.Seq.{sets}
use lib.Dec.{ltb}
use borrow.Author.Tests.{ltb-true}
use Rattle.format.specs.ShipText.{up_from, entry, char_table, char_code, code_nibbles, Symbol, plain, original, admitted, symbol_nibbles}
use Rattle.laws.proofs.Characters.{up_from-length, char_table-length, char_table-entry, entry_parts}
use Rattle.laws.proofs.Agreement.{plain_entry, short-entry}
use Rattle.laws.proofs.Sequences.{test_case}
use Rattle.laws.proofs.ShipText.{admitted_plain, symbol_read, read_symbol}
use Rattle.characters.specs.Table.{Formed, ReadBack, nibbles_by, admitted_by}
use Rattle.laws.proofs.Stores.{stores, stores_over}

-- ---- the loop

pub run_none : (d : List ℕ) (at a : ℕ) → d ≡ sets d at (up_from a 0)
unfolding up_from
run_none d at a = refl

up_from_more : (n a : ℕ) → up_from a n ++ ((a + n) ∷ []) ≡ up_from a (n + 1)
unfolding up_from
up_from_more zero a = ap (λ (k : ℕ). k ∷ []) (add-zero a)
up_from_more (suc n) a =
    let e : a + suc n ≡ suc a + n = omega arith in
    let f : suc (n + 1) ≡ suc n + 1 = omega arith in
    ap (λ (l : List ℕ). a ∷ l) (ap (λ (k : ℕ). up_from (suc a) n ++ (k ∷ [])) e ∙ up_from_more n (suc a)) ∙ ap (up_from a) f

pub run_more : (d o : List ℕ) (at a i : ℕ) → o ≡ sets d at (up_from a i) → set o (at + i) (a + i) ≡ sets d at (up_from a (i + 1))
run_more d o at a i e =
    let k : at + i ≡ at + length (up_from a i) = omega (arith, up_from-length i a) in
    stores d o (set o (at + i) (a + i)) (up_from a i) ((a + i) ∷ []) at (at + i) e k refl ∙ ap (sets d at) (up_from_more i a)

-- ---- the table

-- a run over all entries
pub whole : (d o : List ℕ) (a n : ℕ) → length d ≡ n → o ≡ sets d 0 (up_from a n) → o ≡ up_from a n
whole d o a n h e =
    let l : length (up_from a n) ≡ length d = up_from-length n a ∙ sym h in
    stores_over d o (up_from a n) (omega arith) e ∙ ap (λ (k : List ℕ). up_from a n ++ k) (drop_of_length-le d {i = length (up_from a n)} (omega arith)) ∙ append-nil (up_from a n)

-- a run laid over what the rules before it gave
abbrev Lays : List ℕ → ℕ → ℕ → ℕ → List ℕ → Type 0
Lays d at n v o = o ≡ sets d at (up_from v n)

pub ruled : (a b c d e f g h i j k l : List ℕ) → a ≡ up_from 0x3f00 256 → Lays a 48 10 0x1000 b → Lays b 32 1 0x100a c → Lays c 65 9 0x20c1 d → Lays d 74 9 0x20d1 e → Lays e 83 8 0x20e2 f
    → Lays f 47 1 0x20e1 g → Lays g 38 1 0x20ca h → Lays h 43 1 0x20cb i → Lays i 45 1 0x20da j → Lays j 123 1 0x20c0 k → Lays k 125 1 0x20d0 l → l ≡ char_table
unfolding char_table up_from entry code_nibbles char_code
ruled a b c d e f g h i j k l a' b' c' d' e' f' g' h' i' j' k' l' = rw (l', k', j', i', h', g', f', e', d', c', b', a') refl

-- ---- its nibbles

module _ (t : List ℕ) (e : t ≡ char_table) where
  at : (b : ℕ) → b < 256 → get_or t b 0 ≡ entry b
  at b h = ap (λ (l : List ℕ). get_or l b 0) e ∙ char_table-entry b h

  pub formed : Formed t
  formed = record {
    all = ap length e ∙ char_table-length;
    count = λ b h. rw (at b h) ((entry_parts b h).0 ∙ ap (λ (x : ℕ). length (code_nibbles x)) (sym (entry_parts b h).1));
  }

  nibbles_by_lem : (x : Symbol) → admitted x ≡ true → nibbles_by t x ≡ symbol_nibbles x
  unfolding symbol_nibbles
  nibbles_by_lem (plain b) h = rw e (plain_entry b (admitted_plain b h).0)
  nibbles_by_lem (original b) h = refl

  admitted_by_lem : (x : Symbol) → admitted_by t x ≡ admitted x
  unfolding admitted
  admitted_by_lem (plain b) = test_case (ltb b 256) (λ h. rw (h, e, short-entry b (ltb-true b 256 h))) (λ h. rw h)
  admitted_by_lem (original b) = refl

  pub read_back : ReadBack t
  read_back = record {
    admits = admitted_by_lem;
    reads = λ x h.
        let k = sym (admitted_by_lem x) ∙ h in
        rw (nibbles_by_lem x k) (symbol_read x k);
    only = λ x ns v f.
        let r = read_symbol x ns v f in
        r.1 ∙ sym (nibbles_by_lem x r.0);
  }
