-- The entries that a card shows.
-- Assumes nothing.
use Prim.Native.Nat.{ℕ, ◌+◌, ◌-◌, ◌<◌}
use native.Mathlib.Omega.{arith}
use mathlib.Core.Path.{◌≡◌, sym, ap, ◌∙◌}
use mathlib.Core.Bool.{Bool, true, false, not}
use mathlib.Core.List.{List}
use mathlib.Core.Option.{none, some}
use lib.ListN.{length, get_or}
use lib.Dec.{eqb}
use borrow.Author.Tests.{eq-eqb, ne_eqb}
use Rattle.format.specs.Field.{Field, table, field_at, coded, scaled_of, entry_of, is_present}
use Rattle.format.specs.Report.{codes_of}
use Rattle.format.specs.declared.Coded.{Coded}
use Rattle.laws.proofs.Fields.{no_field, field_at_lem, table-length, length-entries, entries_at}
use Rattle.card.specs.Answers.{entries_of}
use Rattle.card.proofs.Numbers.{codes-length}

-- ---- a field's entry

-- a field's entry, by its coded number
pub entry_missing : (f : Field) (c : Coded) → c.0 ≡ 0 → entry_of f c ≡ none
unfolding entry_of
entry_missing f c e = rw (eq-eqb c.0 0 e)

pub entry_there : (f : Field) (c : Coded) → (c.0 ≡ 0 → ⊥) → entry_of f c ≡ some (scaled_of f c)
unfolding entry_of
entry_there f c n = rw (ne_eqb c.0 0 n)

-- whether a field is there
pub present_is : (f : Field) (c : Coded) (t : Bool) → eqb c.0 0 ≡ t → is_present (entry_of f c) ≡ not t
unfolding entry_of
present_is f c true e = rw e
present_is f c false e = rw e

-- the card's entries
pub entries-length : (b : List ℕ) → length (entries_of b) ≡ 46
entries-length b = length-entries table (codes_of b) (codes-length b ∙ sym table-length) ∙ table-length

-- the field at place i
pub field_is : (i : ℕ) → get_or table i no_field ≡ field_at (i + 1)
field_is i = let e : i ≡ i + 1 - 1 = omega arith in ap (λ (n : ℕ). get_or table n no_field) e ∙ sym (field_at_lem (i + 1))

module _ (b : List ℕ) (i : ℕ) (c : Coded) (h : i < 46) (e : c.0 ≡ get_or (codes_of b) i 0) where
  pub entry_is : get_or (entries_of b) i none ≡ entry_of (field_at (i + 1)) c
  entry_is =
      entries_at table (codes_of b) i (rw table-length h) ∙ ap (λ (n : ℕ). entry_of (get_or table i no_field) (coded n)) (sym e)
      ∙ ap (λ (f : Field). entry_of f c) (field_is i)
