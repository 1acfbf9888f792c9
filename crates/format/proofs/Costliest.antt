-- The costliest text by cases (FORMAT 7.9): which bytes and marks of origin are such a text, which rows are of 1 to 85 symbols and
-- end in no plain space, and what a call leaves in its outputs.
-- Assumes nothing.
use Prim.Native.Nat.{ℕ}
use native.Mathlib.Omega.{arith}
use mathlib.Core.Path.{◌≡◌, refl, sym, ap}
use mathlib.Core.List.{List, [], ◌∷◌}
use mathlib.Core.Option.{none, some}
use lib.ListN.{get_or, replicate}
use Rattle.format.specs.Order.{Refusal, all_marks}
use Rattle.format.specs.ShipText.{char_code, short, code_nibbles, plain, original, symbol_of, symbols_in, admitted, all_admitted}
use Rattle.format.specs.ShipText.{is_space, symbol_nibbles, fulls, rest, space_run, write_from, write_text, ends_in_space}
use Rattle.format.specs.Calls.{Answer}
use Rattle.format.specs.Reply.{refusal}
use Rattle.format.specs.Costliest.{Costly, WrittenBy, UpTo85, Never12}
use Rattle.format.proofs.Test.{no}

number_in : Answer → ℕ
number_in (Answer.refused r) = r.number
number_in (Answer.accepted gs) = 0

-- two original symbols, and none
two_are : Costly 2 (97 ∷ 0 ∷ []) (1 ∷ 1 ∷ [])
unfolding char_code short code_nibbles symbol_of symbols_in admitted all_admitted all_marks is_space symbol_nibbles fulls rest space_run write_from write_text
two_are = record { as_many_bytes = refl; as_many_marks = refl; unrefused = refl; nibbles = refl }

none_are : Costly 0 [] []
unfolding symbols_in all_admitted all_marks write_from write_text
none_are = record { as_many_bytes = refl; as_many_marks = refl; unrefused = refl; nibbles = refl }

-- a letter, which is cheaper by one nibble; three nibbles that no text may hold; a byte or a mark too many
letter_is_not : Costly 2 (97 ∷ 65 ∷ []) (1 ∷ 0 ∷ []) → ⊥
unfolding char_code short code_nibbles symbol_of symbols_in is_space symbol_nibbles fulls rest space_run write_from write_text
letter_is_not c = let e : ◌≡◌ {A = ℕ} 5 6 = c.nibbles in omega arith

small_letter_is_not : Costly 1 (97 ∷ []) (0 ∷ []) → ⊥
unfolding char_code short symbol_of symbols_in admitted all_admitted all_marks
small_letter_is_not c = no c.unrefused

mark_two_is_not : Costly 1 (65 ∷ []) (2 ∷ []) → ⊥
unfolding symbol_of symbols_in admitted all_admitted all_marks
mark_two_is_not c = no c.unrefused

byte_too_many : Costly 1 (65 ∷ 66 ∷ []) (1 ∷ []) → ⊥
byte_too_many c = let e : ◌≡◌ {A = ℕ} 2 1 = c.as_many_bytes in omega arith

mark_too_many : Costly 1 (65 ∷ []) (1 ∷ 1 ∷ []) → ⊥
mark_too_many c = let e : ◌≡◌ {A = ℕ} 2 1 = c.as_many_marks in omega arith

-- rows of 85 and of 1; of none, of 86, and with a plain space at the end
most_are : UpTo85 (replicate 85 (original 32))
unfolding ends_in_space is_space
most_are = record { few = refl; kept = refl }

one_is : UpTo85 (plain 48 ∷ [])
unfolding ends_in_space is_space
one_is = record { few = refl; kept = refl }

none_is_not : UpTo85 [] → ⊥
none_is_not u = no (sym u.few)

more_are_not : UpTo85 (replicate 86 (original 32)) → ⊥
more_are_not u = no (sym u.few)

space_is_not : UpTo85 (plain 65 ∷ plain 32 ∷ []) → ⊥
unfolding ends_in_space is_space
space_is_not u = no u.kept

-- 12 is what put text never answers to such a row, at any place; it may answer 11 or 13, and 12 to a row of 86
twelve_is_not : Never12 (plain 48 ∷ []) (refusal 12 0) → ⊥
twelve_is_not never = never one_is 0 refl

twelve_anywhere_is_not : Never12 (replicate 85 (original 32)) (refusal 12 4) → ⊥
twelve_anywhere_is_not never = never most_are 4 refl

eleven_is : Never12 (plain 48 ∷ []) (refusal 11 0)
unfolding number_in
eleven_is u p e = let z : ◌≡◌ {A = ℕ} 11 12 = ap number_in e in omega arith

thirteen_is : Never12 (plain 48 ∷ []) (refusal 13 0)
unfolding number_in
thirteen_is u p e = let z : ◌≡◌ {A = ℕ} 13 12 = ap number_in e in omega arith

more_may : Never12 (replicate 86 (original 32)) (refusal 12 0)
more_may u p e = more_are_not u

-- two symbols to longer outputs, whose rest stays; a refused call that wrote to one of its outputs
written_are : WrittenBy none 2 (7 ∷ 7 ∷ 7 ∷ []) (9 ∷ 9 ∷ 9 ∷ 9 ∷ []) (97 ∷ 0 ∷ 7 ∷ []) (1 ∷ 1 ∷ 9 ∷ 9 ∷ [])
written_are = ((97 ∷ 0 ∷ [], 1 ∷ 1 ∷ [], two_are, refl, refl))

module _ (r : Refusal) where
  byte_written : WrittenBy (some r) 1 (7 ∷ []) (9 ∷ []) (8 ∷ []) (9 ∷ []) → ⊥
  byte_written w = let e : ◌≡◌ {A = ℕ} 8 7 = ap (λ (l : List ℕ). get_or l 0 0) w.0 in omega arith

  mark_written : WrittenBy (some r) 1 (7 ∷ []) (9 ∷ []) (7 ∷ []) (1 ∷ []) → ⊥
  mark_written w = let e : ◌≡◌ {A = ℕ} 1 9 = ap (λ (l : List ℕ). get_or l 0 0) w.1 in omega arith
