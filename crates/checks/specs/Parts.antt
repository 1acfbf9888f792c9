-- The fields in the words of a card, and the masks that the code lays over all fields of a word at once.
use Rattle.std.specs.Prelude.{ℕ, zero, suc, ◌+◌, ◌-◌, ◌*◌, ◌/◌, ◌%◌, ◌^◌, ◌≡◌, Bool, cond, not, ◌&&◌, List, [], ◌∷◌, get_or, eqb}
use Rattle.std.specs.Int.Bits.{bit_and}
use Rattle.format.specs.Bits.{offset}
use Rattle.format.specs.Field.{field_at, required}
use Rattle.format.specs.Nibbles.{odd}
use Rattle.format.specs.Observation.{widths}

-- a field in a word: the number of bits below it, its own bits, and the number that it is held against
pub record Part : Type 0 where
  pub below : ℕ
  pub bits : ℕ
  pub most : ℕ

-- the fields of the word that begins at a byte: the first, and how many
pub record WordFields : Type 0 where
  pub start : ℕ
  pub first : ℕ
  pub count : ℕ

abbrev pub word_fields : ℕ → ℕ → ℕ → WordFields
word_fields start first count = record { start = start; first = first; count = count }

abbrev pub fields_a : WordFields
fields_a = word_fields 1 1 7

abbrev pub fields_b : WordFields
fields_b = word_fields 8 8 12

abbrev pub fields_c : WordFields
fields_c = word_fields 15 20 9

abbrev pub fields_d : WordFields
fields_d = word_fields 22 29 10

abbrev pub fields_e : WordFields
fields_e = word_fields 29 39 8

-- field k in the word that begins at byte `start`
unfoldable pub part_at : (ℕ → ℕ) → ℕ → ℕ → Part
part_at most start k =
    record { below = 8 * start + 64 - (offset widths k + get_or widths k 0); bits = get_or widths k 0; most = most k }

-- those that are kept of n fields from field k on
unfoldable pub picked : (ℕ → Bool) → (ℕ → Part) → ℕ → ℕ → List Part
picked keep part k zero = []
picked keep part k (suc n) = let more : List Part = picked keep part (suc k) n in cond (keep k) (part k ∷ more) more

-- a number for each part, where the part stands
unfoldable pub laid : (Part → ℕ) → List Part → ℕ
laid f [] = 0
laid f (p ∷ ps) = f p * 2 ^ p.below + laid f ps

-- all ones; what a number above the most carries with; that carry
abbrev pub ones : Part → ℕ
ones p = 2 ^ p.bits - 1

abbrev pub gap : Part → ℕ
gap p = 2 ^ p.bits - 1 - p.most

abbrev pub carry : Part → ℕ
carry p = 2 ^ p.bits

-- the carries of the parts whose number in the word x is above the most
unfoldable pub tested : ℕ → List Part → ℕ
tested x ps = bit_and (bit_and x (laid ones ps) + laid gap ps) (laid carry ps)

-- ---- the check of a word

abbrev pub even : ℕ → Bool
even k = not (odd k)

abbrev pub tops : (ℕ → Bool) → WordFields → List Part
tops keep r = picked keep (part_at (λ k. (field_at k).highest) r.start) r.first r.count

abbrev pub needed : (ℕ → Bool) → WordFields → List Part
needed keep r = picked (λ k. required k && keep k) (part_at (λ k. 0) r.start) r.first r.count

-- no field of r in the word x is above its highest, and each required one is above 0
pub record Passed (x : ℕ) (r : WordFields) : Type 0 where
  pub odds : tested x (tops odd r) ≡ 0
  pub evens : tested x (tops even r) ≡ 0
  pub odds_present : tested x (needed odd r) ≡ laid carry (needed odd r)
  pub evens_present : tested x (needed even r) ≡ laid carry (needed even r)

pub record AllPassed (a b c d e : ℕ) : Type 0 where
  pub first : Passed a fields_a
  pub second : Passed b fields_b
  pub third : Passed c fields_c
  pub fourth : Passed d fields_d
  pub fifth : Passed e fields_e

-- ---- the sum of the words

-- the fields of r that stand p bits above a byte's end
abbrev pub placed : ℕ → WordFields → List Part
placed p r =
    picked (λ k. eqb ((part_at (λ j. 0) r.start k).below % 8) p) (part_at (λ j. 0) r.start) r.first r.count

-- their bits in the word x
abbrev pub kept : ℕ → ℕ → WordFields → ℕ
kept x p r = bit_and x (laid ones (placed p r))

-- the bits of all words at place p, moved to a byte's end
unfoldable pub at_place : ℕ → ℕ → ℕ → ℕ → ℕ → ℕ → ℕ
at_place a b c d e p = (kept a p fields_a + kept b p fields_b + (kept c p fields_c + (kept d p fields_d + kept e p fields_e))) / 2 ^ p

unfoldable pub summed : ℕ → (ℕ → ℕ) → ℕ
summed zero f = 0
summed (suc n) f = summed n f + f n
