-- FORMAT 8.2, labels: a number for what each given number is.
use Rattle.std.specs.Prelude.{ℕ, zero, suc, ◌+◌, ◌-◌, ◌*◌, List, [], ◌∷◌, get_or, ℤ, pos}
use Rattle.std.proofs.Math.Option.{Option, none, some}
use Rattle.format.specs.Calls.{Quantity, value, flag, count, word, present, rptin, attachments, bytes, nibbles, deck, Given}
use Rattle.numbers.specs.Words.{unsigned}
use Rattle.script.specs.declared.Label.{Label}
use Rattle.script.specs.declared.Label.TheVariants as the
use Rattle.script.specs.declared.Labelled.{Labelled}

unfoldable pub quantity_label : Quantity → ℕ
quantity_label value = 1
quantity_label flag = 2
quantity_label count = 3
quantity_label word = 4
quantity_label present = 5
quantity_label rptin = 6
quantity_label attachments = 7
quantity_label bytes = 8
quantity_label nibbles = 9
quantity_label deck = 10

-- the quantity that has a label
unfoldable pub quantity_of : ℕ → Quantity
quantity_of m = get_or (value ∷ flag ∷ count ∷ word ∷ present ∷ rptin ∷ attachments ∷ bytes ∷ nibbles ∷ deck ∷ []) (m - 1) value

-- so much more where the number is missing
abbrev pub missing_label : ℕ
missing_label = 128

abbrev pub label_by : ℕ → Option ℤ → ℕ
label_by m none = missing_label + m
label_by m (some z) = m

abbrev pub label_of : Given → ℕ
label_of g = label_by (quantity_label g.quantity) g.number

-- the number, 0 where it is missing
abbrev pub number_or_zero : Option ℤ → ℤ
number_or_zero none = pos 0
number_or_zero (some z) = z

-- the labels of a row, the first in the lowest byte
unfoldable pub labels : List Given → ℕ
labels [] = 0
labels (g ∷ gs) = label_of g + 256 * labels gs

-- ---- as the code has them

-- the labels that the code gives
abbrev pub label_number : Label → ℕ
label_number the.Value = 1
label_number the.Flag = 2
label_number the.Count = 3
label_number the.Bytes = 8
label_number the.Nibbles = 9
label_number the.Deck = 10

-- a number behind its label, in two's complement
abbrev pub labelled_of : Given → Labelled
labelled_of g = record { label = label_of g; number = unsigned (number_or_zero g.number) }

-- a row of n of them, 0 and 0 where there is none
unfoldable pub labelled_row : ℕ → List Given → List Labelled
labelled_row zero gs = []
labelled_row (suc n) [] = record { label = 0; number = 0 } ∷ labelled_row n []
labelled_row (suc n) (g ∷ gs) = labelled_of g ∷ labelled_row n gs
