-- What the lister's functions put behind the lines so far, and the lists.
use Rattle.std.specs.Prelude.{ℕ, suc, ◌+◌, ◌≤◌, ◌≡◌, List, [], ◌∷◌, ◌++◌, length, drop}
use Rattle.format.specs.Field.{table, entries}
use Rattle.format.specs.Report.{codes_of, refused}
use Rattle.format.specs.Lister.{decimal, line, field_lines, listing_of}

-- there is room for xs behind the lines
abbrev pub Room : List ℕ → List ℕ → Type 0
Room lines xs = length lines + length xs ≤ 512

-- xs was put behind the lines
abbrev pub Puts : List ℕ → List ℕ → List ℕ → Type 0
Puts before after xs = after ≡ before ++ xs

-- the lines of the fields from place i on
unfoldable pub value_lines : List ℕ → ℕ → List ℕ
value_lines b i = field_lines (suc i) (drop i (entries table (codes_of b)))

unfoldable pub lettered_lines : ℕ → ℕ → List ℕ
lettered_lines ck ac = line (67 ∷ []) (decimal ck) ++ line (65 ∷ []) (decimal ac)

unfoldable pub refusal_line : ℕ → ℕ → List ℕ
refusal_line number place = listing_of (refused (record { number = number; place = place }))
