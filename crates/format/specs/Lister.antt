-- FORMAT 9: what the lister prints for an input, as ASCII.
use Rattle.std.specs.Prelude.{ℕ, zero, suc, ◌+◌, ◌/◌, ◌%◌, true, false, List, [], ◌∷◌, ◌++◌, length, take, ltb, ℤ, pos, negsuc}
use Rattle.std.proofs.Math.Option.{Option, none, some}
use Rattle.format.specs.Field.{table, codes}
use Rattle.format.specs.Flags.{all_yes}
use Rattle.format.specs.Observation.{checksum}
use Rattle.format.specs.Report.{Verdict, refused, accepted, judge}
use Rattle.format.specs.declared.Scaled.{Scaled}

-- the decimal digits of n, in front of those given; d bounds their number
unfoldable pub digits_from : ℕ → ℕ → List ℕ → List ℕ
digits_from zero n more = more
digits_from (suc d) n more = elim (ltb n 10) [ true ↦ (48 + n) ∷ more | false ↦ digits_from d (n / 10) ((48 + n % 10) ∷ more) ]

abbrev pub decimal : ℕ → List ℕ
decimal n = digits_from (suc n) n []

abbrev pub signed_decimal : ℤ → List ℕ
signed_decimal (pos n) = decimal n
signed_decimal (negsuc n) = 45 ∷ decimal (suc n)

-- two words and the end of the line
abbrev pub line : List ℕ → List ℕ → List ℕ
line a b = a ++ (32 ∷ b ++ (10 ∷ []))

abbrev pub field_line : ℕ → Option Scaled → List ℕ
field_line k none = []
field_line k (some v) = line (decimal k) (signed_decimal v.0)

-- a line for each entry that is present, from field k on
unfoldable pub field_lines : ℕ → List (Option Scaled) → List ℕ
field_lines k [] = []
field_lines k (e ∷ es) = field_line k e ++ field_lines (suc k) es

-- the lines of a verdict: R, the fields, C and A
abbrev pub listing_of : Verdict → List ℕ
listing_of (refused r) = line (82 ∷ []) (decimal r.number ++ (32 ∷ decimal r.place))
listing_of (accepted s) =
    field_lines 1 s.values
    ++ (line (67 ∷ []) (decimal (checksum (codes table s.values))) ++ line (65 ∷ []) (decimal (length s.attachments)))

-- the first 1856 bytes of the input count, and every flag may have every value
unfoldable pub listing : List ℕ → List ℕ
listing input = listing_of (judge all_yes (take 1856 input))
