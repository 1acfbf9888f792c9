-- The code at the head of nibbles.
use Rattle.std.specs.Prelude.{ℕ, ◌+◌, ◌*◌, Bool, cond, not, ◌&&◌, Option, Some, None, List, length, get_or, take, drop, ltb, leb, eqb}
use Rattle.format.specs.Nibbles.{nibbles}
use Rattle.format.specs.ShipText.{pair_byte}
use Rattle.text_reader.specs.declared.Code.{Code}
use Rattle.text_reader.specs.declared.Origin.{Origin}
use Rattle.text_reader.specs.declared.Origin.TheVariants.{Plain, Original}

-- the mark of an origin in a row of marks
abbrev pub mark : Origin → ℕ
mark Plain = 0
mark Original = 1

abbrev pub code : ℕ → ℕ → ℕ → Origin → Code
code k n b o = record { nibbles = k; count = n; byte = b; origin = o }

-- how many nibbles it has, and the symbols that it stands for: so many times one byte of one origin
unfoldable pub code_at : List ℕ → Code
code_at ns =
    cond (ltb (get_or ns 0 0) 10) (code 1 1 (48 + get_or ns 0 0) Plain)
    (cond (eqb (get_or ns 0 0) 10) (code 1 1 32 Plain)
    (cond (eqb (get_or ns 0 0) 11) (code 2 (get_or ns 1 0 + 3) 32 Plain)
    (cond (ltb (get_or ns 0 0) 15) (code 2 1 (pair_byte (get_or ns 0 0) (get_or ns 1 0)) Plain)
    (code 3 1 (get_or ns 1 0 * 16 + get_or ns 2 0) Original))))

-- it is not cut off by the end, and is no undefined pair
unfoldable pub whole : List ℕ → Bool
whole ns = leb (code_at ns).nibbles (length ns) && not (eqb (mark (code_at ns).origin) 0 && eqb (code_at ns).byte 0)

-- the code, if it is whole
unfoldable pub code_in : List ℕ → Option Code
code_in ns = cond (whole ns) (Some (code_at ns)) None

-- so many nibbles of the bytes b, from a place on
abbrev pub body : List ℕ → ℕ → ℕ → List ℕ
body b at len = take len (drop at (nibbles b))
