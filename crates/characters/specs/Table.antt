-- FORMAT 3.5: a table of the characters, its nibbles, and the symbols beside it.
use Rattle.std.specs.Prelude.{ℕ, ◌/◌, ◌%◌, ◌<◌, ◌≡◌, Bool, true, ◌&&◌, List, [], ◌∷◌, ◌++◌, length, get_or, ltb}
use Rattle.format.specs.ShipText.{code_nibbles, Symbol, plain, original, admitted, text_valid, read_text}

-- the nibbles that a table has for a byte
abbrev pub nibbles_at : List ℕ → ℕ → List ℕ
nibbles_at t b = code_nibbles (get_or t b 0 % 4096)

-- 256 entries, each with the number of its own nibbles
pub record Formed (t : List ℕ) : Type 0 where
  pub all : length t ≡ 256
  pub count : (b : ℕ) → b < 256 → get_or t b 0 / 4096 ≡ length (nibbles_at t b)

-- a symbol's nibbles by a table: an original one does without it
abbrev pub nibbles_by : List ℕ → Symbol → List ℕ
nibbles_by t (plain b) = nibbles_at t b
nibbles_by t (original b) = 15 ∷ b / 16 ∷ b % 16 ∷ []

-- whether a text may hold it: a plain one where its entry has under 3 nibbles
abbrev pub admitted_by : List ℕ → Symbol → Bool
admitted_by t (plain b) = ltb b 256 && ltb (get_or t b 0 / 4096) 3
admitted_by t (original b) = ltb b 256

-- a text may hold a symbol exactly where the table says so; its nibbles are read as that symbol, and no others are. The digit 0
-- stands behind them, since a space is read where something follows it
pub record ReadBack (t : List ℕ) : Type 0 where
  pub admits : (x : Symbol) → admitted_by t x ≡ admitted x
  pub reads : (x : Symbol) → admitted_by t x ≡ true → (text_valid (nibbles_by t x ++ (0 ∷ [])) ≡ true) × (read_text (nibbles_by t x ++ (0 ∷ [])) ≡ x ∷ plain 48 ∷ [])
  pub only : (x : Symbol) (ns : List ℕ) → text_valid (ns ++ (0 ∷ [])) ≡ true → read_text (ns ++ (0 ∷ [])) ≡ x ∷ plain 48 ∷ [] → ns ≡ nibbles_by t x
