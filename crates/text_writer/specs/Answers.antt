-- What the writer answers.
use Rattle.std.specs.Prelude.{ℕ, ◌≤◌, ◌≡◌, true, cond, ◌&&◌, List, ◌++◌, length, leb, Result, Ok, Err}
use Rattle.format.specs.Order.{all_marks}
use Rattle.format.specs.ShipText.{Symbol, symbols_in, all_admitted, write_text, spaces, text_valid, read_text}
use Rattle.format.specs.Calls.{over}
use Rattle.format.specs.declared.Refusal.{Refusal}
use Rattle.format.specs.declared.Refusal.TheVariants.{Length, Content}

-- how many nibbles a row of symbols takes, of 255
abbrev pub fitting : List Symbol → Result ℕ Refusal
fitting xs = cond (leb (length (write_text xs)) 255) (Ok (length (write_text xs))) (Err Length)

-- first whether a text may hold all of the symbols
unfoldable pub written_of : List ℕ → List ℕ → Result ℕ Refusal
written_of t os = cond (all_marks os && all_admitted (symbols_in t os)) (fitting (symbols_in t os)) (Err Content)

-- the answer to as many bytes as marks of origin, and the caller's array after it; where they do not fit it holds anything
pub record Writes (t os before after : List ℕ) (r : Result ℕ Refusal) : Type 0 where
  pub answer : r ≡ written_of t os
  pub nibbles : all_marks os && all_admitted (symbols_in t os) ≡ true → length (write_text (symbols_in t os)) ≤ 255 → after ≡ over (write_text (symbols_in t os)) before
  -- FORMAT 3.5: the writer is total on symbols that a text may hold, and restores them, but for plain spaces at the end
  pub total : (xs : List Symbol) → all_admitted xs ≡ true → (text_valid (write_text xs) ≡ true) × ((k : ℕ) × (xs ≡ read_text (write_text xs) ++ spaces k))
