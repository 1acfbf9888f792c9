-- FORMAT 7.9: the costliest text of so many symbols, and what every text takes at most.
use Rattle.std.specs.Prelude.{ℕ, ◌*◌, ◌≤◌, ◌≡◌, true, false, ◌||◌, List, [], ◌∷◌, length, replicate, ltb}
use Rattle.std.proofs.Math.Option.{Option, none, some}
use Rattle.format.specs.Order.{Refusal, Check, check, first, between}
use Rattle.format.specs.Bits.{Bytes}
use Rattle.format.specs.Flags.{FlagTable}
use Rattle.format.specs.ShipText.{Symbol, symbols_in, nibble_count, ends_in_space}
use Rattle.format.specs.Calls.{edits, put_text, symbols_check, Answer, over}
use Rattle.format.specs.Buffer.{effect}
use Rattle.format.specs.Reply.{refusal}

-- ---- the call: m symbols, to two outputs

-- 9: m over 85. 13: either output shorter than m
unfoldable pub costliest_checks : ℕ → List ℕ → List ℕ → List Check
costliest_checks m out origins = check (ltb 85 m) 9 0 ∷ check (ltb (length out) m || ltb (length origins) m) 13 0 ∷ []

unfoldable pub costliest_refusal : ℕ → List ℕ → List ℕ → Option Refusal
costliest_refusal m out origins = first (costliest_checks m out origins)

-- bytes and marks of origin of m symbols that 14 of put text does not refuse, and that take 3 m nibbles
pub record Costly (m : ℕ) (t os : List ℕ) : Type 0 where
  pub as_many_bytes : length t ≡ m
  pub as_many_marks : length os ≡ m
  pub unrefused : (symbols_check t os).fits ≡ false
  pub nibbles : nibble_count (symbols_in t os) ≡ 3 * m

-- both outputs after the call. Refused, it leaves them. Else such bytes and marks of origin stand at their fronts, and the rest
-- stays. The marks are then all 1, by `all_original` below; the bytes are the program's choice
abbrev pub WrittenBy : Option Refusal → ℕ → List ℕ → List ℕ → List ℕ → List ℕ → Type 0
WrittenBy (some r) m out origins out' origins' = (out' ≡ out) × (origins' ≡ origins)
WrittenBy none m out origins out' origins' =
    (t : List ℕ) × (os : List ℕ) × Costly m t os × (out' ≡ over t out) × (origins' ≡ over os origins)

-- ---- of all texts

-- 1 to 85 symbols, of which the last is no plain space
pub record UpTo85 (xs : List Symbol) : Type 0 where
  pub few : between 1 85 (length xs) ≡ true
  pub kept : ends_in_space xs ≡ false

-- put text does not answer such a row with 12
abbrev pub Never12 : List Symbol → Answer → Type 0
Never12 xs a = UpTo85 xs → (p : ℕ) → a ≡ refusal 12 p → ⊥

pub record Limits : Type 0 where
  -- no row takes over 3 nibbles a symbol
  pub most : (xs : List Symbol) → nibble_count xs ≤ 3 * length xs
  -- a text that takes so many is original throughout
  pub all_original : (m : ℕ) (t os : List ℕ) → Costly m t os → os ≡ replicate m 1
  -- and whichever its bytes are, it takes so many
  pub any_bytes : (t : List ℕ) → Bytes t → Costly (length t) t (replicate (length t) 1)
  pub within : (xs : List Symbol) → UpTo85 xs → between 1 255 (nibble_count xs) ≡ true
  -- whatever the table and the buffer
  pub never_12 : (marks : FlagTable) (b t os : List ℕ) → Never12 (symbols_in t os) (effect marks b (edits (put_text t os))).answer

-- what the call leaves, and what holds of all texts
pub record CostliestLeaves (m : ℕ) (out origins out' origins' : List ℕ) : Type 0 where
  pub written : WrittenBy (costliest_refusal m out origins) m out origins out' origins'
  pub limits : Limits
