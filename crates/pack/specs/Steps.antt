-- What the parts of pack know and answer.
use Rattle.std.specs.Prelude.{ℕ, ◌≤◌, ◌≡◌, true, false, List, [], length, ℤ, Result, Ok, Err}
use Rattle.std.proofs.Math.Option.{Option, none, some}
use Rattle.format.specs.Order.{Refusal, first}
use Rattle.format.specs.Field.{table}
use Rattle.format.specs.Flags.{FlagTable}
use Rattle.format.specs.Report.{attachment_checks}
use Rattle.format.specs.Calls.{all_nibbles}
use Rattle.format.specs.Whole.{bit_outside, pack_checks, count_in, Wrote, pack}

-- the first refusal of a field, or that there is none
abbrev pub checked_by : Option Refusal → Result Unit Refusal
checked_by (some r) = Err r
checked_by none = Ok tt

unfoldable pub fields_checked : List ℤ → ℕ → Result Unit Refusal
fields_checked values word = checked_by (first (pack_checks 1 table word values))

-- the values and the word have passed
pub record FieldsPass (values : List ℤ) (word : ℕ) : Type 0 where
  pub long : 46 ≤ length values
  pub inside : bit_outside word ≡ false
  pub fields : first (pack_checks 1 table word values) ≡ none

-- the tail has passed too
pub record TailPasses (marks : FlagTable) (values : List ℤ) (word : ℕ) (ns : List ℕ) : Type 0 where
  pub passed : FieldsPass values word
  pub nibbles : all_nibbles ns ≡ true
  pub attachments : first (attachment_checks marks (count_in ns) 1 [] ns) ≡ none

abbrev pub TailPassesBySome : List ℤ → ℕ → List ℕ → Type 0
TailPassesBySome values word ns = (marks : FlagTable) × TailPasses marks values word ns

-- what packing leaves, under every table by which the tail has passed
abbrev pub Packs : List ℤ → ℕ → ℕ → List ℕ → List ℕ → Wrote → Type 0
Packs values word rptin ns out w = (marks : FlagTable) → TailPasses marks values word ns → w ≡ pack marks values word rptin ns out
