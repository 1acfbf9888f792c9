-- What a body of ship text and rows of symbols are to each other: the laws of reader and writer.
-- Assumes nothing.
use Prim.Native.Nat.{ℕ}
use mathlib.Core.Path.{◌≡◌, sym, ◌∙◌}
use mathlib.Core.Bool.{Bool}
use mathlib.Core.List.{List}
use Rattle.format.specs.ShipText.{text_valid}
use Rattle.laws.proofs.Sequences.{true_false}
use Rattle.laws.proofs.ShipText.{valid_written, written_valid}
use Rattle.text.specs.Answers.{Writable}

pub writable : (ns : List ℕ) (t : Bool) → t ≡ text_valid ns → Writable t ns
writable ns t e = record {
  some_text = λ q. valid_written ns (sym e ∙ q);
  no_text = λ q u h w. true_false (text_valid ns) (written_valid u ns h w) (sym e ∙ q);
}
