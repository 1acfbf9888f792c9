-- A body of ship text and the symbols read of it: the laws of reader and writer.
-- Assumes nothing.
use Prim.Native.Nat.{ℕ}
use mathlib.Core.Path.{◌∙◌}
use mathlib.Core.List.{List}
use Rattle.format.specs.ShipText.{read_text}
use Rattle.laws.proofs.ShipText.{text_back, text_admitted, text_trailing, strip_tail, shortest}
use Rattle.text_reader.specs.Answers.{Shortest}

pub read_shortest : (ns : List ℕ) → Shortest (read_text ns) ns
read_shortest ns = record {
  gives = λ v. (text_admitted ns v, λ k. text_trailing (read_text ns) k ∙ text_back ns v);
  only = strip_tail ns;
  least = shortest ns;
}
