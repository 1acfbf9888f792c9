-- `checks::FieldWords::checksum` meets its contract: the masks are those of the field table.
-- Assumes nothing.
use Prim.Native.Nat.{ℕ, ◌%◌}
use mathlib.Core.Path.{ap, ◌∙◌}
use Rattle.format.specs.Bits.{total}
use Rattle.format.specs.Field.{table}
use Rattle.format.specs.Observation.{widths}
use Rattle.checks.specs.Parts.{part_at, picked, laid, at_place, summed}
use Rattle.checks.proofs.Places.{at_place_lem, first-place, plus}
use Rattle.checks.proofs.FieldWords.checksum.Goals as goal

pub returns : goal.returns
unfolding summed at_place laid picked part_at total widths table
returns c =
    let p₀ = first-place c.kept-t.ensures.0 in
    let p₁ = at_place_lem 1 c.kept.ensures.0 in
    let p₂ = at_place_lem 2 c.kept-2.ensures.0 in
    let p₃ = at_place_lem 3 c.kept-3.ensures.0 in
    let p₄ = at_place_lem 4 c.kept-4.ensures.0 in
    let p₅ = at_place_lem 5 c.kept-5.ensures.0 in
    let p₆ = at_place_lem 6 c.kept-6.ensures.0 in
    let p₇ = at_place_lem 7 c.kept-7.ensures.0 in
    c.remainder.ensures.0 ∙ ap (λ (n : ℕ). n % 255) (plus (plus (plus (plus (plus (plus (plus p₀ p₁) p₂) p₃) p₄) p₅) p₆) p₇)
