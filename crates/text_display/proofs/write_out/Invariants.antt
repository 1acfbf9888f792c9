-- `text_display::write_out` meets its contract.
-- Assumes nothing.
use mathlib.Core.Path.{◌≡◌}
use mathlib.Core.List.{List, map}
use lib.Seq.{sets}
use Rattle.text_display.specs.declared.Step.{Step}
use Rattle.text_display.specs.Reading.{byte_given, mark_given}
use Rattle.text_display.proofs.write_out.Given as goal

abbrev pub invariant-loop-place : goal.invariant-loop-place
invariant-loop-place l =
    let steps : List Step = map (λ p. p.1) l.yielded in
    (l.out ≡ sets l.initial.out 0 (map byte_given steps)) × (l.origins ≡ sets l.initial.origins 0 (map mark_given steps))
