-- `text_display::write_out` meets its contract.
-- Assumes nothing.
use Prim.Native.Nat.{ℕ}
use mathlib.Core.Path.{ap, ◌∙◌}
use lib.ListN.{set}
use Rattle.std.proofs.Common.{rules}
use Rattle.std.proofs.lemmas.Iterator.Consumers.{YieldsList-from_first, YieldsList-from_enumerate, YieldsList-turn, YieldsList-end}
use Rattle.text_display.specs.Reading.{byte_given, mark_given}
use Rattle.text_display.specs.Steps.{steps_left}
use Rattle.text_display.proofs.Writing.{place_is, store_step, store_all}
use Rattle.text_display.proofs.write_out.Goals as goal

pub loop-place-preserved : goal.loop-place-preserved
loop-place-preserved c =
    let steps = steps_left c.args.reader in
    let road = YieldsList-from_enumerate {s = c.into_iter-place-iterator.result} (YieldsList-from_first (λ x. x) steps_left steps (search rules)) (search rules) in
    let turn = YieldsList-turn road c.loop-place.yielded _ c.loop-place.yielded_by _ c.next.new.self _ c.in-Some.is c.next.ensures.steps in
    let place = place_is steps _ _ _ turn.0 turn.1 in (
      store_step byte_given _ _ _ _ _ place c.loop-place.invariant.0,
      ap (λ (n : ℕ). set c.loop-place.origins c.in-Some.place n) c.mark-mark.ensures ∙ store_step mark_given _ _ _ _ _ place c.loop-place.invariant.1,
    )

pub returns : goal.returns
returns c =
    let steps = steps_left c.args.reader in
    let road = YieldsList-from_enumerate {s = c.into_iter-place-iterator.result} (YieldsList-from_first (λ x. x) steps_left steps (search rules)) (search rules) in
    let end = YieldsList-end road c.loop-place.yielded _ c.loop-place.yielded_by _ c.next.new.self c.in-None.is c.next.ensures.steps in (
      store_all byte_given steps _ _ _ end.0 c.requires.0 c.loop-place.invariant.0,
      store_all mark_given steps _ _ _ end.0 c.requires.1 c.loop-place.invariant.1,
    )
