-- `text_display::read_out` meets its contract.
-- Assumes nothing.
use native.Mathlib.Omega.{arith}
use mathlib.Core.List.{[]}
use mathlib.Core.Logic.{inl, inr}
use Rattle.std.proofs.lemmas.Iterator.Consumers.{YieldsList-from_first, count_from_yields_List}
use mathlib.Core.Path.{refl}
use Rattle.laws.proofs.Results.{bytes_in}
use Rattle.text_display.specs.Steps.{steps_left}
use Rattle.text_display.proofs.Readings.{opened_left, opening_refused, opening_fine, all_fit, reading_short, reading_done}
use Rattle.text_display.proofs.read_out.Goals as goal

pub returns-in-Some : goal.returns-in-Some
returns-in-Some c = opening_refused _ _ _ c.open-reader.ensures.2 (bytes_in _ c.type_inv.buffer) _ _ _ c.in-Some.is

pub count-count-requires-clause-fits : goal.count-count-requires-clause-fits
count-count-requires-clause-fits c =
    let opens = c.open-reader.ensures in
    let bytes = bytes_in _ c.type_inv.buffer in
    let fine = opening_fine _ _ _ opens.2 bytes c.in_default.is in
    inl (omega (arith, all_fit _ _ _ opens.2 bytes [] [] fine _ (opened_left c.open-reader.result _ opens.0 opens.1)))

pub returns-then-out-count : goal.returns-then-out-count
returns-then-out-count c =
    let opens = c.open-reader.ensures in
    let bytes = bytes_in _ c.type_inv.buffer in
    let fine = opening_fine _ _ _ opens.2 bytes c.in_default.is in
    let steps = steps_left c.open-reader.result in
    let count = count_from_yields_List _ _ c.count-count.ensures.ran (YieldsList-from_first (λ x. x) steps_left steps refl) in
    reading_short _ _ _ opens.2 bytes _ _ fine steps (opened_left c.open-reader.result _ opens.0 opens.1) (inl (omega (arith, count, c.if-out-count.true)))

pub returns-then-origins-count : goal.returns-then-origins-count
returns-then-origins-count c =
    let opens = c.open-reader.ensures in
    let bytes = bytes_in _ c.type_inv.buffer in
    let fine = opening_fine _ _ _ opens.2 bytes c.in_default.is in
    let steps = steps_left c.open-reader.result in
    let count = count_from_yields_List _ _ c.count-count.ensures.ran (YieldsList-from_first (λ x. x) steps_left steps refl) in
    reading_short _ _ _ opens.2 bytes _ _ fine steps (opened_left c.open-reader.result _ opens.0 opens.1) (inr (omega (arith, count, c.if-origins-count.true)))

pub overflow_cast-nibbles : goal.overflow_cast-nibbles
overflow_cast-nibbles c =
    let fine = opening_fine _ _ _ c.open-reader.ensures.2 (bytes_in _ c.type_inv.buffer) c.in_default.is in
    omega (arith, fine.apart, fine.byte)

pub deck_set-requires : goal.deck_set-requires
deck_set-requires c = (_, (opening_fine _ _ _ c.open-reader.ensures.2 (bytes_in _ c.type_inv.buffer) c.in_default.is).report)

pub returns : goal.returns
returns c =
    let opens = c.open-reader.ensures in
    let bytes = bytes_in _ c.type_inv.buffer in
    let fine = opening_fine _ _ _ opens.2 bytes c.in_default.is in
    let steps = steps_left c.open-reader.result in
    let count = count_from_yields_List _ _ c.count-count.ensures.ran (YieldsList-from_first (λ x. x) steps_left steps refl) in
    reading_done _ _ _ opens.2 bytes _ _ fine steps (opened_left c.open-reader.result _ opens.0 opens.1) _ _ _ _ count c.if-out-count.false c.if-origins-count.false
    c.write_out.ensures c.deck_set.ensures
