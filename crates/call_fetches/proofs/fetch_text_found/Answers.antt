-- `call_fetches::fetch_text_found` meets its contract.
-- Assumes nothing.
use native.Mathlib.Omega.{arith}
use mathlib.Core.List.{[]}
use mathlib.Core.Path.{refl, sym, ap, ◌∙◌}
use borrow.Author.Rules.{rules}
use borrow.Author.Tests.{leb-true}
use lib.Dec.{leb}
use Rattle.format.specs.Calls.{fetches, fetch_text, outputs_of, call_checks}
use Rattle.format.specs.ShipText.{set_number}
use Rattle.laws.proofs.Order.{first-nil}
use Rattle.laws.proofs.Results.{bytes_in}
use Rattle.report.proofs.Found.{found_by, reach, missing}
use Rattle.call_fetches.proofs.Fetches.{within_both, body_valid_lem, text_short, text_fetched}
use Rattle.call_fetches.proofs.fetch_text_found.Goals as goal

pub returns-in_default : goal.returns-in_default
unfolding call_checks outputs_of
returns-in_default c marks a =
    let call = fetches (fetch_text c.args.out.now c.args.origins.now) in
    missing _ (bytes_in _ c.type_inv.buffer) (found_by c.requires.1 a) call [] refl first-nil (search rules)

pub invariant_of-body : goal.invariant_of-body
invariant_of-body c =
    let bytes = bytes_in _ c.type_inv.buffer in
    let inside = reach _ bytes c.requires.1 _ c.in-Some.is in
    record {
      inside = omega (arith, inside.0);
      near = omega (arith, inside.1);
      short = omega (arith, inside.1);
      valid = body_valid_lem _ bytes c.requires.1 _ c.in-Some.is;
    }

pub read-count-requires : goal.read-count-requires
read-count-requires c = within_both _ _ _ _ c.min-room.ensures (leb-true _ _ (sym c.fits.ensures ∙ c.if-not-fits.false))

pub returns-then-not-fits : goal.returns-then-not-fits
returns-then-not-fits c marks a =
    let fits = c.fits.ensures ∙ ap (leb _) c.min-room.ensures in
    text_short _ (bytes_in _ c.type_inv.buffer) (found_by c.requires.1 a) _ c.in-Some.is _ _ _ fits c.if-not-fits.true

pub returns : goal.returns
returns c marks a =
    let fits = c.fits.ensures ∙ ap (leb _) c.min-room.ensures in
    let read = c.read-count.ensures in
    text_fetched _ (bytes_in _ c.type_inv.buffer) (found_by c.requires.1 a) _ c.in-Some.is _ _ _ fits _ _ _ _ c.if-not-fits.false
    (read.0, read.1, read.2) (ap set_number c.deck_set.ensures)
