-- `call_fetches::fetch_found` meets its contract.
-- Assumes nothing.
use native.Mathlib.Omega.{arith}
use borrow.Author.Rules.{rules}
use mathlib.Core.Bool.{not}
use mathlib.Core.List.{[], ◌∷◌}
use mathlib.Core.Path.{◌≡◌, refl, ap}
use Rattle.format.specs.Order.{between}
use Rattle.format.specs.Calls.{fetches, fetch, outputs_of, id_check, call_checks}
use Rattle.laws.proofs.Order.{first-nil, no_check, number_passes}
use Rattle.laws.proofs.Results.{bytes_in}
use Rattle.report.proofs.Found.{found_by, reach, id_refused, missing}
use Rattle.call_fetches.proofs.Fetches.{output_short, content_fetched}
use Rattle.call_fetches.proofs.fetch_found.Goals as goal

pub returns-then-not-contains : goal.returns-then-not-contains
unfolding call_checks outputs_of
returns-then-not-contains c marks a =
    let within : c.contains.result ≡ between 1 15 c.args.id = search rules in
    let call = fetches (fetch c.args.id c.args.out.now) in
    id_refused _ (bytes_in _ c.type_inv.buffer) (found_by c.requires.1 a) call _ refl _ within (ap not c.if-not-contains.true)

pub returns-in_default : goal.returns-in_default
unfolding call_checks outputs_of
returns-in_default c marks a =
    let id = c.args.id in
    let within : c.contains.result ≡ between 1 15 id = search rules in
    let known = number_passes 1 15 id _ within (ap not c.if-not-contains.false) in
    let call = fetches (fetch id c.args.out.now) in
    missing _ (bytes_in _ c.type_inv.buffer) (found_by c.requires.1 a) call (id_check id ∷ []) refl (no_check (id_check id) [] known first-nil) (search rules)

pub returns-then-out-held : goal.returns-then-out-held
returns-then-out-held c marks a =
    let id = c.args.id in
    let within : c.contains.result ≡ between 1 15 id = search rules in
    let known = number_passes 1 15 id _ within (ap not c.if-not-contains.false) in
    output_short _ (bytes_in _ c.type_inv.buffer) (found_by c.requires.1 a) _ c.in-Some.is known _ (omega arith)

pub fetch-requires : goal.fetch-requires
fetch-requires c =
    let inside = reach _ (bytes_in _ c.type_inv.buffer) c.requires.1 _ c.in-Some.is in
    (omega (arith, inside.0), omega (arith, inside.1), omega arith)

pub returns : goal.returns
returns c marks a =
    let id = c.args.id in
    let within : c.contains.result ≡ between 1 15 id = search rules in
    let known = number_passes 1 15 id _ within (ap not c.if-not-contains.false) in
    content_fetched _ (bytes_in _ c.type_inv.buffer) (found_by c.requires.1 a) _ c.in-Some.is known _ _ (omega arith) c.fetch.ensures
