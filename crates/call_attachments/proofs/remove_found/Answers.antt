-- `call_attachments::remove_found` meets its contract.
-- Assumes nothing.
use borrow.Author.Rules.{rules}
use mathlib.Core.Path.{◌≡◌, refl, ap}
use mathlib.Core.Bool.{not}
use mathlib.Core.List.{[], ◌∷◌}
use Rattle.format.specs.Bits.{Bytes}
use Rattle.format.specs.Order.{between}
use Rattle.format.specs.Calls.{edits, remove, outputs_of, id_check, call_checks}
use Rattle.laws.proofs.Order.{first-nil, no_check, number_passes}
use Rattle.laws.proofs.Results.{bytes_in}
use Rattle.report.proofs.Found.{found_by, id_refused, missing}
use Rattle.call_attachments.proofs.Returns.{remove_done}
use Rattle.call_attachments.proofs.remove_found.Goals as goal

pub returns-then-not-contains : goal.returns-then-not-contains
unfolding call_checks outputs_of
returns-then-not-contains c marks a =
    let bytes : Bytes c.args.buffer.now = search (rules, bytes_in) in
    let within : c.contains.result ≡ between 1 15 c.args.id = search rules in
    id_refused _ bytes (found_by c.requires.1 a) (edits (remove c.args.id)) _ refl _ within (ap not c.if-not-contains.true)

pub returns-in_default : goal.returns-in_default
unfolding call_checks outputs_of
returns-in_default c marks a =
    let bytes : Bytes c.args.buffer.now = search (rules, bytes_in) in
    let id = c.args.id in
    let within : c.contains.result ≡ between 1 15 id = search rules in
    let known = number_passes 1 15 id _ within (ap not c.if-not-contains.false) in
    missing _ bytes (found_by c.requires.1 a) (edits (remove id)) (id_check id ∷ []) refl (no_check (id_check id) [] known first-nil) (search rules)

pub returns : goal.returns
returns c marks a =
    let bytes : Bytes c.args.buffer.now = search (rules, bytes_in) in
    let within : c.contains.result ≡ between 1 15 c.args.id = search rules in
    let known = number_passes 1 15 c.args.id _ within (ap not c.if-not-contains.false) in
    remove_done _ bytes (found_by c.requires.1 a) _ c.in-Some.is _ known c.commit_drop.ensures
