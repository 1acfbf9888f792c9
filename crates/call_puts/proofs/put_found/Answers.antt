-- `call_puts::put_found` meets its contract.
-- Assumes nothing.
use borrow.Author.Rules.{rules}
use mathlib.Core.Bool.{not}
use mathlib.Core.Path.{◌≡◌, refl, sym, ap, ◌∙◌}
use lib.ListN.{length}
use Rattle.format.specs.Bits.{Bytes}
use Rattle.format.specs.Order.{between}
use Rattle.format.specs.Calls.{edits, put, outputs_of, call_checks}
use Rattle.laws.proofs.Order.{number_passes}
use Rattle.laws.proofs.Results.{bytes_in, err_is}
use Rattle.report.proofs.Found.{id_refused}
use Rattle.call_puts.proofs.Puts.{put_length, put_invalid, put_fine_at, put_done, put_full}
use Rattle.call_puts.proofs.put_found.Goals as goal

pub returns-then-not-contains : goal.returns-then-not-contains
unfolding call_checks outputs_of
returns-then-not-contains c =
    let bytes : Bytes c.args.buffer.now = search (rules, bytes_in) in
    let within : c.contains.result ≡ between 1 15 c.args.id = search rules in
    id_refused _ bytes c.requires (edits (put c.args.id c.args.content.now)) _ refl _ within (ap not c.if-not-contains.true)

pub returns-then-not-contains-2 : goal.returns-then-not-contains-2
returns-then-not-contains-2 c =
    let bytes : Bytes c.args.buffer.now = search (rules, bytes_in) in
    let within : c.contains.result ≡ between 1 15 c.args.id = search rules in
    let known = number_passes 1 15 c.args.id _ within (ap not c.if-not-contains.false) in
    let count : c.contains-2.result ≡ between 1 255 (length c.args.content.now) = search rules in
    put_length _ bytes c.requires _ known _ count (ap not c.if-not-contains-2.true)

pub returns-then-not-content_valid : goal.returns-then-not-content_valid
returns-then-not-content_valid c =
    let bytes : Bytes c.args.buffer.now = search (rules, bytes_in) in
    let within : c.contains.result ≡ between 1 15 c.args.id = search rules in
    let known = number_passes 1 15 c.args.id _ within (ap not c.if-not-contains.false) in
    let count : c.contains-2.result ≡ between 1 255 (length c.args.content.now) = search rules in
    let sized = number_passes 1 255 (length c.args.content.now) _ count (ap not c.if-not-contains-2.false) in
    put_invalid _ bytes c.requires _ known sized _ c.content_valid.ensures (ap not c.if-not-content_valid.true)

pub put_nibbles-requires : goal.put_nibbles-requires
put_nibbles-requires c =
    let bytes : Bytes c.args.buffer.now = search (rules, bytes_in) in
    let within : c.contains.result ≡ between 1 15 c.args.id = search rules in
    let known = number_passes 1 15 c.args.id _ within (ap not c.if-not-contains.false) in
    let count : c.contains-2.result ≡ between 1 255 (length c.args.content.now) = search rules in
    let sized = number_passes 1 255 (length c.args.content.now) _ count (ap not c.if-not-contains-2.false) in
    let valid = sym c.content_valid.ensures ∙ c.if-not-content_valid.false in
    record { marks = _; found = c.requires; fine = put_fine_at _ bytes c.requires _ known sized valid }

pub returns-in_err-put_nibbles : goal.returns-in_err-put_nibbles
returns-in_err-put_nibbles c =
    let bytes : Bytes c.args.buffer.now = search (rules, bytes_in) in
    let within : c.contains.result ≡ between 1 15 c.args.id = search rules in
    let known = number_passes 1 15 c.args.id _ within (ap not c.if-not-contains.false) in
    let count : c.contains-2.result ≡ between 1 255 (length c.args.content.now) = search rules in
    let sized = number_passes 1 255 (length c.args.content.now) _ count (ap not c.if-not-contains-2.false) in
    let valid = sym c.content_valid.ensures ∙ c.if-not-content_valid.false in
    let put = c.put_nibbles.ensures in
    rw (err_is _ _ c.from_residual.ensures.1) (put_full _ bytes c.requires _ known sized valid put.1 _ (sym c.in_err-put_nibbles.was ∙ put.0))

pub returns : goal.returns
returns c =
    let bytes : Bytes c.args.buffer.now = search (rules, bytes_in) in
    let within : c.contains.result ≡ between 1 15 c.args.id = search rules in
    let known = number_passes 1 15 c.args.id _ within (ap not c.if-not-contains.false) in
    let count : c.contains-2.result ≡ between 1 255 (length c.args.content.now) = search rules in
    let sized = number_passes 1 255 (length c.args.content.now) _ count (ap not c.if-not-contains-2.false) in
    let valid = sym c.content_valid.ensures ∙ c.if-not-content_valid.false in
    let put = c.put_nibbles.ensures in
    put_done _ bytes c.requires _ known sized valid put.1 _ (sym c.in_ok-put_nibbles.was ∙ put.0)
