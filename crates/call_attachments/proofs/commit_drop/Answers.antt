-- `call_attachments::commit_drop` meets its contract.
-- Assumes nothing.
use native.Mathlib.Omega.{arith}
use borrow.Author.Rules.{rules}
use Rattle.format.specs.Bits.{Bytes}
use Rattle.laws.proofs.Report.{within}
use Rattle.laws.proofs.Results.{bytes_in}
use Rattle.call_attachments.proofs.Returns.{remove_edit, remove_room, remove-laid}
use Rattle.call_attachments.proofs.commit_drop.Goals as goal

pub resize-requires : goal.resize-requires
resize-requires c =
    let bytes : Bytes c.args.buffer.now = search (rules, bytes_in) in
    remove_room _ bytes c.requires.0.1 _ c.requires.1

pub set_count-requires : goal.set_count-requires
set_count-requires c =
    let bytes : Bytes c.args.buffer.now = search (rules, bytes_in) in
    let found = c.requires.0.1 in
    (omega (arith, (within _ _ _ bytes found.judged).0, c.resize.ensures.1), (remove_edit _ bytes found _ c.requires.1).count_lt)

pub returns : goal.returns
returns c =
    let bytes : Bytes c.args.buffer.now = search (rules, bytes_in) in
    remove-laid _ bytes c.requires.0.1 _ c.requires.1 _ _ c.resize.ensures.0 c.resize.ensures.1 c.set_count.ensures (bytes_in _ c.type_inv.buffer)
