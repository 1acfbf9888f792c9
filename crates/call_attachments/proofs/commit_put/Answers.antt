-- `call_attachments::commit_put` meets its contract.
-- Assumes nothing.
use native.Mathlib.Omega.{arith}
use borrow.Author.Rules.{rules}
use mathlib.Core.Path.{◌∙◌}
use Rattle.format.specs.Bits.{Bytes}
use Rattle.laws.proofs.Results.{bytes_in}
use Rattle.call_attachments.proofs.Returns.{put_small, put_room, lay_room, put_laid}
use Rattle.call_attachments.proofs.commit_put.Goals as goal

pub resize-requires : goal.resize-requires
resize-requires c =
    let bytes : Bytes c.args.buffer.now = search (rules, bytes_in) in
    put_room bytes c.requires.0 c.requires.1

pub lay_attachment-requires : goal.lay_attachment-requires
lay_attachment-requires c =
    let bytes : Bytes c.args.buffer.now = search (rules, bytes_in) in
    let edit = c.requires.0 in
    let small = put_small bytes edit in
    (omega (arith, lay_room bytes edit c.requires.1, c.resize.ensures.1), omega arith, (edit.marks, edit.fine))

pub returns : goal.returns
returns c =
    let bytes : Bytes c.args.buffer.now = search (rules, bytes_in) in
    let laid = c.lay_attachment.ensures in
    put_laid bytes c.requires.0 c.requires.1 _ _ _ c.resize.ensures.0 laid.0 (laid.1 ∙ c.resize.ensures.1) c.set_count.ensures (bytes_in _ c.type_inv.buffer)
