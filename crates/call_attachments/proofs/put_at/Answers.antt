-- `call_attachments::put_at` meets its contract.
-- Assumes nothing.
use native.Mathlib.Omega.{arith}
use borrow.Author.Rules.{rules}
use Rattle.format.specs.Bits.{Bytes}
use Rattle.laws.proofs.Results.{bytes_in}
use Rattle.call_attachments.proofs.Returns.{put_small, put_refused, put_done_lem}
use Rattle.call_attachments.proofs.put_at.Goals as goal

pub overflow_add-nibbles-2 : goal.overflow_add-nibbles-2
overflow_add-nibbles-2 c =
    let bytes : Bytes c.args.buffer.now = search (rules, bytes_in) in
    let small = put_small bytes c.requires in
    omega arith

pub returns-then-buffer-div_ceil : goal.returns-then-buffer-div_ceil
returns-then-buffer-div_ceil c =
    let bytes : Bytes c.args.buffer.now = search (rules, bytes_in) in
    put_refused bytes c.requires (omega arith)

pub returns : goal.returns
returns c =
    let bytes : Bytes c.args.buffer.now = search (rules, bytes_in) in
    put_done_lem bytes c.requires (omega arith) _ c.commit_put.ensures
