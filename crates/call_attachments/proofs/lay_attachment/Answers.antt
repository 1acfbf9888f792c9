-- `call_attachments::lay_attachment` meets its contract.
-- Assumes nothing.
use native.Mathlib.Omega.{arith}
use mathlib.Core.Path.{◌∙◌}
use Rattle.format.specs.Nibbles.{nibbles}
use Rattle.laws.proofs.Nibbles.{length-nibbles}
use Rattle.call_attachments.proofs.Edits.{attachment-laid}
use Rattle.call_attachments.proofs.lay_attachment.Goals as goal

pub returns : goal.returns
returns c =
    let args = c.args in
    let before = args.buffer.now in
    let high = c.put.ensures in
    let low = c.put-2.ensures in
    let id = c.put-3.ensures in
    let lay = c.lay.ensures in (
      attachment-laid (nibbles before) args.content.now args.at args.id (omega (arith, length-nibbles before, c.requires.0)) high.0 low.0 id.0 lay.0,
      lay.1 ∙ id.1 ∙ low.1 ∙ high.1,
    )
