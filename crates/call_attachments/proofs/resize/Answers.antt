-- `call_attachments::resize` meets its contract.
-- Assumes nothing.
use mathlib.Core.Path.{ap₂, ◌∙◌}
use Prim.Native.Nat.{max}
use Rattle.format.specs.Nibbles.{nibbles}
use Rattle.laws.proofs.Nibbles.{length-nibbles}
use Rattle.call_attachments.proofs.Edits.{resize_is}
use Rattle.call_attachments.proofs.resize.Goals as goal

pub returns : goal.returns
returns c =
    let buffer = c.args.buffer.now in
    let cleared = c.max-cleared.ensures ∙ ap₂ max c.div_ceil.ensures c.div_ceil-2.ensures in (
      resize_is (nibbles buffer) c.requires (length-nibbles buffer) cleared c.shift.ensures.0 c.clear.ensures.0,
      c.clear.ensures.1 ∙ c.shift.ensures.1,
    )
