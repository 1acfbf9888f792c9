-- `flags::quality` meets its contract.
-- Assumes nothing.
use native.Mathlib.Omega.{arith}
use mathlib.Core.Path.{sym, ap, ◌∙◌}
use Rattle.format.specs.Flags.{quality_code}
use Rattle.nibble.specs.View.{part}
use Rattle.nibble.proofs.View.{part-take}
use Rattle.flags.proofs.Body.{body_flags}
use Rattle.flags.proofs.quality.Goals as goal

pub returns : goal.returns
returns c =
    let b = c.args.s.now in
    let here = c.args.c in
    let e = body_flags (part b here 16) c.sixteen-w.result c.sixteen-w.ensures in
    c.code_of.ensures.0 ∙ ap quality_code (sym e ∙ part-take b here 14 16 (omega arith))
