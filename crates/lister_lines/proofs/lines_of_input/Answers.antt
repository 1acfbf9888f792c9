-- `lister_lines::lines_of_input` meets its contract: a longer input is cut.
-- Assumes nothing.
use Rattle.std.proofs.Common.{arith, ◌∙◌, sym, length-take-le}
use Rattle.format.specs.Lister.{listing}
use Rattle.lister_lines.proofs.Lines.{listing-short}
use Rattle.lister_lines.proofs.lines_of_input.Goals as goal

pub slice_bounds-lines_of-end : goal.slice_bounds-lines_of-end
slice_bounds-lines_of-end c = sym (length-take-le 1856 c.args.input.now (omega arith))

pub returns-then-input-gt-COUNTING : goal.returns-then-input-gt-COUNTING
unfolding listing
returns-then-input-gt-COUNTING c = c.lines_of.ensures

pub returns : goal.returns
returns c = c.lines_of-2.ensures ∙ listing-short c.args.input.now (omega arith)
