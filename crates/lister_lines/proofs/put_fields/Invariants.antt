-- The lines so far, and those still to put behind them, are all of them.
use Rattle.std.proofs.Common.{◌≡◌, ◌++◌, ◌-◌}
use Rattle.lister_lines.specs.Lines.{value_lines}
use Rattle.lister_lines.proofs.put_fields.Given as goal

abbrev pub invariant-loop-number : goal.invariant-loop-number
invariant-loop-number l = l.lines ++ value_lines l.buffer (l.number - 1) ≡ l.initial.lines ++ value_lines l.buffer 0
