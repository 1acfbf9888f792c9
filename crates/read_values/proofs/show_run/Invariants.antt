-- `read_values::show_run`: the fields that were shown.
-- Assumes nothing.
use Rattle.read_values.specs.Values.{ValuesRead}
use Rattle.read_values.proofs.show_run.Given as goal

abbrev pub invariant-loop-j : goal.invariant-loop-j
invariant-loop-j g l = ValuesRead l.buffer l.i l.j l.initial.values l.values l.initial.word l.sum
