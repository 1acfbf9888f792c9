-- `write_values::Passed::write_run`: the fields that were written.
-- Assumes nothing.
use Rattle.write_values.specs.Lent.{CodesWritten}
use Rattle.write_values.proofs.Passed.write_run.Given as goal

abbrev pub invariant-loop-j : goal.invariant-loop-j
invariant-loop-j g l = CodesWritten l.self.lent.values.now l.self.lent.word l.i l.j l.initial.buffer l.buffer l.initial.sum l.total
