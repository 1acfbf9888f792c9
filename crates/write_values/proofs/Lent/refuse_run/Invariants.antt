-- `write_values::Lent::refuse_run`: the fields that were summed.
-- Assumes nothing.
use Rattle.card.specs.Runs.{Summed}
use Rattle.write_values.specs.Lent.{refusal_at}
use Rattle.write_values.proofs.Lent.refuse_run.Given as goal

abbrev pub invariant-loop-j : goal.invariant-loop-j
invariant-loop-j g l = Summed (refusal_at l.self.values.now l.self.word) 10 l.i l.j l.initial.sum l.total
