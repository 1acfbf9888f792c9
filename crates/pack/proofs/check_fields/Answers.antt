-- `pack::check_fields` meets its contract: no field is refused where all pass.
-- Assumes nothing.
use borrow.Author.Tests.{eqb-true}
use mathlib.Core.Path.{sym, ◌∙◌}
use Rattle.pack.proofs.Checks.{none_refused}
use Rattle.pack.proofs.check_fields.Goals as goal

pub returns-then-all_pass : goal.returns-then-all_pass
returns-then-all_pass c = none_refused c.args.lent.values.now c.args.lent.word c.args.lent.long (eqb-true _ 0 (sym c.all_pass.ensures ∙ c.if-all_pass.true))
