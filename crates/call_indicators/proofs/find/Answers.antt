-- `call_indicators::find` meets its contract.
-- Assumes nothing.
use mathlib.Core.Path.{sym, subst}
use Rattle.format.specs.Finding.{Ascends}
use Rattle.laws.proofs.Clearing.{find_ascends}
use Rattle.laws.proofs.Effects.{refused_accepted}
use Rattle.laws.proofs.Results.{err_is}
use Rattle.report.proofs.Found.{inspect_found}
use Rattle.call_indicators.proofs.Lists.{find_refused}
use Rattle.call_indicators.proofs.find.Goals as goal

pub returns-in_err-found : goal.returns-in_err-found
returns-in_err-found c = rw (err_is _ _ c.from_residual.ensures.1) (find_refused _ _ _ _ _ c.in_err-found.ensures, λ n e. refused_accepted _ _ e)

pub find_in-requires : goal.find_in-requires
find_in-requires c = (_, inspect_found _ _ _ _ c.inspect.ensures _ c.in_ok-found.was)

pub returns : goal.returns
returns c =
    let done = c.find_in.ensures _ (inspect_found _ _ _ _ c.inspect.ensures _ c.in_ok-found.was).judged in
    (done, subst Ascends (sym done) (find_ascends _ _ _))
