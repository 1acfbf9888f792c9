-- `call_flags::read_flag` meets its contract.
-- Assumes nothing.
use Rattle.format.specs.Calls.{reads, read_flag, outputs_of}
use Rattle.laws.proofs.Results.{err_is}
use Rattle.report.proofs.Found.{inspect_refused, inspect_found}
use Rattle.call_flags.proofs.read_flag.Goals as goal

pub returns-in_err-found : goal.returns-in_err-found
unfolding outputs_of
returns-in_err-found c =
    rw (err_is _ _ c.from_residual.ensures.1) (inspect_refused _ _ _ _ c.inspect.ensures _ (reads (read_flag c.args.flag)) c.in_err-found.was)

pub flag_of-requires : goal.flag_of-requires
flag_of-requires c = (_, inspect_found _ _ _ _ c.inspect.ensures _ c.in_ok-found.was)

pub returns : goal.returns
returns c = c.flag_of.ensures _ (inspect_found _ _ _ _ c.inspect.ensures _ c.in_ok-found.was).judged
