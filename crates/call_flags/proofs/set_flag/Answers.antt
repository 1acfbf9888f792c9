-- `call_flags::set_flag` meets its contract.
-- Assumes nothing.
use Rattle.format.specs.Bits.{Bytes}
use mathlib.Core.Path.{refl}
use borrow.Author.Rules.{rules}
use Rattle.format.specs.Calls.{edits, set_flag, outputs_of}
use Rattle.laws.proofs.Results.{err_is}
use Rattle.laws.proofs.Former.{sets_flag, former_read}
use Rattle.report.proofs.Found.{inspect_refused, inspect_found}
use Rattle.call_flags.proofs.set_flag.Goals as goal

pub returns-in_err-found : goal.returns-in_err-found
unfolding outputs_of
returns-in_err-found c =
    rw (err_is _ _ c.from_residual.ensures.1)
    (inspect_refused _ _ _ _ c.inspect.ensures _ (edits (set_flag c.args.flag c.args.value)) c.in_err-found.was, refl)

pub set_flag_of-requires : goal.set_flag_of-requires
set_flag_of-requires c = inspect_found _ _ _ _ c.inspect.ensures _ c.in_ok-found.was

pub returns : goal.returns
returns c = let before : Bytes c.args.buffer.now = search rules in (c.set_flag_of.ensures, former_read _ _ before sets_flag _ _ c.set_flag_of.ensures)
