-- `lmr5::lmr5_read_flag` meets its contract.
-- Assumes nothing.
use Rattle.laws.proofs.Results.{bytes_in}
use Rattle.lmr5.proofs.Calls.{call_fits}
use Rattle.lmr5.proofs.lmr5_read_flag.Goals as goal

pub answer_of-requires : goal.answer_of-requires
answer_of-requires c = call_fits _ _ _ _ _ _ c.read_flag.ensures (bytes_in _ c.type_inv.report)
