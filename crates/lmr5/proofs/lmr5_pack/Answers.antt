-- `lmr5::lmr5_pack` meets its contract.
-- Assumes nothing.
use Prim.Native.Nat.{ℕ}
use Rattle.laws.proofs.Results.{bytes_in}
use Rattle.lmr5.proofs.Calls.{pack_fits}
use Rattle.lmr5.proofs.lmr5_pack.Goals as goal

pub sized-requires : goal.sized-requires
sized-requires c = λ (n : ℕ) e. pack_fits _ _ _ _ _ _ _ _ _ c.pack.ensures e c.ranges.rptin.fits (bytes_in _ c.type_inv.out)
