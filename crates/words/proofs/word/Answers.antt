-- `words::word` meets its contract.
-- Assumes nothing.
use Prim.Native.Nat.{ℕ, ◌+◌, ◌<◌}
use native.Mathlib.Omega.{arith}
use lib.ListN.{length}
use borrow.Author.Rules.{rules}
use Rattle.words.proofs.Turned.{byte, next}
use Rattle.words.proofs.word.Goals as goal

pub returns : goal.returns
returns c =
    let s = c.args.s.now in
    let i = c.args.i in
    let more = λ (k : ℕ) (h : i + k < length s). next s (search rules) i k h in
    let h = c.from_be_bytes.ensures in
    omega (
      arith,
      byte s (search rules) i (omega arith),
      more 1 (omega arith),
      more 2 (omega arith),
      more 3 (omega arith),
      more 4 (omega arith),
      more 5 (omega arith),
      more 6 (omega arith),
      more 7 (omega arith),
      h,
    )
