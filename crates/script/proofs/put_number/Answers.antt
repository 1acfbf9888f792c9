-- `script::put_number` meets its contract.
-- Assumes nothing.
use Prim.Native.Nat.{ℕ}
use mathlib.Core.Path.{sym, ap, ◌∙◌}
use mathlib.Core.List.{List, ◌++◌}
use lib.ListN.{drop}
use Rattle.script.specs.Script.{bytes8}
use Rattle.script.proofs.Numbers.{be_bytes8, length-bytes8}
use Rattle.script.proofs.put_number.Goals as goal

pub returns : goal.returns
returns c =
    let to = c.args.to.now in
    let n = c.args.number in
    ap (λ (l : List ℕ). l ++ drop 8 to) (c.copy_from_slice.ensures.after ∙ c.to_be_bytes.ensures ∙ be_bytes8 n)
    ∙ ap (λ (k : ℕ). bytes8 n ++ drop k to) (sym (length-bytes8 n))
