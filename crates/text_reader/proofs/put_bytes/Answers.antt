-- `text_reader::put_bytes` meets its contract.
-- Assumes nothing.
use Prim.Native.Nat.{ℕ, ◌+◌, ◌-◌, ◌≤◌}
use native.Mathlib.Omega.{arith}
use mathlib.Core.Path.{◌≡◌, sym, ◌∙◌}
use mathlib.Core.List.{List}
use lib.ListN.{length, replicate, length-replicate}
use lib.Seq.{sets, sets-eq}
use borrow.Author.Rules.{rules}
use borrow.Rule.Slice.PartMut.{put_mid}
use Rattle.std.proofs.lemmas.List.{take-replicate}
use Rattle.std.proofs.lemmas.Slice.{put_mid-paste}
use Rattle.text_reader.proofs.put_bytes.Goals as goal

filled : (d ys : List ℕ) (at count b : ℕ) → at + count ≤ length d → ys ≡ replicate count b → put_mid at ((at + count) - at) d ys ≡ sets d at (replicate count b)
filled d ys at count b h e =
    let n : count ≡ length (replicate {A = ℕ} count b) = sym (length-replicate {A = ℕ} count b) in
    put_mid-paste at ((at + count) - at) d ys (replicate count b) count e (omega arith) n
    ∙ rw (take-replicate count count b (omega arith), sets-eq (replicate count b) d at (omega (arith, n)), length-replicate {A = ℕ} count b)

pub returns : goal.returns
returns c =
    let args = c.args in
    filled args.out.now _ args.at args.count args.b c.requires (search rules)
