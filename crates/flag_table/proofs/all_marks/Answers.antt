-- `flag_table::all_marks` meets its contract.
-- Assumes nothing.
use Rattle.std.proofs.Common.{rules, ◌≡◌, ℕ, bit_or, leb, ap, ◌∙◌}
use Rattle.std.specs.List.{fold}
use Rattle.flag_table.proofs.Tables.{joined}
use Rattle.flag_table.proofs.all_marks.Goals as goal

pub returns : goal.returns
returns c =
    let e : c.fold.result ≡ fold bit_or 0 c.args.lent.now = search rules in
    ap (λ (n : ℕ). leb n 1) e ∙ joined 0 c.args.lent.now
