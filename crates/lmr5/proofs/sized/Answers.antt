-- `lmr5::sized` meets its contract.
-- Assumes nothing.
use mathlib.Core.Path.{sym, ap, ◌∙◌}
use Rattle.format.specs.declared.Refusal.{Refusal}
use Rattle.std.specs.Prelude.{Result}
use Prim.Native.Nat.{ℕ}
use Rattle.pack.specs.Answers.{pack_answer}
use Rattle.lmr5.specs.Numbered.{numbered}
use Rattle.lmr5.proofs.Calls.{told_size}
use Rattle.lmr5.proofs.sized.Goals as goal

pub returns-in-Ok : goal.returns-in-Ok
returns-in-Ok c =
    rw c.numbered.ensures at c.accepted.ensures
    ∙ told_size c.in-Ok.size (c.requires _ c.in-Ok.is) ∙ ap (λ (r : Result ℕ Refusal). numbered (pack_answer r)) (sym c.in-Ok.is)
