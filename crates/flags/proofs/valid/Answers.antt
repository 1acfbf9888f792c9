-- `flags::valid` meets its contract.
-- Assumes nothing.
use Rattle.std.proofs.Common.{sym, ap, ◌∙◌}
use borrow.Author.Tests.{eq-eqb}
use Rattle.nibble.specs.View.{part}
use Rattle.nibble.proofs.View.{part_length}
use Rattle.flags.proofs.Body.{other_length, body_none, body_fits, body_unfit, missing_permitted}
use Rattle.flags.proofs.valid.Goals as goal

pub returns-then-len-ne16 : goal.returns-then-len-ne16
returns-then-len-ne16 c =
    let a = c.args in
    (other_length a.marks (part a.s.now a.c a.len) a.len (part_length a.s.now a.c a.len c.requires.1) c.if-len-ne16.true, missing_permitted _)

pub returns-then-w-eq0 : goal.returns-then-w-eq0
returns-then-w-eq0 c =
    let e = c.sixteen-w.ensures ∙ ap (part c.args.s.now c.args.c) (sym c.if-len-ne16.false) in
    (eq-eqb _ 0 c.if-w-eq0.true ∙ body_none _ _ _ e c.if-w-eq0.true, missing_permitted _)

pub returns-then-fit : goal.returns-then-fit
returns-then-fit c =
    let e = c.sixteen-w.ensures ∙ ap (part c.args.s.now c.args.c) (sym c.if-len-ne16.false) in
    (body_fits _ _ e _ _ (sym c.if-fit.true ∙ c.fit.ensures) c.code_of.ensures.0, missing_permitted _)

pub returns-else-fit : goal.returns-else-fit
returns-else-fit c =
    let e = c.sixteen-w.ensures ∙ ap (part c.args.s.now c.args.c) (sym c.if-len-ne16.false) in
    (c.if-fit.false ∙ body_unfit _ _ e _ (sym c.if-fit.false ∙ c.fit.ensures), missing_permitted _)
