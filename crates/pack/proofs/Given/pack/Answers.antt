-- `pack::Given::pack` meets its contract: one law for each return.
-- Assumes nothing.
use mathlib.Core.Path.{sym, ◌∙◌}
use Rattle.laws.proofs.Attachments.{all_nibbles_lem}
use Rattle.laws.proofs.Results.{err_is}
use Rattle.pack.proofs.Outcomes.{walk_refused, walk_passed, fields_pass, bytes_refused, tail_refused}
use Rattle.pack.proofs.Given.pack.Goals as goal

pub returns-then-not-all_nibbles : goal.returns-then-not-all_nibbles
returns-then-not-all_nibbles c = bytes_refused _ _ _ _ _ _ (fields_pass c.args.self.passed.lent.long c.args.self.inside c.args.self.passed.fair) (sym c.if-not-all_nibbles.true ∙ c.all_nibbles.ensures)

pub walk_tail-requires : goal.walk_tail-requires
walk_tail-requires c = all_nibbles_lem _ (sym c.all_nibbles.ensures ∙ c.if-not-all_nibbles.false)

pub returns-in_err-count : goal.returns-in_err-count
returns-in_err-count c =
    rw (err_is _ _ c.from_residual.ensures.1)
    (tail_refused _ _ _ _ _ _ (fields_pass c.args.self.passed.lent.long c.args.self.inside c.args.self.passed.fair) _ (sym c.if-not-all_nibbles.false ∙ c.all_nibbles.ensures) (walk_refused _ _ _ c.in_err-count.ensures))

pub write-requires : goal.write-requires
write-requires c =
    let w = walk_passed _ _ _ c.in_ok-count.ensures in
    ((_, record { passed = fields_pass c.args.self.passed.lent.long c.args.self.inside c.args.self.passed.fair; nibbles = sym c.all_nibbles.ensures ∙ c.if-not-all_nibbles.false; attachments = w.0 }), w.1)

pub returns : goal.returns
returns c =
    c.write.ensures _
    (record { passed = fields_pass c.args.self.passed.lent.long c.args.self.inside c.args.self.passed.fair; nibbles = sym c.all_nibbles.ensures ∙ c.if-not-all_nibbles.false; attachments = (walk_passed _ _ _ c.in_ok-count.ensures).0 })
