-- `text_writer::Characters::admits` meets its contract.
-- Assumes nothing.
use borrow.Author.Rules.{rules}
use Rattle.text_writer.proofs.Writer.{plain_held, original_held}
use Rattle.text_writer.proofs.Characters.admits.Goals as goal

pub returns-then-origin-eq0 : goal.returns-then-origin-eq0
returns-then-origin-eq0 c = plain_held _ _ _ c.args.self.whole (search rules) c.if-origin-eq0.true

pub returns : goal.returns
returns c = original_held _ _ (search rules) c.if-origin-eq0.false
