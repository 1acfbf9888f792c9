-- `text_reader::pair_byte` meets its contract.
-- Assumes nothing.
use Rattle.text_reader.proofs.PairRows.{pair_none, pair_some}
use Rattle.text_reader.proofs.pair_byte.Goals as goal

pub returns-then-byte-eq0 : goal.returns-then-byte-eq0
returns-then-byte-eq0 c = pair_none _ _ _ c.requires.0 c.requires.1 c.pairs.ensures c.if-byte-eq0.true

pub returns : goal.returns
returns c = pair_some _ _ _ c.requires.0 c.requires.1 c.pairs.ensures c.if-byte-eq0.false
