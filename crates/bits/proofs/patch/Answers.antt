-- `bits::patch` meets its contract: the shifts lose nothing at 64 bits, so that `word_patch` answers it.
-- Assumes nothing.
use Rattle.bits.proofs.Window.{word_patch}
use Rattle.bits.proofs.patch.Goals as goal

pub returns : goal.returns
returns c =
    let a = c.args in
    let answer = word_patch a.n a.z a.width a.v c.cut.result c.requires.0 c.requires.1 c.requires.2 c.cut.ensures in
    (answer.is, rw answer.is answer.small)
