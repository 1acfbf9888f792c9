-- `lister_lines::put_observation` meets its contract.
-- Assumes nothing.
use Rattle.std.proofs.Common.{◌≡◌, ℕ, List, [], ◌∷◌, ◌++◌}
use Rattle.format.specs.Lister.{decimal, line}
use Rattle.lister_lines.specs.Lines.{value_lines, lettered_lines}
use Rattle.lister_lines.proofs.Puts.{room_front, room_behind, puts_both}
use Rattle.lister_lines.proofs.put_observation.Goals as goal

pub put_fields-requires : goal.put_fields-requires
put_fields-requires c =
    (c.requires.0, room_front c.args.lines.now (value_lines c.args.buffer.now 0) (lettered_lines c.args.checksum c.args.count) c.requires.1)

pub put_lettered-requires : goal.put_lettered-requires
unfolding lettered_lines
put_lettered-requires c =
    let behind = room_behind c.args.lines.now (value_lines c.args.buffer.now 0) (lettered_lines c.args.checksum c.args.count) c.requires.1 _ c.put_fields.ensures in
    room_front c.put_fields.new.lines (line (67 ∷ []) (decimal c.args.checksum)) _ behind

pub put_lettered-requires-2 : goal.put_lettered-requires-2
unfolding lettered_lines
put_lettered-requires-2 c =
    let behind = room_behind c.args.lines.now (value_lines c.args.buffer.now 0) (lettered_lines c.args.checksum c.args.count) c.requires.1 _ c.put_fields.ensures in
    room_behind c.put_fields.new.lines (line (67 ∷ []) (decimal c.args.checksum)) _ behind _ c.put_lettered.ensures

both : (ck ac : ℕ) (b m n : List ℕ) → m ≡ b ++ line (67 ∷ []) (decimal ck) → n ≡ m ++ line (65 ∷ []) (decimal ac) → n ≡ b ++ lettered_lines ck ac
unfolding lettered_lines
both ck ac b m n e f = puts_both b m n (line (67 ∷ []) (decimal ck)) (line (65 ∷ []) (decimal ac)) e f

pub returns : goal.returns
returns c =
    puts_both c.args.lines.now _ _ (value_lines c.args.buffer.now 0) (lettered_lines c.args.checksum c.args.count) c.put_fields.ensures
    (both c.args.checksum c.args.count _ _ _ c.put_lettered.ensures c.put_lettered-2.ensures)
