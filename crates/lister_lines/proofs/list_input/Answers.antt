-- `lister_lines::list_input` meets its contract.
-- Assumes nothing.
use Rattle.std.proofs.Common.{rules, arith, ◌≡◌, ◌≤◌, length, take, subst}
use Rattle.std.proofs.lemmas.Result.{on_ok_weaker}
use Rattle.std.specs.Io.KnownBytes.{Appends}
use Rattle.format.specs.Lister.{listing}
use Rattle.lister_lines.proofs.Between.{lists_all, taken}
use Rattle.lister_lines.proofs.list_input.Goals as goal

pub returns : goal.returns
returns g c =
    let part = take c.in_ok-length.length c.read_full.new.buffer in
    let read = c.in_ok-length.ensures in
    let room : length c.read_full.new.buffer ≡ 1856 = search rules in
    let within : length part ≤ 1856 = omega (arith, room, read.bound.0, read.bound.1) in
    let wrote = taken (listing part) c.list-listed.new.out _ c.list-listed.result c.list-listed.ensures.0 c.list-listed.ensures.1 in
    on_ok_weaker c.write_all.result
    (λ w. lists_all part within _ _ _ _ read.bytes (λ short. read.end (omega (arith, short, room, read.bound.1))) (subst (Appends _ _) wrote w))
    c.write_all.ensures.bytes
