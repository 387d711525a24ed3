use Rattle.std.proofs.Common.{◌≡◌, ◌*◌, length, take}
use Rattle.map.specs.Maps.{encoded_from}
use Rattle.map.proofs.cylinder.encode_map.Given as goal

abbrev pub invariant-loop-s : goal.invariant-loop-s
invariant-loop-s l =
    (length l.block ≡ 512)
    × (take (16 * l.s) l.block ≡ encoded_from (32 * l.cylinder) (take l.s l.entries))
