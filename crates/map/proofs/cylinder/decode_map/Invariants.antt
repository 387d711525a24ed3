use Rattle.std.proofs.Common.{◌≡◌, length}
use Rattle.map.proofs.Decoding.{DecodedBelow}
use Rattle.map.proofs.cylinder.decode_map.Given as goal

abbrev pub invariant-loop-s : goal.invariant-loop-s
invariant-loop-s l = (length l.entry-items ≡ 32) × DecodedBelow l.cylinders l.cylinder l.block l.s l.entry-items
