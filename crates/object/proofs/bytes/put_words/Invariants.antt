use Rattle.std.proofs.Common.{◌≡◌, take}
use Rattle.map.specs.Bytes.{placed}
use Rattle.object.specs.Words.{bytes_of}
use Rattle.object.proofs.bytes.put_words.Given as goal

abbrev pub invariant-loop-i : goal.invariant-loop-i
invariant-loop-i l = l.block ≡ placed l.at (bytes_of (take l.i l.words)) l.initial.block
