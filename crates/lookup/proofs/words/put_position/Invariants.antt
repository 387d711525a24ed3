use Rattle.std.proofs.Common.{◌≡◌, ℕ, ◌+◌, ◌*◌, ◌<◌, get_or}
use Rattle.lookup.specs.Reading.{Filled}
use Rattle.lookup.proofs.words.put_position.Given as goal

abbrev pub invariant-loop-i : goal.invariant-loop-i
invariant-loop-i l =
    (f : ℕ → ℕ) → ((i : ℕ) → i < 256 → get_or l.words i 0 ≡ f (256 * l.p + i)) → Filled f l.offset (256 * l.p) l.initial.buffer →
    Filled f l.offset (256 * l.p + l.i) l.buffer
