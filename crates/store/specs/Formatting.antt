-- The rule of format.
--   sized        a size that a volume can have: a multiple of 32 blocks, from 32 to 2,048
--   lit_up       the model once its device is lit
--   format_rule
--   Formats      what format does: it lights the device, whatever follows
use Rattle.std.specs.Prelude.{ℕ, ◌/◌, ◌%◌, Bool, true, not, ◌&&◌, length, Result, ◌==◌, nat_le}
use Rattle.device.specs.declared.device.Device.{Ghosts}
use Rattle.formatting.specs.Formatting.{index_of, format_plan}
use Rattle.map.specs.declared.identifier.Identifier.{Identifier}
use Rattle.store.specs.Decisions.{Decision, Follows, unless}
use Rattle.store.specs.Model.{Model, seen}
use Rattle.store.specs.Transactions.{no_rows}
use Rattle.store.specs.declared.phase.Phase.TheVariants as phase
use Rattle.store.specs.declared.refusals.Refusal.{Refusal}
use Rattle.store.specs.declared.refusals.Refusal.TheVariants as refusal
use Rattle.store.specs.declared.stores.Store.{Store}

abbrev pub sized : ℕ → Bool
sized n = n % 32 == 0 && nat_le 32 n && nat_le n 2048

abbrev pub lit_up : Model → Model
lit_up m = record { blocks = m.blocks; lit = true; phase = m.phase; rows = m.rows }

abbrev pub format_rule : ℕ → Model → Decision Identifier
format_rule tag m =
    unless (tag == 0) refusal.TagZero
    (unless (not (sized (length m.blocks))) refusal.Size
    (Decision.go (format_plan (index_of tag) (length m.blocks / 32)) (index_of tag) phase.Idle no_rows))

abbrev pub Formats : {D : Type 0} → (meaning : Ghosts D) → ℕ → Store D meaning → Result Identifier Refusal → Store D meaning → Type 0
Formats meaning tag store r store' = Follows (format_rule tag (lit_up (seen meaning store))) (lit_up (seen meaning store)) r (seen meaning store')
