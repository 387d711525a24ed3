-- Addresses past the last cylinder.
use Rattle.std.proofs.Common.{◌≡◌, ℕ, ◌*◌, ◌≤◌, Bool, List, ap, arith}
use Rattle.std.proofs.lemmas.List.{get_or_past}
use Rattle.device.specs.Blocks.{Block}
use Rattle.map.specs.Addresses.{cylinder_of, sector_of}
use Rattle.map.specs.declared.entry.Entry.TheVariants.{Free}
use Rattle.journal.specs.Carried.{Ready}
use Rattle.volume.specs.Volume.{cylinders_of, map_in, entry_in, entry_at}

-- they have no map, so their entries are free
pub past_entry : (blocks : List Block) (lit : Bool) (a : ℕ) → Ready blocks lit (cylinders_of blocks) → 64 ≤ cylinder_of a → entry_at blocks a ≡ Free
past_entry blocks lit a ready far =
    ap (λ b. entry_in (map_in (cylinders_of blocks) (cylinder_of a) b) (sector_of a)) (get_or_past blocks (32 * cylinder_of a) Block.unreadable (omega (arith, ready.long, ready.few)))
