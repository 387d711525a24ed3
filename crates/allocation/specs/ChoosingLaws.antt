-- What is chosen.
--   ChosenLaw   what is chosen will do, and none is chosen only if none will do
use Rattle.std.specs.Prelude.{◌≡◌, ℕ, ◌*◌, ◌<◌, Bool, true, false, List, length, Some, None}
use Rattle.allocation.specs.Choosing.{chosen}
use Rattle.device.specs.Blocks.{Block}
use Rattle.map.specs.declared.entry.Entry.{Entry}
use Rattle.volume.specs.Meeting.{Usable}
use Rattle.volume.specs.Volume.{cylinders_of, entry_at}

-- of any test, from any starting cylinder
pub record ChosenLaw : Type 0 where
  pub fit : (fits : ℕ → Entry → Bool) (start : ℕ) (blocks : List Block) (a : ℕ) → chosen fits start blocks ≡ Some a → (a < length blocks) × (fits a (entry_at blocks a) ≡ true)
  -- of whole cylinders, with maps that can all be used
  pub full : (fits : ℕ → Entry → Bool) (start : ℕ) (blocks : List Block) → length blocks ≡ 32 * cylinders_of blocks → Usable blocks → chosen fits start blocks ≡ None →
      (a : ℕ) → a < length blocks → fits a (entry_at blocks a) ≡ false
