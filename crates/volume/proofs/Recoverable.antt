-- Why these stores keep a volume recoverable, with the same meaning.
use Rattle.std.proofs.Common.{◌≡◌, ℕ, ◌*◌, ◌<◌, List, set, Option, refl, ap, ◌∙◌, arith}
use Rattle.device.specs.Blocks.{Block}
use Rattle.volume.specs.Counting.{counted_at}
use Rattle.volume.specs.Rebuilding.{Agree}
use Rattle.volume.specs.Recoverable.{Complete, Recoverable, Meaning, KeptByStores}
use Rattle.volume.specs.Volume.{cylinders_of, entry_at, root_at, entries_with, Object, counted}
use Rattle.volume.proofs.Completing.{still_complete, root_complete}
use Rattle.volume.proofs.MapStores.{torn_map_law}
use Rattle.volume.proofs.Reading.{usable_none_lost}
use Rattle.volume.proofs.StoredMap.{same_complete, same_shows}
use Rattle.volume.proofs.Stores.{same_cylinders, root_block_law, free_block_law}

-- a store that leaves a complete volume means what is shown after it
pub meaning_after : (blocks : List Block) (a : ℕ) (x : Block) (objects : ℕ → Option Object) → Complete (set blocks a x) →
    ((r : ℕ) → r < 32 * cylinders_of blocks → counted (set blocks a x) r ≡ objects r) → Meaning (set blocks a x) objects
meaning_after blocks a x objects complete after = record {
  recoverable = Recoverable.complete complete;
  shows = λ r h. after r (rw (← same_cylinders blocks a x) h);
}

pub keeps_torn : (blocks : List Block) (c : ℕ) (objects : ℕ → Option Object) → c < cylinders_of blocks → Complete blocks →
    Agree (entry_at blocks) (root_at blocks) (32 * cylinders_of blocks) → Meaning blocks objects → Meaning (set blocks (32 * c) Block.unreadable) objects
keeps_torn blocks c objects inside complete agree meaning = record {
  recoverable = Recoverable.one_lost c (record { whole = blocks; inside = inside; complete = complete; agree = agree; lost = refl });
  shows = λ r h.
      let within : r < 32 * cylinders_of blocks = rw (← same_cylinders blocks (32 * c) Block.unreadable) h in
      torn_map_law blocks c inside (record { usable = complete.usable; single = complete.single; agree = agree }) r within ∙ meaning.shows r within;
}

pub kept_by_stores : KeptByStores
kept_by_stores = record {
  torn_map = keeps_torn;
  root_place = λ blocks a x objects place complete meaning.
      meaning_after blocks a x objects (root_complete blocks a x place complete)
      (λ r h. root_block_law blocks a x place (usable_none_lost blocks complete.usable) r ∙ meaning.shows r h);
  free_block = λ blocks a x objects h high complete free meaning.
      let by_maps = ap (entries_with blocks) (usable_none_lost blocks complete.usable) in
      meaning_after blocks a x objects
      (still_complete blocks a x (omega arith) complete (λ r p object is kinds found. free r p (ap (λ E. counted_at E (32 * cylinders_of blocks) r p) by_maps ∙ found)))
      (λ r k. free_block_law blocks a x h high free r ∙ meaning.shows r k);
  whole_map = λ blocks c bytes entries objects inside decodes complete same meaning.
      meaning_after blocks (32 * c) (Block.readable bytes) objects (same_complete blocks c bytes entries inside decodes same complete)
      (λ r h. same_shows blocks c bytes entries inside decodes same complete r h ∙ meaning.shows r h);
}
