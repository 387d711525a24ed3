-- What is read from the blocks of a volume: entries that fit, and what a store leaves of them.
use Rattle.std.proofs.Common.{◌≡◌, ℕ, ◌+◌, ◌*◌, ◌<◌, true, false, List, get_or, Some, None, sym, refl, ap, ◌∙◌, subst, ap₂, arith}
use Rattle.std.proofs.lemmas.Nat.{mod_below}
use Rattle.std.proofs.lemmas.Bool.{true≢false}
use Rattle.device.specs.Blocks.{Block, block_at}
use Rattle.device.specs.Gathers.{gathered_each}
use Rattle.map.specs.Addresses.{cylinder_of, sector_of}
use Rattle.map.specs.Entries.{fits_entry, Named}
use Rattle.map.specs.Maps.{decoded_sector, decoded_map, entry_part}
use Rattle.map.specs.declared.entry.Entry.{Entry}
use Rattle.map.specs.declared.entry.Entry.TheVariants.{Map}
use Rattle.map.specs.EntryLaws.{entry_bytes, entry_named}
use Rattle.volume.specs.Meeting.{Usable}
use Rattle.volume.specs.Rebuilding.{FitVolume}
use Rattle.volume.specs.Volume.{cylinders_of, map_in, map_at, entry_in, entry_at, is_unreadable, lost_map}
use Rattle.volume.proofs.Searching.{lowest_none}

-- what a decoded map says fits
map_fits : (cylinders c : ℕ) (bytes : List ℕ) (entries : List Entry) → decoded_map cylinders c bytes ≡ Some entries → (s : ℕ) → s < 32 →
    (fits_entry cylinders (32 * c + s) (get_or entries s Map) ≡ true) × Named (get_or entries s Map)
map_fits cylinders c bytes entries is s h =
    let each = gathered_each (decoded_sector cylinders c bytes) 32 0 entries is in
    let at : decoded_sector cylinders c bytes s ≡ Some (get_or entries s Map) = ap (decoded_sector cylinders c bytes) (omega arith) ∙ each.has Map s h in
    ((entry_bytes cylinders (32 * c + s) (entry_part bytes s) (get_or entries s Map) at).1, entry_named (get_or entries s Map) cylinders (32 * c + s) (entry_part bytes s) at)

-- where a map can be used, each of its entries fits; elsewhere the entry is free
pub entry_fits : (blocks : List Block) (a : ℕ) (entries : List Entry) → map_at blocks (cylinder_of a) ≡ Some entries →
    (fits_entry (cylinders_of blocks) a (entry_at blocks a) ≡ true) × Named (entry_at blocks a)
entry_fits blocks a entries is = by (block_at blocks (32 * cylinder_of a)) is
  where
    joined : 32 * cylinder_of a + sector_of a ≡ a
    joined = omega arith

    at : entry_at blocks a ≡ get_or entries (sector_of a) Map
    at = ap (λ o. entry_in o (sector_of a)) is

    by : (b : Block) → map_in (cylinders_of blocks) (cylinder_of a) b ≡ Some entries → (fits_entry (cylinders_of blocks) a (entry_at blocks a) ≡ true) × Named (entry_at blocks a)
    by Block.unreadable f = absurd (true≢false cc)
    by (Block.readable bytes) f =
        let fits = map_fits (cylinders_of blocks) (cylinder_of a) bytes entries f (sector_of a) (mod_below a 32 (omega arith)) in
        (ap₂ (fits_entry (cylinders_of blocks)) (sym joined) at ∙ fits.0, subst Named (sym at) fits.1)

-- where every map can be used, none is lost and every entry fits
module _ (blocks : List Block) (usable : Usable blocks) where
  pub usable_readable : (c : ℕ) → c < cylinders_of blocks → is_unreadable (block_at blocks (32 * c)) ≡ false
  usable_readable c h = by (block_at blocks (32 * c)) (usable c h).0 (usable c h).1
    where
      by : (b : Block) (entries : List Entry) → map_in (cylinders_of blocks) c b ≡ Some entries → is_unreadable b ≡ false
      by Block.unreadable entries is = absurd (true≢false cc)
      by (Block.readable bytes) entries is = refl

  pub usable_none_lost : lost_map blocks ≡ None
  usable_none_lost = lowest_none (λ c. is_unreadable (block_at blocks (32 * c))) (cylinders_of blocks) usable_readable

  pub usable_fits : FitVolume (entry_at blocks) (cylinders_of blocks)
  usable_fits a h = let map = usable (cylinder_of a) (omega arith) in entry_fits blocks a map.0 map.1
