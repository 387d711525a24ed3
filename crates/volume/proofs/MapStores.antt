-- Why a torn map loses nothing, and what a whole one changes.
use Rattle.std.proofs.Common.{◌≡◌, ℕ, ◌*◌, ◌%◌, ◌<◌, ◌≤◌, Bool, true, false, cond, not, ◌&&◌, eqb, leb, ◌≢◌, List, get_or, set, Some, None, Option, sym, refl, ap, ◌∙◌, ap₂, ⊎_elim, arith}
use mathlib.Core.Path.{fun_ext}
use Rattle.std.proofs.lemmas.List.{get_or-set_same, get_or-set_other}
use Rattle.std.proofs.lemmas.Bool.{and_parts, leb-true, eqb-true, eqb-false, cases_eq, true≢false}
use Rattle.device.specs.Blocks.{Block, block_at}
use Rattle.map.specs.Addresses.{cylinder_of, sector_of, root_place}
use Rattle.map.specs.declared.entry.Entry.TheVariants.{Map, Root}
use Rattle.map.specs.declared.entry.RootState.TheVariants as root_state
use Rattle.object.specs.declared.root.RootBlock.{RootBlock}
use Rattle.object.specs.declared.root.RootBlock.TheVariants.{Dead, Live}
use Rattle.volume.specs.Counting.{Entries, remains_as, claims, counted_at}
use Rattle.volume.specs.Laws.{Same}
use Rattle.volume.specs.MapStores.{Sound, TornMapLaw, MapStoreLaw}
use Rattle.volume.specs.Rebuilding.{RootBlocks, shows, rebuilt_bit, root_entry, rebuilt_entry, rebuilt, holder, data_entry}
use Rattle.volume.specs.Volume.{cylinders_of, map_in, map_at, entry_in, entry_at, root_in, root_at, is_unreadable, lost_map, entries_with, restart_entries, words_in, content, object_of, counted}
use Rattle.volume.proofs.LostMap.{lost_map_law}
use Rattle.volume.proofs.Reading.{usable_readable, usable_none_lost, usable_fits}
use Rattle.volume.proofs.Searching.{lowest_only, lowest_finds, any_same}
use Rattle.volume.proofs.Stores.{same_cylinders, claim_place}

-- rebuilding looks only outside the map that is lost
module _ (E F : Entries) (R : RootBlocks) (n c : ℕ) (outside : (a : ℕ) → eqb (cylinder_of a) c ≡ false → E a ≡ F a) where
  same_bit : (r tag : ℕ) (blocks : List ℕ) → rebuilt_bit E n c r tag blocks ≡ rebuilt_bit F n c r tag blocks
  same_bit r tag blocks =
      any_same (λ b. not (eqb (cylinder_of b) c) && shows r tag blocks b (E b)) (λ b. not (eqb (cylinder_of b) c) && shows r tag blocks b (F b)) n (λ b. by b (eqb (cylinder_of b) c) refl)
    where
      by : (b : ℕ) (t : Bool) → eqb (cylinder_of b) c ≡ t → (not t && shows r tag blocks b (E b)) ≡ (not t && shows r tag blocks b (F b))
      by b true here = refl
      by b false away = ap (shows r tag blocks b) (outside b away)

  same_root_entry : (r : ℕ) (o : Option RootBlock) → root_entry E n c r o ≡ root_entry F n c r o
  same_root_entry r None = refl
  same_root_entry r (Some Dead) = refl
  same_root_entry r (Some (Live root)) = ap (λ t. Root root_state.Allocated root.kind t root.id.tag) (same_bit r root.id.tag root.blocks)

  pub same_rebuilt : rebuilt E R n c ≡ rebuilt F R n c
  same_rebuilt = fun_ext (λ a. by a (eqb (cylinder_of a) c) refl)
    where
      by : (a : ℕ) (t : Bool) → eqb (cylinder_of a) c ≡ t → cond t (rebuilt_entry E R n c a) (E a) ≡ cond t (rebuilt_entry F R n c a) (F a)
      by a true here = ap (λ e. cond (eqb (sector_of a) 0) Map (cond (root_place a) e (data_entry R (holder R n a)))) (same_root_entry a (R a))
      by a false away = outside a away

module _ (blocks : List Block) (c : ℕ) (x : Block) (inside : c < cylinders_of blocks) where
  pub map_here : block_at (set blocks (32 * c) x) (32 * c) ≡ x
  map_here = get_or-set_same blocks (32 * c) x Block.unreadable (omega arith)

  pub map_there : (d : ℕ) → d ≢ c → block_at (set blocks (32 * c) x) (32 * d) ≡ block_at blocks (32 * d)
  map_there d ne = get_or-set_other blocks (32 * c) (32 * d) x Block.unreadable (λ e. ne (omega arith))

  entry_there : (a : ℕ) → eqb (cylinder_of a) c ≡ false → entry_at (set blocks (32 * c) x) a ≡ entry_at blocks a
  entry_there a away = ap₂ (λ n b. entry_in (map_in n (cylinder_of a) b) (sector_of a)) (same_cylinders blocks (32 * c) x) (map_there (cylinder_of a) (eqb-false (cylinder_of a) c away))

  -- what stands past sector 0 is no map
  pub block_there : (b : ℕ) → 0 < sector_of b → block_at (set blocks (32 * c) x) b ≡ block_at blocks b
  block_there b past = get_or-set_other blocks (32 * c) b x Block.unreadable (λ e. let s : b % 32 ≡ 32 * c % 32 = ap (λ n. n % 32) e in omega arith)

  pub same_roots : root_at (set blocks (32 * c) x) ≡ root_at blocks
  same_roots = fun_ext (λ r. by r (root_place r) refl)
    where
      by : (r : ℕ) (t : Bool) → root_place r ≡ t →
          cond t (root_in (cylinders_of (set blocks (32 * c) x)) r (block_at (set blocks (32 * c) x) r)) None ≡ cond t (root_in (cylinders_of blocks) r (block_at blocks r)) None
      by r true place =
          let low = leb-true 1 (sector_of r) (and_parts (leb 1 (sector_of r)) (leb (sector_of r) 4) place).0 in
          ap₂ (λ n b. root_in n r b) (same_cylinders blocks (32 * c) x) (block_there r (omega arith))
      by r false place = refl

  -- a position shows what it showed, whatever entries count for it
  pub same_content : (E : Entries) → ((q p b : ℕ) → claims E q p b ≡ true → 5 ≤ sector_of b) → (n q p : ℕ) → content (set blocks (32 * c) x) (counted_at E n q p) ≡ content blocks (counted_at E n q p)
  same_content E places n q p = by (counted_at E n q p) refl
    where
      by : (o : Option ℕ) → counted_at E n q p ≡ o → content (set blocks (32 * c) x) o ≡ content blocks o
      by None found = refl
      by (Some b) found = let high = places q p b (lowest_finds (claims E q p) n b found).0 in ap words_in (block_there b (omega arith))

pub map_store_law : MapStoreLaw
map_store_law blocks c bytes entries inside is = fun_ext (λ a. by a (eqb (cylinder_of a) c) refl)
  where
    by : (a : ℕ) (t : Bool) → eqb (cylinder_of a) c ≡ t → entry_at (set blocks (32 * c) (Block.readable bytes)) a ≡ cond t (get_or entries (sector_of a) Map) (entry_at blocks a)
    by a false away = entry_there blocks c (Block.readable bytes) inside a away
    by a true here =
        let same = eqb-true (cylinder_of a) c here in
        ap (λ o. entry_in o (sector_of a))
        (ap (map_at (set blocks (32 * c) (Block.readable bytes))) same
        ∙ ap₂ (λ n b. map_in n c b) (same_cylinders blocks (32 * c) (Block.readable bytes)) (map_here blocks c (Block.readable bytes) inside) ∙ is)

module _ (blocks : List Block) (c : ℕ) (inside : c < cylinders_of blocks) (sound : Sound blocks) where
  torn_lost : lost_map (set blocks (32 * c) Block.unreadable) ≡ Some c
  torn_lost =
      lowest_only (λ d. is_unreadable (block_at (set blocks (32 * c) Block.unreadable) (32 * d))) (cylinders_of (set blocks (32 * c) Block.unreadable)) c
      (omega (arith, same_cylinders blocks (32 * c) Block.unreadable))
      (ap is_unreadable (map_here blocks c Block.unreadable inside))
      (λ d h lost. ⊎_elim (λ (e : d ≡ c). e)
      (λ ne. absurd (true≢false (sym lost ∙ ap is_unreadable (map_there blocks c Block.unreadable inside d ne) ∙ usable_readable blocks sound.usable d (omega (arith, same_cylinders blocks (32 * c) Block.unreadable)))))
      (cases_eq d c))

  torn_entries : restart_entries (set blocks (32 * c) Block.unreadable) ≡ rebuilt (entry_at blocks) (root_at blocks) (32 * cylinders_of blocks) c
  torn_entries =
      ap (entries_with (set blocks (32 * c) Block.unreadable)) torn_lost
      ∙ ap₂ (λ R n. rebuilt (entry_at (set blocks (32 * c) Block.unreadable)) R (32 * n) c) (same_roots blocks c Block.unreadable inside) (same_cylinders blocks (32 * c) Block.unreadable)
      ∙ same_rebuilt (entry_at (set blocks (32 * c) Block.unreadable)) (entry_at blocks) (root_at blocks) (32 * cylinders_of blocks) c (entry_there blocks c Block.unreadable inside)

  same : Same (32 * cylinders_of blocks) (entry_at blocks) (rebuilt (entry_at blocks) (root_at blocks) (32 * cylinders_of blocks) c)
  same = lost_map_law (entry_at blocks) (root_at blocks) (cylinders_of blocks) c inside (usable_fits blocks sound.usable) sound.single sound.agree

  torn_counts : (r : ℕ) → r < 32 * cylinders_of blocks → counted (set blocks (32 * c) Block.unreadable) r ≡ counted blocks r
  torn_counts r h =
      ap₂ (λ E n. object_of (λ p. content (set blocks (32 * c) Block.unreadable) (counted_at E (32 * n) r p)) (remains_as (E r))) torn_entries (same_cylinders blocks (32 * c) Block.unreadable)
      ∙ ap₂ object_of (fun_ext (λ p. ap (content (set blocks (32 * c) Block.unreadable)) (same.counted r p) ∙ same_content blocks c Block.unreadable inside (entry_at blocks) (claim_place blocks) (32 * cylinders_of blocks) r p)) (same.remains r h)
      ∙ sym (ap (λ E. object_of (λ p. content blocks (counted_at E (32 * cylinders_of blocks) r p)) (remains_as (E r))) (ap (entries_with blocks) (usable_none_lost blocks sound.usable)))

pub torn_map_law : TornMapLaw
torn_map_law blocks c inside sound = torn_counts blocks c inside sound
