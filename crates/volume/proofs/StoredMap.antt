-- What a map that is stored whole leaves: a volume that counts by the entries that it says.
use Rattle.std.proofs.Common.{◌≡◌, ℕ, ◌*◌, ◌<◌, ◌≤◌, true, List, set, Some, sym, refl, ap, ◌∙◌, ap₂, ⊎_elim, arith}
use mathlib.Core.Path.{fun_ext}
use Rattle.std.proofs.lemmas.Bool.{cases_eq}
use Rattle.device.specs.Blocks.{Block}
use Rattle.map.specs.Addresses.{sector_of}
use Rattle.map.specs.Maps.{decoded_map}
use Rattle.map.specs.declared.entry.Entry.{Entry}
use Rattle.volume.specs.Changing.{Agreeing}
use Rattle.volume.specs.Counting.{Entries, remains_as, claims, counted_at, due}
use Rattle.volume.specs.Laws.{Same}
use Rattle.volume.specs.MapStores.{map_changed}
use Rattle.volume.specs.Meeting.{Usable}
use Rattle.volume.specs.Rebuilding.{Agree}
use Rattle.volume.specs.Recoverable.{Complete}
use Rattle.volume.specs.Volume.{cylinders_of, map_in, map_at, entry_at, root_at, is_unreadable, content, object_of, counted}
use Rattle.volume.proofs.Completing.{CountsWell, complete_by, shows_by, shows_own}
use Rattle.volume.proofs.MapStores.{map_store_law, map_here, map_there, same_roots, block_there, same_content}
use Rattle.volume.proofs.Searching.{lowest_finds}
use Rattle.volume.proofs.Stores.{same_cylinders, claim_place}

module _ (blocks : List Block) (c : ℕ) (bytes : List ℕ) (entries : List Entry) (E : Entries) (inside : c < cylinders_of blocks)
    (decodes : decoded_map (cylinders_of blocks) c bytes ≡ Some entries) (says : map_changed c entries (entry_at blocks) ≡ E) where
  abbrev after : List Block
  after = set blocks (32 * c) (Block.readable bytes)

  size : cylinders_of after ≡ cylinders_of blocks
  size = same_cylinders blocks (32 * c) (Block.readable bytes)

  pub stored_entries : entry_at (set blocks (32 * c) (Block.readable bytes)) ≡ E
  stored_entries = map_store_law blocks c bytes entries inside decodes ∙ says

  usable_after : Usable blocks → Usable after
  usable_after usable d h =
      ⊎_elim
      (λ (e : d ≡ c). (entries, ap (map_at after) e ∙ ap₂ (λ n b. map_in n c b) size (map_here blocks c (Block.readable bytes) inside) ∙ decodes))
      (λ ne. let map = usable d (rw (← size) h) in (map.0, ap₂ (λ n b. map_in n d b) size (map_there blocks c (Block.readable bytes) inside d ne) ∙ map.1))
      (cases_eq d c)

  -- what claims a position by these entries stands at a data block
  places : (q p b : ℕ) → claims E q p b ≡ true → 5 ≤ sector_of b
  places q p b claim = claim_place after q p b (ap (λ F. claims F q p b) stored_entries ∙ claim)

  pub stored_complete : Usable blocks → CountsWell blocks E (32 * cylinders_of blocks) → Complete (set blocks (32 * c) (Block.readable bytes))
  stored_complete usable well =
      complete_by after E (32 * cylinders_of blocks) (usable_after usable) stored_entries (ap (λ n. 32 * n) size)
      (record {
        single = well.single;
        indexes = λ r p b object h is kinds found.
            let high = places r p b (lowest_finds (claims E r p) (32 * cylinders_of blocks) b found).0 in
            ap is_unreadable (block_there blocks c (Block.readable bytes) inside b (omega arith)) ∙ well.indexes r p b object h is kinds found;
        root_index = well.root_index;
      })

  pub stored_shows : Usable blocks → (r : ℕ) →
      counted (set blocks (32 * c) (Block.readable bytes)) r ≡ object_of (λ p. content blocks (counted_at E (32 * cylinders_of blocks) r p)) (remains_as (E r))
  stored_shows usable r =
      shows_by after E (32 * cylinders_of blocks) (usable_after usable) stored_entries (ap (λ n. 32 * n) size) r
      ∙ ap (λ positions. object_of positions (remains_as (E r))) (fun_ext (same_content blocks c (Block.readable bytes) inside E places (32 * cylinders_of blocks) r))

  pub stored_agree : Agree E (root_at blocks) (32 * cylinders_of blocks) → Agreeing (set blocks (32 * c) (Block.readable bytes))
  stored_agree agree r h place =
      ap (λ R. R r) (same_roots blocks c (Block.readable bytes) inside) ∙ agree r (rw (← size) h) place ∙ ap Some (sym (ap₂ (λ F n. due F (32 * n) r) stored_entries size))

-- a map by which the entries count the same
module _ (blocks : List Block) (c : ℕ) (bytes : List ℕ) (entries : List Entry) (inside : c < cylinders_of blocks)
    (decodes : decoded_map (cylinders_of blocks) c bytes ≡ Some entries) (same : Same (32 * cylinders_of blocks) (entry_at blocks) (map_changed c entries (entry_at blocks))) where
  pub same_complete : Complete blocks → Complete (set blocks (32 * c) (Block.readable bytes))
  same_complete complete =
      stored_complete blocks c bytes entries (map_changed c entries (entry_at blocks)) inside decodes refl complete.usable
      (record {
        single = λ r p a b ha hb one two. complete.single r p a b ha hb (sym (same.claim r p a ha) ∙ one) (sym (same.claim r p b hb) ∙ two);
        indexes = λ r p b object h is kinds found. complete.indexes r p b object h (sym (same.remains r h) ∙ is) kinds (sym (same.counted r p) ∙ found);
        root_index = let index = complete.root_index in (index.0, same.remains 1 (omega arith) ∙ index.1, index.2);
      })

  pub same_shows : Complete blocks → (r : ℕ) → r < 32 * cylinders_of blocks → counted (set blocks (32 * c) (Block.readable bytes)) r ≡ counted blocks r
  same_shows complete r h =
      stored_shows blocks c bytes entries (map_changed c entries (entry_at blocks)) inside decodes refl complete.usable r
      ∙ ap₂ object_of (fun_ext (λ p. ap (content blocks) (same.counted r p))) (same.remains r h) ∙ sym (shows_own blocks complete r)

  pub same_agree : Agreeing blocks → Agreeing (set blocks (32 * c) (Block.readable bytes))
  same_agree agree =
      stored_agree blocks c bytes entries (map_changed c entries (entry_at blocks)) inside decodes refl
      (λ r h place. agree r h place ∙ ap Some (sym (same.owed r h)))
