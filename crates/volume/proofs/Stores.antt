-- Why a store away from the maps leaves the entries, and what follows.
use Rattle.std.proofs.Common.{◌≡◌, ℕ, ◌*◌, ◌/◌, ◌%◌, ◌<◌, ◌≤◌, Bool, true, false, cond, leb, ◌≢◌, List, length, set, Some, None, Option, sym, refl, ap, ◌∙◌, subst, ap₂, ⊎_elim, arith}
use mathlib.Core.Path.{fun_ext}
use Rattle.std.proofs.lemmas.List.{length-set, get_or-set_same, get_or-set_other}
use Rattle.std.proofs.lemmas.Bool.{and_parts, leb-true, eq-eqb, ne_eqb, cases_eq, true≢false}
use Rattle.device.specs.Blocks.{Block, block_at}
use Rattle.map.specs.Addresses.{cylinder_of, sector_of, root_place}
use Rattle.map.specs.Entries.{fits_entry, Named}
use Rattle.map.specs.declared.entry.DataState.{DataState}
use Rattle.map.specs.declared.entry.Entry.{Entry}
use Rattle.map.specs.declared.entry.Entry.TheVariants.{Free, Data}
use Rattle.map.specs.declared.identifier.Identifier.{Identifier}
use Rattle.volume.specs.Counting.{Entries, remains_as, counted_at, claims}
use Rattle.volume.specs.Rebuilding.{rebuilt}
use Rattle.volume.specs.Search.{lowest}
use Rattle.volume.specs.Stores.{content_after, DataBlockLaw, FreeBlockLaw, RootBlockLaw}
use Rattle.volume.specs.Volume.{cylinders_of, map_in, map_at, entry_in, entry_at, root_in, root_at, is_unreadable, lost_map, entries_with, restart_entries, words_in, content, object_of, counted}
use Rattle.volume.proofs.Fitting.{data_fits, claim_for}
use Rattle.volume.proofs.Reading.{entry_fits}
use Rattle.volume.proofs.Searching.{lowest_below, lowest_finds}

module _ (blocks : List Block) (a : ℕ) (x : Block) where
  pub same_cylinders : cylinders_of (set blocks a x) ≡ cylinders_of blocks
  same_cylinders = ap (λ n. n / 32) (length-set blocks a x)

  pub elsewhere : (b : ℕ) → b ≢ a → block_at (set blocks a x) b ≡ block_at blocks b
  elsewhere b ne = get_or-set_other blocks a b x Block.unreadable ne

  -- a store past sector 0 leaves every map
  module _ (past : 0 < sector_of a) where
    map_block : (c : ℕ) → block_at (set blocks a x) (32 * c) ≡ block_at blocks (32 * c)
    map_block c = elsewhere (32 * c) (λ e. let s : 32 * c % 32 ≡ a % 32 = ap (λ n. n % 32) e in omega arith)

    pub same_map : (c : ℕ) → map_at (set blocks a x) c ≡ map_at blocks c
    same_map c = ap₂ (λ n b. map_in n c b) same_cylinders (map_block c)

    pub same_entries : entry_at (set blocks a x) ≡ entry_at blocks
    same_entries = fun_ext (λ b. ap (λ o. entry_in o (sector_of b)) (same_map (cylinder_of b)))

    same_lost : lost_map (set blocks a x) ≡ lost_map blocks
    same_lost =
        lowest_below (λ c. is_unreadable (block_at (set blocks a x) (32 * c))) (λ c. is_unreadable (block_at blocks (32 * c))) (cylinders_of (set blocks a x)) (λ c h. ap is_unreadable (map_block c))
        ∙ ap (λ n. lowest (λ c. is_unreadable (block_at blocks (32 * c))) n) same_cylinders

  -- a store at a data block leaves every root block too
  module _ (high : 5 ≤ sector_of a) where
    pub same_root : (r : ℕ) → root_at (set blocks a x) r ≡ root_at blocks r
    same_root r = by (root_place r) refl
      where
        by : (t : Bool) → root_place r ≡ t → cond t (root_in (cylinders_of (set blocks a x)) r (block_at (set blocks a x) r)) None ≡ cond t (root_in (cylinders_of blocks) r (block_at blocks r)) None
        by true place =
            let low = leb-true (sector_of r) 4 (and_parts (leb 1 (sector_of r)) (leb (sector_of r) 4) place).1 in
            ap₂ (λ n b. root_in n r b) same_cylinders (elsewhere r (λ e. let s : r % 32 ≡ a % 32 = ap (λ n. n % 32) e in omega arith))
        by false place = refl

    same_with : (o : Option ℕ) → entries_with (set blocks a x) o ≡ entries_with blocks o
    same_with None = same_entries (omega arith)
    same_with (Some c) =
        ap₂ (λ E R. rebuilt E R (32 * cylinders_of (set blocks a x)) c) (same_entries (omega arith)) (fun_ext same_root)
        ∙ ap (λ n. rebuilt (entry_at blocks) (root_at blocks) (32 * n) c) same_cylinders

    same_restart : restart_entries (set blocks a x) ≡ restart_entries blocks
    same_restart = ap (entries_with (set blocks a x)) (same_lost (omega arith)) ∙ same_with (lost_map blocks)

  -- what a position shows
  content_is : a < length blocks → (o : Option ℕ) → content (set blocks a x) o ≡ content_after blocks a x o
  content_is h None = refl
  content_is h (Some b) =
      ⊎_elim
      (λ (e : b ≡ a).
      ap words_in (ap (block_at (set blocks a x)) e ∙ get_or-set_same blocks a x Block.unreadable h)
      ∙ sym (ap (λ t. cond t (words_in x) (words_in (block_at blocks b))) (eq-eqb b a e)))
      (λ ne. ap words_in (elsewhere b ne) ∙ sym (ap (λ t. cond t (words_in x) (words_in (block_at blocks b))) (ne_eqb b a ne)))
      (cases_eq b a)

  counted_with : (E : Entries) → restart_entries (set blocks a x) ≡ E → (f : Option ℕ → Option (List ℕ)) →
      ((r p : ℕ) → content (set blocks a x) (counted_at E (32 * cylinders_of blocks) r p) ≡ f (counted_at E (32 * cylinders_of blocks) r p)) → (r : ℕ) →
      counted (set blocks a x) r ≡ object_of (λ p. f (counted_at E (32 * cylinders_of blocks) r p)) (remains_as (E r))
  counted_with E is f each r =
      ap₂ (λ F n. object_of (λ p. content (set blocks a x) (counted_at F (32 * n) r p)) (remains_as (F r))) is same_cylinders
      ∙ ap (λ positions. object_of positions (remains_as (E r))) (fun_ext (each r))

pub data_block_law : DataBlockLaw
data_block_law blocks a x h high =
    counted_with blocks a x (restart_entries blocks) (same_restart blocks a x high) (content_after blocks a x) (λ r p. content_is blocks a x h (counted_at (restart_entries blocks) (32 * cylinders_of blocks) r p))

pub free_block_law : FreeBlockLaw
free_block_law blocks a x h high free =
    counted_with blocks a x (restart_entries blocks) (same_restart blocks a x high) (content blocks) (λ r p. by (counted_at (restart_entries blocks) (32 * cylinders_of blocks) r p) (free r p))
  where
    by : (o : Option ℕ) → (o ≡ Some a → ⊥) → content (set blocks a x) o ≡ content blocks o
    by None other = refl
    by (Some b) other = ap words_in (elsewhere blocks a x b (λ e. other (ap Some e)))

-- what claims a position stands at a data block
pub claim_place : (blocks : List Block) (r p b : ℕ) → claims (entry_at blocks) r p b ≡ true → 5 ≤ sector_of b
claim_place blocks r p b claim =
    let found = claim_for (entry_at blocks) r p (entry_at blocks b) claim in
    by found.0 found.1.0 found.1.1 (map_at blocks (cylinder_of b)) refl
  where
    by : (state : DataState) (owner : Identifier) → entry_at blocks b ≡ Data state p owner → (o : Option (List Entry)) → map_at blocks (cylinder_of b) ≡ o → 5 ≤ sector_of b
    by state owner at None is =
        let free : entry_at blocks b ≡ Free = ap (λ o. entry_in o (sector_of b)) is in
        absurd (true≢false cc)
    by state owner at (Some entries) is =
        let fits = entry_fits blocks b entries is in
        (data_fits (cylinders_of blocks) b p state owner (ap (fits_entry (cylinders_of blocks) b) (sym at) ∙ fits.0) (subst Named at fits.1)).place

pub root_block_law : RootBlockLaw
root_block_law blocks a x place whole r =
    counted_with blocks a x (entry_at blocks) here (content blocks) (λ q p. by q p (counted_at (entry_at blocks) (32 * cylinders_of blocks) q p) refl) r
    ∙ sym (ap (λ E. object_of (λ p. content blocks (counted_at E (32 * cylinders_of blocks) r p)) (remains_as (E r))) (ap (entries_with blocks) whole))
  where
    sides : (leb 1 (sector_of a) ≡ true) × (leb (sector_of a) 4 ≡ true)
    sides = and_parts (leb 1 (sector_of a)) (leb (sector_of a) 4) place

    past : 0 < sector_of a
    past = let low = leb-true 1 (sector_of a) sides.0 in omega arith

    here : restart_entries (set blocks a x) ≡ entry_at blocks
    here = ap (entries_with (set blocks a x)) (same_lost blocks a x past ∙ whole) ∙ same_entries blocks a x past

    by : (q p : ℕ) (o : Option ℕ) → counted_at (entry_at blocks) (32 * cylinders_of blocks) q p ≡ o → content (set blocks a x) o ≡ content blocks o
    by q p None found = refl
    by q p (Some b) found =
        let high = claim_place blocks q p b (lowest_finds (claims (entry_at blocks) q p) (32 * cylinders_of blocks) b found).0 in
        let low = leb-true (sector_of a) 4 sides.1 in
        ap words_in (elsewhere blocks a x b (λ e. let s : b % 32 ≡ a % 32 = ap (λ n. n % 32) e in omega arith))
