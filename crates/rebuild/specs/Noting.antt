-- The commit bits of the lost map, noted from the entries of the other maps.
--   no_places                 four dead root blocks
--   place_kept, places_to     the root blocks of cylinder c, kept by sector
--   place_of                  the root block that was kept for a root place; elsewhere a dead one
--   shown_by                  the root block at r shows that the intention of this entry is performed
--   owner_root                the root place that a data entry names
--   bit_noted                 the lost map once the entry of an address outside it is seen: the bit of the root that
--                             shows it performed is set
--   bits_noted                the same for a list of entries
--   noted_to                  the same for all addresses below m
use Rattle.std.specs.Prelude.{ℕ, zero, suc, ◌+◌, ◌-◌, Bool, false, cond, not, ◌&&◌, List, [], ◌∷◌, replicate, Some, None, Option, ◌==◌, slice_index_or, slice_set}
use Rattle.map.specs.Addresses.{cylinder_of, sector_of, root_place}
use Rattle.map.specs.declared.entry.Entry.{Entry}
use Rattle.map.specs.declared.entry.Entry.TheVariants.{Map, Free, Root, Data}
use Rattle.object.specs.declared.root.RootBlock.{RootBlock}
use Rattle.object.specs.declared.root.RootBlock.TheVariants.{Dead, Live}
use Rattle.volume.specs.Committing.{marked}
use Rattle.volume.specs.Counting.{Entries}
use Rattle.volume.specs.Rebuilding.{RootBlocks, shows}

abbrev pub no_places : List RootBlock
no_places = replicate 4 Dead

-- a root place of cylinder c
abbrev pub in_lost : ℕ → ℕ → Bool
in_lost c r = cylinder_of r == c && root_place r

abbrev pub place_kept : ℕ → ℕ → Option RootBlock → List RootBlock → List RootBlock
place_kept c r None bs = bs
place_kept c r (Some root) bs = cond (in_lost c r) (slice_set bs (sector_of r - 1) root) bs

unfoldable pub places_to : ℕ → RootBlocks → ℕ → List RootBlock
places_to c R zero = no_places
places_to c R (suc m) = place_kept c m (R m) (places_to c R m)

abbrev pub place_of : ℕ → List RootBlock → ℕ → RootBlock
place_of c bs r = cond (in_lost c r) (slice_index_or bs (sector_of r - 1) Dead) Dead

abbrev pub shown_by : RootBlock → ℕ → ℕ → Entry → Bool
shown_by Dead r b e = false
shown_by (Live root) r b e = shows r root.id.tag root.blocks b e

abbrev pub owner_root : Entry → ℕ
owner_root Map = 0
owner_root Free = 0
owner_root (Root state kind commit tag) = 0
owner_root (Data state position owner) = owner.root

-- the entry of address b outside cylinder c shows a performed intention of a root of c
abbrev pub shows_bit : ℕ → List RootBlock → ℕ → Entry → Bool
shows_bit c bs b e = not (cylinder_of b == c) && shown_by (place_of c bs (owner_root e)) (owner_root e) b e

abbrev pub bit_noted : ℕ → List RootBlock → ℕ → Entry → List Entry → List Entry
bit_noted c bs b e es =
    cond (shows_bit c bs b e) (slice_set es (sector_of (owner_root e)) (marked (slice_index_or es (sector_of (owner_root e)) Map))) es

-- a list of entries, the first of which stands at address b
unfoldable pub bits_noted : ℕ → List RootBlock → ℕ → List Entry → List Entry → List Entry
bits_noted c bs b [] es = es
bits_noted c bs b (e ∷ others) es = bits_noted c bs (b + 1) others (bit_noted c bs b e es)

unfoldable pub noted_to : ℕ → List RootBlock → Entries → ℕ → List Entry → List Entry
noted_to c bs E zero es = es
noted_to c bs E (suc m) es = bit_noted c bs m (E m) (noted_to c bs E m es)
