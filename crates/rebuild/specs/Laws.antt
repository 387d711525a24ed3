-- What the lost map is once every root block is taken and every other map noted.
--   Long          a live root block has 64 addresses
--   rebuilt_map   the lost map then
--   RebuildLaw    it is the map that the root blocks give back
--   VolumeLaw     of a volume whose map c is lost, it is the map that a restart goes by
--   HeldBy        two root places and positions that hold an address
--   TwiceLaw      a data block is marked as held twice exactly if two root places and positions hold it
--   LowestLaw     which of the marked ones is named
--   PassLaw       one pass over the root places takes every root block, and one over the other maps notes every bit
use Rattle.std.specs.Prelude.{◌≡◌, ℕ, ◌+◌, ◌*◌, ◌<◌, ◌≤◌, Bool, true, false, List, length, Some, None, Option, slice_index_or}
use Rattle.device.specs.Blocks.{Block}
use Rattle.map.specs.declared.entry.Entry.{Entry}
use Rattle.map.specs.declared.entry.Entry.TheVariants.{Map}
use Rattle.object.specs.declared.root.RootBlock.{RootBlock}
use Rattle.object.specs.declared.root.RootBlock.TheVariants.{Dead, Live}
use Rattle.volume.specs.Counting.{Entries}
use Rattle.volume.specs.Rebuilding.{RootBlocks, holds, rebuilt}
use Rattle.volume.specs.Volume.{cylinders_of, entry_at, root_at, lost_map, restart_entries}
use Rattle.rebuild.specs.Noting.{place_kept, places_to, bits_noted, noted_to}
use Rattle.rebuild.specs.Taking.{root_taken, root_twice, taken_to, twice_to, lowest_twice}

abbrev pub Long : Option RootBlock → Type 0
Long None = Unit {0}
Long (Some Dead) = Unit {0}
Long (Some (Live root)) = length root.blocks ≡ 64

-- every live root block below address n has 64
abbrev pub AllLong : RootBlocks → ℕ → Type 0
AllLong R n = (r : ℕ) → r < n → Long (R r)

abbrev pub rebuilt_map : ℕ → Entries → RootBlocks → ℕ → List Entry
rebuilt_map c E R n = noted_to c (places_to c R n) E n (taken_to c R n)

abbrev pub RebuildLaw : Type 0
RebuildLaw = (E : Entries) (R : RootBlocks) (cylinders c s : ℕ) → c < cylinders → s < 32 → AllLong R (32 * cylinders) →
    slice_index_or (rebuilt_map c E R (32 * cylinders)) s Map ≡ rebuilt E R (32 * cylinders) c (32 * c + s)

pub record VolumeLaw : Type 0 where
  -- the root blocks of a volume are long
  pub long : (blocks : List Block) (n : ℕ) → AllLong (root_at blocks) n
  pub lost : (blocks : List Block) (c s : ℕ) → lost_map blocks ≡ Some c → s < 32 →
      slice_index_or (rebuilt_map c (entry_at blocks) (root_at blocks) (32 * cylinders_of blocks)) s Map ≡ restart_entries blocks (32 * c + s)

-- the root block at r holds a for position p, the one at q for position t, and these are not the same
pub record HeldBy (R : RootBlocks) (n a r p q t : ℕ) : Type 0 where
  pub first : holds R r p a ≡ true
  pub second : holds R q t a ≡ true
  pub within : (r < n) × (p < 64) × (q < n) × (t < 64)
  pub apart : (r ≡ q) × (p ≡ t) → ⊥

pub record TwiceLaw : Type 0 where
  -- a sector that is marked is held by two
  pub marked : (R : RootBlocks) (cylinders c s : ℕ) → s < 32 → AllLong R (32 * cylinders) →
      slice_index_or (twice_to c R (32 * cylinders)) s false ≡ true →
      (r : ℕ) × ((p : ℕ) × ((q : ℕ) × ((t : ℕ) × HeldBy R (32 * cylinders) (32 * c + s) r p q t)))
  -- a data block that two hold is marked
  pub found : (R : RootBlocks) (cylinders c s : ℕ) → s < 32 → 5 ≤ s → AllLong R (32 * cylinders) → (r p q t : ℕ) →
      HeldBy R (32 * cylinders) (32 * c + s) r p q t → slice_index_or (twice_to c R (32 * cylinders)) s false ≡ true

pub record LowestLaw : Type 0 where
  -- the lowest that is marked is named
  pub some : (c a : ℕ) (ts : List Bool) → lowest_twice c ts ≡ Some a →
      (s : ℕ) × (s < 32) × (a ≡ 32 * c + s) × (slice_index_or ts s false ≡ true) × ((k : ℕ) → k < s → slice_index_or ts k false ≡ false)
  -- none is named only if none is marked
  pub none : (c : ℕ) (ts : List Bool) → lowest_twice c ts ≡ None → (s : ℕ) → s < 32 → slice_index_or ts s false ≡ false

-- the lost map, what is held twice and the kept root blocks are the same after the root blocks below m and below k
pub record SameSoFar (c : ℕ) (R : RootBlocks) (m k : ℕ) : Type 0 where
  pub entries : taken_to c R m ≡ taken_to c R k
  pub twice : twice_to c R m ≡ twice_to c R k
  pub places : places_to c R m ≡ places_to c R k

-- they take the root block at r
pub record Takes (c : ℕ) (R : RootBlocks) (r : ℕ) : Type 0 where
  pub entries : taken_to c R (r + 1) ≡ root_taken c r (R r) (taken_to c R r)
  pub twice : twice_to c R (r + 1) ≡ root_twice c r (R r) (taken_to c R r) (twice_to c R r)
  pub places : places_to c R (r + 1) ≡ place_kept c r (R r) (places_to c R r)

pub record PassLaw : Type 0 where
  -- from root place to root place, over a map's own sector and over data blocks
  pub root : (c : ℕ) (R : RootBlocks) (r : ℕ) → Takes c R r
  pub first : (c : ℕ) (R : RootBlocks) (d : ℕ) → SameSoFar c R (32 * d + 1) (32 * d)
  pub last : (c : ℕ) (R : RootBlocks) (d : ℕ) → SameSoFar c R (32 * (d + 1)) (32 * d + 5)
  -- from map to map, and over the lost one
  pub map : (c : ℕ) (bs : List RootBlock) (E : Entries) (d : ℕ) (others es : List Entry) → length others ≡ 32 →
      ((s : ℕ) → s < 32 → slice_index_or others s Map ≡ E (32 * d + s)) →
      noted_to c bs E (32 * (d + 1)) es ≡ bits_noted c bs (32 * d) others (noted_to c bs E (32 * d) es)
  pub lost : (c : ℕ) (bs : List RootBlock) (E : Entries) (es : List Entry) → noted_to c bs E (32 * (c + 1)) es ≡ noted_to c bs E (32 * c) es
