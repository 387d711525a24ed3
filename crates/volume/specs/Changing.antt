-- The stores that change what a restart would show: one object, and all of its change or none of it.
--   MapFor         a block that is a map of cylinder c, and says the entries of E
--   Agreeing       every root block of the volume is the one that its maps make due
--   replaced       the objects with the one at root place r replaced
--   meant_by       the objects that a cut store leaves, by the manner of the cut: old, new, or those of a torn block
--   ChangesOne     what a map store does that changes the object at one root place
--   BitStoreLaw, RemovalStoreLaw, CreateStoreLaw   the map stores of a commit, a removal and a create
--   rewritten      an object with other words at one position
--   RewritesOne    what a store at a block that one position counts does
--   InPlaceLaw     such a store at a block of an object that is no index
--   CompleteKept, AgreeKept   the stores that leave a volume complete, and its root blocks in agreement, so that
--                  laws about one store apply to the next
use Rattle.std.specs.Prelude.{◌≡◌, ℕ, ◌*◌, ◌<◌, ◌≤◌, true, false, cond, List, Some, None, Option, ◌==◌, ◌≢◌, slice_index_or, slice_set}
use Rattle.device.specs.Blocks.{Block, block_at, left_by}
use Rattle.device.specs.declared.answers.Manner.{Manner}
use Rattle.device.specs.declared.answers.Manner.TheVariants as manner
use Rattle.map.specs.Addresses.{cylinder_of, sector_of, root_place}
use Rattle.map.specs.Maps.{decoded_map}
use Rattle.map.specs.declared.entry.DataState.TheVariants as data_state
use Rattle.map.specs.declared.entry.Entry.{Entry}
use Rattle.map.specs.declared.entry.Entry.TheVariants.{Map, Free, Root}
use Rattle.map.specs.declared.entry.RootState.TheVariants as root_state
use Rattle.map.specs.declared.kind.Kind.{Kind}
use Rattle.map.specs.declared.kind.Kind.TheVariants as kinds
use Rattle.volume.specs.Committing.{state_for, Becomes, with_bit, with_object}
use Rattle.volume.specs.Counting.{Entries, Held, held, remains_as, counted_at}
use Rattle.volume.specs.Laws.{Same}
use Rattle.volume.specs.MapStores.{map_changed}
use Rattle.volume.specs.Rebuilding.{Agree}
use Rattle.volume.specs.Recoverable.{Complete, Meaning}
use Rattle.volume.specs.Volume.{cylinders_of, entry_at, root_at, is_unreadable, words_in, content, Object, object_of, counted}

-- these bytes decode as a map of cylinder c, and each of its entries is the one of E
pub record MapFor (blocks : List Block) (c : ℕ) (bytes : List ℕ) (E : Entries) : Type 0 where
  pub entries : List Entry
  pub decodes : decoded_map (cylinders_of blocks) c bytes ≡ Some entries
  pub says : (a : ℕ) → cylinder_of a ≡ c → slice_index_or entries (sector_of a) Map ≡ E a

-- root blocks agree with the maps
abbrev pub Agreeing : List Block → Type 0
Agreeing blocks = Agree (entry_at blocks) (root_at blocks) (32 * cylinders_of blocks)

-- another object at r, or none; the rest as they are
abbrev pub replaced : ℕ → Option Object → (ℕ → Option Object) → ℕ → Option Object
replaced r new objects q = cond (q == r) new (objects q)

-- one state of the objects for each manner
abbrev pub meant_by : Manner → (ℕ → Option Object) → (ℕ → Option Object) → (ℕ → Option Object) → ℕ → Option Object
meant_by manner.Old old new torn = old
meant_by manner.New old new torn = new
meant_by manner.Unreadable old new torn = torn

-- a store at the map of r's cylinder, after which the entries are E and the object at r is the new one; a map that
-- was torn is given back as the new one, if root blocks already agree with the entries after the store
pub record ChangesOne (blocks : List Block) (r : ℕ) (bytes : List ℕ) (E : Entries) (new : Option Object) : Type 0 where
  pub entries : entry_at (slice_set blocks (32 * cylinder_of r) (Block.readable bytes)) ≡ E
  pub complete : Complete (slice_set blocks (32 * cylinder_of r) (Block.readable bytes))
  pub shows : (q : ℕ) → counted (slice_set blocks (32 * cylinder_of r) (Block.readable bytes)) q ≡ replaced r new (counted blocks) q
  pub agrees : Agree E (root_at blocks) (32 * cylinders_of blocks) → Agreeing (slice_set blocks (32 * cylinder_of r) (Block.readable bytes))
  pub cut : (m : Manner) (objects : ℕ → Option Object) → (m ≡ manner.Unreadable → Agree E (root_at blocks) (32 * cylinders_of blocks)) → Meaning blocks objects →
      Meaning (left_by m blocks (32 * cylinder_of r) bytes) (meant_by m objects (replaced r new objects) (replaced r new objects))

-- setting the bit of an object gives it the blocks o that its positions were to have, if an index can read its new ones
abbrev pub BitStoreLaw : Type 0
BitStoreLaw = (blocks : List Block) (r tag : ℕ) (kind : Kind) (bytes : List ℕ) (o : ℕ → Option ℕ) → r < 32 * cylinders_of blocks → Complete blocks →
    entry_at blocks r ≡ Root root_state.Allocated kind false tag →
    ((p : ℕ) → Becomes (entry_at blocks) (32 * cylinders_of blocks) r tag p (o p)) →
    (kind ≡ kinds.Index → (p b : ℕ) → b < 32 * cylinders_of blocks → state_for r tag p (entry_at blocks b) ≡ Some data_state.IntendingToAllocate → is_unreadable (block_at blocks b) ≡ false) →
    MapFor blocks (cylinder_of r) bytes (with_bit r (entry_at blocks)) →
    ChangesOne blocks r bytes (with_bit r (entry_at blocks)) (object_of (λ p. content blocks (o p)) (Some (held kind tag)))

-- setting the bit of an object that is to be removed removes it
abbrev pub RemovalStoreLaw : Type 0
RemovalStoreLaw = (blocks : List Block) (r tag : ℕ) (kind : Kind) (bytes : List ℕ) → r < 32 * cylinders_of blocks → (r ≢ 1) → Complete blocks →
    entry_at blocks r ≡ Root root_state.IntendingToDeallocate kind false tag →
    MapFor blocks (cylinder_of r) bytes (with_bit r (entry_at blocks)) →
    ChangesOne blocks r bytes (with_bit r (entry_at blocks)) None

-- a root entry at a free place, whose identifier no data entry names, makes an object without blocks
abbrev pub CreateStoreLaw : Type 0
CreateStoreLaw = (blocks : List Block) (r tag : ℕ) (kind : Kind) (bytes : List ℕ) → r < 32 * cylinders_of blocks → Complete blocks →
    entry_at blocks r ≡ Free → ((p a : ℕ) → a < 32 * cylinders_of blocks → state_for r tag p (entry_at blocks a) ≡ None) →
    MapFor blocks (cylinder_of r) bytes (with_object r kind tag (entry_at blocks)) →
    ChangesOne blocks r bytes (with_object r kind tag (entry_at blocks)) (object_of (λ p. content blocks None) (Some (held kind tag)))

-- these words at position p, or none if it cannot be read; kind, tag and the other positions as they are
abbrev pub rewritten : ℕ → Option (List ℕ) → Option Object → Option Object
rewritten p words None = None
rewritten p words (Some object) = Some (record { kind = object.kind; tag = object.tag; positions = λ s. cond (s == p) words (object.positions s) })

-- a store at data block a, which position p of the object at r counts
pub record RewritesOne (blocks : List Block) (r p a : ℕ) : Type 0 where
  pub complete : (x : Block) → Complete (slice_set blocks a x)
  pub shows : (x : Block) (q : ℕ) → counted (slice_set blocks a x) q ≡ replaced r (rewritten p (words_in x) (counted blocks r)) (counted blocks) q
  pub cut : (m : Manner) (bytes : List ℕ) (objects : ℕ → Option Object) → Meaning blocks objects →
      Meaning (left_by m blocks a bytes)
      (meant_by m objects (replaced r (rewritten p (words_in (Block.readable bytes)) (objects r)) objects) (replaced r (rewritten p None (objects r)) objects))

-- a store at a block that counts for an object that is no index: its position shows what the store left
abbrev pub InPlaceLaw : Type 0
InPlaceLaw = (blocks : List Block) (r p a : ℕ) (object : Held) → Complete blocks → remains_as (entry_at blocks r) ≡ Some object → (object.kind ≢ kinds.Index) →
    counted_at (entry_at blocks) (32 * cylinders_of blocks) r p ≡ Some a → RewritesOne blocks r p a

-- the stores that leave a complete volume complete
pub record CompleteKept : Type 0 where
  -- any store at a root place
  pub root_place : (blocks : List Block) (a : ℕ) (x : Block) → root_place a ≡ true → Complete blocks → Complete (slice_set blocks a x)
  -- any store at a data block that counts for no position
  pub free_block : (blocks : List Block) (a : ℕ) (x : Block) → 5 ≤ sector_of a → Complete blocks →
      ((r p : ℕ) → counted_at (entry_at blocks) (32 * cylinders_of blocks) r p ≢ Some a) → Complete (slice_set blocks a x)
  -- a map by which the entries count the same
  pub whole_map : (blocks : List Block) (c : ℕ) (bytes : List ℕ) (entries : List Entry) → c < cylinders_of blocks → decoded_map (cylinders_of blocks) c bytes ≡ Some entries →
      Same (32 * cylinders_of blocks) (entry_at blocks) (map_changed c entries (entry_at blocks)) → Complete blocks → Complete (slice_set blocks (32 * c) (Block.readable bytes))

-- the stores that leave root blocks that agree in agreement
pub record AgreeKept : Type 0 where
  -- any store at a data block
  pub data_block : (blocks : List Block) (a : ℕ) (x : Block) → 5 ≤ sector_of a → Agreeing blocks → Agreeing (slice_set blocks a x)
  -- a map by which the entries count the same
  pub whole_map : (blocks : List Block) (c : ℕ) (bytes : List ℕ) (entries : List Entry) → c < cylinders_of blocks → decoded_map (cylinders_of blocks) c bytes ≡ Some entries →
      Same (32 * cylinders_of blocks) (entry_at blocks) (map_changed c entries (entry_at blocks)) → Agreeing blocks → Agreeing (slice_set blocks (32 * c) (Block.readable bytes))
