-- A volume: what the blocks of a device mean.
--   cylinders_of    how many cylinders there are
--   map_at          the entries of a cylinder's map, if it can be read and is well formed
--   entry_at        the entry of an address; free where the map cannot be used
--   root_at         the root block at a root place, if it can be read and is well formed
--   lost_map        the lowest cylinder whose map cannot be read
--   restart_entries the entries that a restart goes by: those of the maps, a lost one rebuilt
--   Object          what an object shows: its kind and tag, and each position's words or that it is unreadable
--   counted         the objects that a restart would show, by root place
--   shown           the objects as a store that is up reads them, through root entries and root blocks
use Rattle.std.specs.Prelude.{ℕ, ◌*◌, ◌/◌, Bool, true, false, cond, ◌&&◌, List, length, replicate, Some, None, Option, ◌==◌, slice_index, slice_index_or}
use Rattle.device.specs.Blocks.{Block, block_at}
use Rattle.map.specs.Addresses.{cylinder_of, sector_of, root_place}
use Rattle.map.specs.Maps.{decoded_map}
use Rattle.map.specs.declared.entry.Entry.{Entry}
use Rattle.map.specs.declared.entry.Entry.TheVariants.{Map, Free, Root, Data}
use Rattle.map.specs.declared.entry.RootState.TheVariants as root_state
use Rattle.map.specs.declared.kind.Kind.{Kind}
use Rattle.object.specs.Roots.{decoded_root}
use Rattle.object.specs.Words.{words_of}
use Rattle.object.specs.declared.root.RootBlock.{RootBlock}
use Rattle.object.specs.declared.root.RootBlock.TheVariants.{Dead, Live}
use Rattle.volume.specs.Counting.{Entries, Held, remains_as, counted_at}
use Rattle.volume.specs.Rebuilding.{RootBlocks, rebuilt}
use Rattle.volume.specs.Search.{lowest}

abbrev pub cylinders_of : List Block → ℕ
cylinders_of blocks = length blocks / 32

abbrev pub map_in : ℕ → ℕ → Block → Option (List Entry)
map_in cylinders c Block.unreadable = None
map_in cylinders c (Block.readable bytes) = decoded_map cylinders c bytes

abbrev pub map_at : List Block → ℕ → Option (List Entry)
map_at blocks c = map_in (cylinders_of blocks) c (block_at blocks (32 * c))

abbrev pub entry_in : Option (List Entry) → ℕ → Entry
entry_in None s = Free
entry_in (Some entries) s = slice_index_or entries s Map

abbrev pub entry_at : List Block → Entries
entry_at blocks a = entry_in (map_at blocks (cylinder_of a)) (sector_of a)

abbrev pub root_in : ℕ → ℕ → Block → Option RootBlock
root_in cylinders a Block.unreadable = None
root_in cylinders a (Block.readable bytes) = decoded_root cylinders a bytes

abbrev pub root_at : List Block → RootBlocks
root_at blocks a = cond (root_place a) (root_in (cylinders_of blocks) a (block_at blocks a)) None

abbrev pub is_unreadable : Block → Bool
is_unreadable Block.unreadable = true
is_unreadable (Block.readable bytes) = false

abbrev pub lost_map : List Block → Option ℕ
lost_map blocks = lowest (λ c. is_unreadable (block_at blocks (32 * c))) (cylinders_of blocks)

abbrev pub entries_with : List Block → Option ℕ → Entries
entries_with blocks None = entry_at blocks
entries_with blocks (Some c) = rebuilt (entry_at blocks) (root_at blocks) (32 * cylinders_of blocks) c

abbrev pub restart_entries : List Block → Entries
restart_entries blocks = entries_with blocks (lost_map blocks)

-- the words of a block, or none if it cannot be read
abbrev pub words_in : Block → Option (List ℕ)
words_in Block.unreadable = None
words_in (Block.readable bytes) = Some (words_of bytes)

-- a position without a block reads as zeros
abbrev pub content : List Block → Option ℕ → Option (List ℕ)
content blocks None = Some (replicate 256 0)
content blocks (Some a) = words_in (block_at blocks a)

pub record Object : Type 0 where
  pub kind : Kind
  pub tag : ℕ
  pub positions : ℕ → Option (List ℕ)

abbrev pub object_of : (ℕ → Option (List ℕ)) → Option Held → Option Object
object_of positions None = None
object_of positions (Some object) = Some (record { kind = object.kind; tag = object.tag; positions = positions })

abbrev pub counted : List Block → ℕ → Option Object
counted blocks r =
    object_of (λ p. content blocks (counted_at (restart_entries blocks) (32 * cylinders_of blocks) r p)) (remains_as (restart_entries blocks r))

-- an address of a root block: 0 is none
abbrev pub some_address : ℕ → Option ℕ
some_address a = cond (a == 0) None (Some a)

abbrev pub live_object : List Block → ℕ → Kind → ℕ → Option RootBlock → Option Object
live_object blocks r kind tag None = None
live_object blocks r kind tag (Some Dead) = None
live_object blocks r kind tag (Some (Live root)) =
    cond (root.id.tag == tag && root.id.root == r)
    (Some (record { kind = kind; tag = tag; positions = λ p. content blocks (some_address (slice_index root.blocks p)) })) None

-- an object exists if its root entry is allocated and its root block is live with that identifier
abbrev pub existing : List Block → ℕ → Entry → Option Object
existing blocks r Map = None
existing blocks r Free = None
existing blocks r (Root root_state.Allocated kind commit tag) = live_object blocks r kind tag (root_at blocks r)
existing blocks r (Root root_state.IntendingToDeallocate kind commit tag) = None
existing blocks r (Data state position owner) = None

abbrev pub shown : List Block → ℕ → Option Object
shown blocks r = existing blocks r (entry_at blocks r)
