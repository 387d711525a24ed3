-- Root blocks.
--   encoded_root   512 zeros; for a live one with tag, address and kind, and 64 addresses from byte 16 on
--   fits_root      a root block that may stand at an address, in a volume of so many cylinders
--   decoded_root   the root block whose bytes are exactly these, if it fits
--   RootsReturn    the two round trips
use Rattle.std.specs.Prelude.{◌≡◌, ℕ, ◌+◌, ◌^◌, ◌<◌, Bool, true, cond, ◌&&◌, ◌||◌, List, [], ◌∷◌, map, length, replicate, Some, None, Option, ◌==◌, nat_lt, slice_index}
use Rattle.std.specs.List.{list_all, range_with_len}
use Rattle.map.specs.Addresses.{cylinder_of, data_block}
use Rattle.map.specs.Bytes.{le4, number4, placed}
use Rattle.map.specs.Checked.{checked}
use Rattle.map.specs.Entries.{kind_number, kind_of}
use Rattle.map.specs.Identifiers.{is_identifier, identified}
use Rattle.map.specs.declared.identifier.Identifier.{Identifier}
use Rattle.map.specs.declared.kind.Kind.{Kind}
use Rattle.object.specs.Words.{word_at, bytes_of}
use Rattle.object.specs.declared.root.RootBlock.{RootBlock}
use Rattle.object.specs.declared.root.RootBlock.TheVariants.{Dead, Live}

unfoldable pub zeros : List ℕ
zeros = replicate 512 0

abbrev pub encoded_root : RootBlock → List ℕ
encoded_root Dead = zeros
encoded_root (Live root) =
    placed 16 (bytes_of root.blocks)
    (placed 8 (kind_number root.kind ∷ [])
    (placed 4 (le4 root.id.root)
    (placed 0 (le4 root.id.tag) zeros)))

-- an address of a position: 0, or a data block of this volume
abbrev pub fits_address : ℕ → ℕ → Bool
fits_address cylinders x = x == 0 || (data_block x && nat_lt (cylinder_of x) cylinders)

abbrev pub all_fit : ℕ → List ℕ → Bool
all_fit cylinders xs = list_all (fits_address cylinders) xs

abbrev pub fits_root : ℕ → ℕ → RootBlock → Bool
fits_root cylinders a Dead = true
fits_root cylinders a (Live root) = root.id.root == a && all_fit cylinders root.blocks

-- the 64 addresses
unfoldable pub addresses_in : List ℕ → List ℕ
addresses_in block = map (λ i. word_at block (8 + i)) (range_with_len 0 64)

abbrev pub read_live : Option Identifier → Option Kind → List ℕ → Option RootBlock
read_live None kind blocks = None
read_live (Some id) None blocks = None
read_live (Some id) (Some kind) blocks = Some (Live (record { id = id; kind = kind; blocks = blocks }))

-- the root block that the bytes name; a tag of 0 names a dead one
abbrev pub read_root_block : List ℕ → Option RootBlock
read_root_block block =
    cond (number4 block 0 == 0) (Some Dead) (read_live (identified (number4 block 0) (number4 block 4)) (kind_of (slice_index block 8)) (addresses_in block))

abbrev pub decoded_root : ℕ → ℕ → List ℕ → Option RootBlock
decoded_root cylinders a block = checked (fits_root cylinders a) encoded_root block (read_root_block block)

-- 64 addresses of two bytes, and an identifier, as the types say
abbrev pub Formed : RootBlock → Type 0
Formed Dead = Unit {0}
Formed (Live root) =
    (is_identifier root.id.tag root.id.root ≡ true) × (length root.blocks ≡ 64) × ((i : ℕ) → slice_index root.blocks i < 2 ^ 16)

pub record RootsReturn : Type 0 where
  pub bytes : (cylinders a : ℕ) (block : List ℕ) (root : RootBlock) → decoded_root cylinders a block ≡ Some root → (encoded_root root ≡ block) × (fits_root cylinders a root ≡ true)
  pub roots : (cylinders a : ℕ) (root : RootBlock) → Formed root → fits_root cylinders a root ≡ true → decoded_root cylinders a (encoded_root root) ≡ Some root
