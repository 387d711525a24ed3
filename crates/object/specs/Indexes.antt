-- Index entries: 64 to a position's block, eight bytes each.
--   index_position, index_byte  where entry e stands
--   entry_of   the identifier that stands there; anything else reads as none
--   entered    the block with entry e set, or emptied; its other bytes stay
--   EntriesReturn  an entry that is written is read again, and the others stay
use Rattle.std.specs.Prelude.{◌≡◌, ℕ, ◌+◌, ◌*◌, ◌/◌, ◌%◌, true, List, ◌++◌, length, Some, None, Option, ◌≢◌}
use Rattle.map.specs.Bytes.{le4, number4, placed}
use Rattle.map.specs.Identifiers.{is_identifier, identified}
use Rattle.map.specs.declared.identifier.Identifier.{Identifier}

abbrev pub index_position : ℕ → ℕ
index_position e = e / 64

abbrev pub index_byte : ℕ → ℕ
index_byte e = 8 * (e % 64)

abbrev pub entry_of : List ℕ → ℕ → Option Identifier
entry_of block e = identified (number4 block (index_byte e)) (number4 block (index_byte e + 4))

-- tag and address, or zeros for none
abbrev pub identifier_bytes : Option Identifier → List ℕ
identifier_bytes None = le4 0 ++ le4 0
identifier_bytes (Some id) = le4 id.tag ++ le4 id.root

abbrev pub entered : List ℕ → ℕ → Option Identifier → List ℕ
entered block e id = placed (index_byte e) (identifier_bytes id) block

-- an identifier is one, as its type says
abbrev pub Proper : Option Identifier → Type 0
Proper None = Unit {0}
Proper (Some id) = is_identifier id.tag id.root ≡ true

pub record EntriesReturn : Type 0 where
  pub written : (block : List ℕ) (e : ℕ) (id : Option Identifier) → length block ≡ 512 → Proper id → entry_of (entered block e id) e ≡ id
  pub others : (block : List ℕ) (e f : ℕ) (id : Option Identifier) → length block ≡ 512 → (f % 64 ≢ e % 64) → entry_of (entered block e id) f ≡ entry_of block f
