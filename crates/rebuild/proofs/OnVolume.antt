-- Why the rebuilt map of a volume is the one that a restart goes by.
use Rattle.std.proofs.Common.{◌≡◌, ℕ, ◌+◌, ◌*◌, Bool, true, false, cond, eqb, List, length, get_or, Some, None, Option, sym, refl, ap, ◌∙◌}
use Rattle.device.specs.Blocks.{Block, block_at}
use Rattle.map.specs.Addresses.{root_place}
use Rattle.map.specs.Bytes.{number4}
use Rattle.map.specs.Checked.{checked}
use Rattle.map.specs.Entries.{kind_of}
use Rattle.map.specs.Identifiers.{identified}
use Rattle.map.specs.declared.identifier.Identifier.{Identifier}
use Rattle.map.specs.declared.kind.Kind.{Kind}
use Rattle.object.specs.Roots.{encoded_root, fits_root, addresses_in, read_live, read_root_block}
use Rattle.object.specs.declared.root.RootBlock.{RootBlock}
use Rattle.object.specs.declared.root.RootBlock.TheVariants.{Dead}
use Rattle.volume.specs.Volume.{cylinders_of, entry_at, root_in, root_at, is_unreadable, entries_with}
use Rattle.volume.proofs.Searching.{lowest_finds}
use Rattle.rebuild.specs.Laws.{Long, VolumeLaw}
use Rattle.rebuild.proofs.Rebuilt.{rebuild_law}

addresses_long : (bytes : List ℕ) → length (addresses_in bytes) ≡ 64
unfolding addresses_in
addresses_long bytes = refl

live_long : (bytes : List ℕ) (id : Option Identifier) (kind : Option Kind) → Long (read_live id kind (addresses_in bytes))
live_long bytes None kind = tt
live_long bytes (Some id) None = tt
live_long bytes (Some id) (Some kind) = addresses_long bytes

read_long : (bytes : List ℕ) → Long (read_root_block bytes)
read_long bytes = by (eqb (number4 bytes 0) 0)
  where
    by : (t : Bool) → Long (cond t (Some Dead) (read_live (identified (number4 bytes 0) (number4 bytes 4)) (kind_of (get_or bytes 8 0)) (addresses_in bytes)))
    by true = tt
    by false = live_long bytes (identified (number4 bytes 0) (number4 bytes 4)) (kind_of (get_or bytes 8 0))

either_long : (t : Bool) (o : Option RootBlock) → Long o → Long (cond t o None)
either_long true o long = long
either_long false o long = tt

checked_long : (fits : RootBlock → Bool) (bytes : List ℕ) (o : Option RootBlock) → Long o → Long (checked fits encoded_root bytes o)
checked_long fits bytes None long = tt
checked_long fits bytes (Some root) long = either_long _ (Some root) long

block_long : (cylinders a : ℕ) (block : Block) → Long (root_in cylinders a block)
block_long cylinders a Block.unreadable = tt
block_long cylinders a (Block.readable bytes) = checked_long (fits_root cylinders a) bytes (read_root_block bytes) (read_long bytes)

pub volume_law : VolumeLaw
volume_law = record {
  long = λ blocks n r h. long blocks r;
  lost = λ blocks c s is sh.
      let inside = (lowest_finds (λ d. is_unreadable (block_at blocks (32 * d))) (cylinders_of blocks) c is).1 in
      rebuild_law (entry_at blocks) (root_at blocks) (cylinders_of blocks) c s inside sh (λ r h. long blocks r) ∙ sym (ap (λ o. entries_with blocks o (32 * c + s)) is);
}
  where
    long : (blocks : List Block) (r : ℕ) → Long (root_at blocks r)
    long blocks r = either_long (root_place r) (root_in (cylinders_of blocks) r (block_at blocks r)) (block_long (cylinders_of blocks) r (block_at blocks r))
