-- Why a store at a free data block changes nothing.
use Rattle.std.proofs.Common.{◌≡◌, ℕ, ◌*◌, ◌<◌, ◌≤◌, ◌&&◌, List, length, set, Some, sym, refl, ap, ◌∙◌, subst₂, arith}
use mathlib.Core.Path.{fun_ext}
use Rattle.std.proofs.lemmas.Bool.{true≢false}
use Rattle.device.specs.Blocks.{Block}
use Rattle.device.specs.declared.answers.Manner.TheVariants as manner
use Rattle.map.specs.Addresses.{sector_of}
use Rattle.map.specs.declared.entry.Entry.TheVariants.{Free}
use Rattle.recovery.specs.Staging.{Staged, StageLaw}
use Rattle.volume.proofs.Changing.{complete_kept, agree_kept}
use Rattle.volume.proofs.Reading.{usable_none_lost}
use Rattle.volume.proofs.Searching.{lowest_finds}
use Rattle.volume.proofs.Stores.{same_cylinders, same_entries, same_root, free_block_law}
use Rattle.volume.specs.Counting.{Entries, counts, for_position, claims, counted_at}
use Rattle.volume.specs.Meeting.{Quiet, Rest}
use Rattle.volume.specs.Recoverable.{Complete}
use Rattle.volume.specs.Volume.{cylinders_of, entry_at, entries_with}

module _ (blocks : List Block) (a : ℕ) (rest : Rest blocks) (complete : Complete blocks) (within : a < length blocks) (high : 5 ≤ sector_of a) (free : entry_at blocks a ≡ Free) where
  -- no position counts a free block
  uncounted : (r p : ℕ) → counted_at (entry_at blocks) (32 * cylinders_of blocks) r p ≡ Some a → ⊥
  uncounted r p found =
      let claim = (lowest_finds (claims (entry_at blocks) r p) (32 * cylinders_of blocks) a found).0 in
      true≢false (sym (ap (λ e. for_position r p e && counts (entry_at blocks) e) (sym free) ∙ claim))

  changed : (x : Block) → Staged blocks (set blocks a x)
  changed x =
      let size = same_cylinders blocks a x in
      let entries = same_entries blocks a x (omega arith) in
      let still = complete_kept.free_block blocks a x high complete uncounted in
      let by_maps = ap (entries_with blocks) (usable_none_lost blocks complete.usable) in
      record {
        rest = record {
          usable = still.usable;
          quiet = subst₂ (λ (m : ℕ) (E : Entries). (b : ℕ) → b < 32 * m → Quiet E (E b)) (sym size) (sym entries) rest.quiet;
          single = still.single;
          agree = agree_kept.data_block blocks a x high rest.agree;
        };
        complete = still;
        entries = entries;
        roots = fun_ext (same_root blocks a x high);
        shows = free_block_law blocks a x within high (λ r p found. uncounted r p (ap (λ E. counted_at E (32 * cylinders_of blocks) r p) (sym by_maps) ∙ found));
      }

  untouched : Staged blocks blocks
  untouched = record { rest = rest; complete = complete; entries = refl; roots = refl; shows = λ r. refl }

pub stage_law : StageLaw
stage_law blocks a manner.Old bytes rest complete within high free = untouched blocks a rest complete within high free
stage_law blocks a manner.New bytes rest complete within high free = changed blocks a rest complete within high free (Block.readable bytes)
stage_law blocks a manner.Unreadable bytes rest complete within high free = changed blocks a rest complete within high free Block.unreadable
