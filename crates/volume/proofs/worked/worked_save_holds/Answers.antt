use Rattle.std.proofs.Common.{refl}
use Rattle.volume.specs.Counting.{counted_addresses}
use Rattle.volume.specs.Search.{lowest, any}
use Rattle.volume.proofs.WorkedSave.{premises_hold}
use Rattle.volume.proofs.worked.worked_save_holds.Goals as goal

pub returns : goal.returns
unfolding lowest any counted_addresses
returns c = record {
  save = record {
    before = refl;
    bit_set = refl;
    due_before = refl;
    due_after = refl;
    old_freed = refl;
    new_kept = refl;
    bit_cleared = refl;
    lost_0_bit = refl;
    lost_0_claim = refl;
    lost_1_entry = refl;
    lost_0_entry = refl;
    lost_1_free = refl;
  };
  premises = premises_hold;
  shortcuts = record { partnerless = refl; bit_forgotten = refl; counted_before = refl; too_early = refl };
}
