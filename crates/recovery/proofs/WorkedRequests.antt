-- Why these requests may be made of the volume at rest.
use Rattle.std.proofs.Common.{◌≡◌, ℕ, zero, suc, ◌*◌, ◌/◌, ◌<◌, ◌≤◌, false, List, [], ◌∷◌, length, get_or, replicate, Some, None, Option, sym, refl, ap, ◌∙◌, subst, arith, lit≤}
use Rattle.std.proofs.lemmas.Bool.{true≢false}
use Rattle.device.specs.Gathers.{gathered}
use Rattle.journal.specs.Carried.{planned}
use Rattle.journal.specs.Committing.{commit_plan}
use Rattle.journal.specs.Rows.{row_of}
use Rattle.journal.specs.Rules.{each_at, any_at}
use Rattle.journal.specs.declared.row.Row.TheVariants.{Untouched, New}
use Rattle.map.specs.Addresses.{sector_of}
use Rattle.map.specs.Bytes.{placed}
use Rattle.map.specs.Maps.{encoded_from}
use Rattle.map.specs.declared.entry.Entry.TheVariants.{Free, Root}
use Rattle.map.specs.declared.entry.RootState.TheVariants as root_state
use Rattle.map.specs.declared.kind.Kind.TheVariants as kind
use Rattle.object.specs.Roots.{zeros, addresses_in}
use Rattle.object.specs.declared.root.RootBlock.{RootBlock}
use Rattle.object.specs.declared.root.RootBlock.TheVariants.{Dead, Live}
use Rattle.recovery.specs.Committing.{block_after}
use Rattle.recovery.specs.Worked.{asked_rows, asked_root, RequestsMet}
use Rattle.volume.proofs.Fitting.{address_at}
use Rattle.volume.proofs.RestingVolume.{block_premises}
use Rattle.volume.specs.Counting.{counted_at, address_or_0, counted_addresses, due_for, remains_as}
use Rattle.volume.specs.Search.{lowest}
use Rattle.volume.specs.Volume.{cylinders_of, entry_at, root_at}
use Rattle.volume.specs.WorkedVolume.{resting, file_root}

few : cylinders_of resting ≡ 2
few = ap (λ m. m / 32) block_premises.two_cylinders

-- the entries, by computing
file_entry : entry_at resting 2 ≡ Root root_state.Allocated kind.Special false 5
unfolding resting gathered encoded_from
file_entry = refl

free_entry : entry_at resting 38 ≡ Free
free_entry = block_premises.marked

free_place : entry_at resting 3 ≡ Free
unfolding resting gathered encoded_from
free_place = refl

-- the file's root block, by computing
file_block : root_at resting 2 ≡ Some file_root
unfolding resting zeros placed addresses_in
file_block = refl

abbrev addresses_of : Option RootBlock → List ℕ
addresses_of None = []
addresses_of (Some Dead) = []
addresses_of (Some (Live root)) = root.blocks

-- so its counted blocks are those of its root block
file_addresses : 6 ∷ 37 ∷ replicate 62 0 ≡ counted_addresses (entry_at resting) (32 * cylinders_of resting) 2
file_addresses =
    ap addresses_of (sym file_block ∙ block_premises.rest.agree 2 (omega (arith, few)) refl)
    ∙ ap (λ e. addresses_of (Some (due_for 2 (counted_addresses (entry_at resting) (32 * cylinders_of resting) 2) (remains_as e)))) file_entry

file_address : (p : ℕ) → p < 64 → get_or (6 ∷ 37 ∷ replicate 62 0) p 0 ≡ address_or_0 (counted_at (entry_at resting) (32 * cylinders_of resting) 2 p)
file_address p h = ap (λ xs. get_or xs p 0) file_addresses ∙ address_at (entry_at resting) (32 * cylinders_of resting) 2 p h

-- past a list of one thing, and inside it, that thing is found
same_thing : {X : Type 0} (m k : ℕ) (x : X) → get_or (replicate m x) k x ≡ x
same_thing zero k x = refl
same_thing (suc m) zero x = refl
same_thing (suc m) (suc k) x = same_thing m k x

-- one row is new
only_new : (p b : ℕ) → row_of asked_rows p ≡ New b → (p ≡ 2) × (b ≡ 38)
only_new zero b is = absurd (true≢false cc)
only_new (suc zero) b is = absurd (true≢false cc)
only_new (suc (suc zero)) b is = (refl, cc)
only_new (suc (suc (suc k))) b is = let none : get_or (replicate 61 Untouched) k Untouched ≡ Untouched = same_thing 61 k Untouched in absurd (true≢false cc)

asked_address : (p : ℕ) → p < 64 → get_or asked_root.blocks p 0 ≡ address_or_0 (block_after resting 2 p (row_of asked_rows p))
asked_address zero h = refl
asked_address (suc zero) h = file_address 1 h
asked_address (suc (suc zero)) h = refl
asked_address (suc (suc (suc k))) h =
    let is : row_of asked_rows (suc (suc (suc k))) ≡ Untouched = same_thing 61 k Untouched in
    let zero_now : get_or (replicate 61 0) k 0 ≡ 0 = same_thing 61 k 0 in
    let zero_was : get_or (replicate 62 0) (suc k) 0 ≡ 0 = same_thing 62 (suc k) 0 in
    zero_now ∙ sym zero_was ∙ file_address (suc (suc (suc k))) h ∙ sym (ap (λ row. address_or_0 (block_after resting 2 (suc (suc (suc k))) row)) is)

-- the transaction takes four stores: two maps, the root block, and the map with the bit
four : length (commit_plan asked_root asked_rows resting) ≡ 4
unfolding resting gathered encoded_from planned any_at each_at lowest
four = refl

pub requests_met : RequestsMet
requests_met = record {
  saves = record {
    rest = block_premises.rest;
    complete = block_premises.complete;
    whole = block_premises.two_cylinders ∙ sym (ap (λ m. 32 * m) few);
    few = omega (arith, few);
    within = omega (arith, few);
    exists = file_entry;
    rows_long = refl;
    new = λ p b is. let at : b ≡ 38 = (only_new p b is).1 in record { free = ap (entry_at resting) at ∙ free_entry; place = subst (λ d. 5 ≤ sector_of d) (sym at) (lit≤ tt); within = omega (arith, few) };
    apart = λ p q b one two. (only_new p b one).0 ∙ sym (only_new q b two).0;
    long = refl;
    addresses = asked_address;
    readable = λ index. absurd (true≢false cc);
  };
  stores = four;
  creates = record {
    rest = block_premises.rest;
    complete = block_premises.complete;
    whole = block_premises.two_cylinders ∙ sym (ap (λ m. 32 * m) few);
    few = omega (arith, few);
    within = omega (arith, few);
    place = refl;
    free = free_place;
    tag = refl;
    empty = refl;
  };
  stages = (omega (arith, block_premises.two_cylinders), lit≤ tt, free_entry);
}
