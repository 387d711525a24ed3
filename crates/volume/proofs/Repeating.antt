-- Why doing it twice is doing it once, and why a sound volume stays acceptable.
use Rattle.std.proofs.Common.{◌≡◌, ℕ, ◌*◌, ◌<◌, Bool, true, false, cond, ◌&&◌, List, None, sym, refl, ap, ◌∙◌, arith}
use Rattle.std.proofs.lemmas.Bool.{and_parts, true≢false}
use Rattle.device.specs.Blocks.{Block, block_at}
use Rattle.map.specs.Addresses.{cylinder_of, root_place}
use Rattle.map.specs.declared.entry.DataState.TheVariants as data_state
use Rattle.map.specs.declared.entry.Entry.{Entry}
use Rattle.map.specs.declared.entry.Entry.TheVariants.{Map, Free, Root, Data}
use Rattle.map.specs.declared.entry.RootState.TheVariants as root_state
use Rattle.map.specs.declared.identifier.Identifier.{Identifier}
use Rattle.volume.specs.Counting.{Entries, remains_as, bit, has_tag, state_counts, counts, claims, due}
use Rattle.volume.specs.MapStores.{Sound}
use Rattle.volume.specs.Rebuilding.{block_holds, rebuilt, rebuilt_entry}
use Rattle.volume.specs.Repeating.{Once, LostAccepted}
use Rattle.volume.specs.Settling.{settled, cleared}
use Rattle.volume.specs.Volume.{cylinders_of, entry_at, root_in, root_at}
use Rattle.volume.proofs.Fitting.{claim_for}
use Rattle.volume.proofs.LostMap.{holds_is}
use Rattle.volume.proofs.MapStores.{same_rebuilt}
use Rattle.volume.proofs.Reading.{usable_fits}

settled_twice : (E : Entries) (e : Entry) → settled E (settled E e) ≡ settled E e
settled_twice E Map = refl
settled_twice E Free = refl
settled_twice E (Root root_state.Allocated kind commit tag) = refl
settled_twice E (Root root_state.IntendingToDeallocate kind true tag) = refl
settled_twice E (Root root_state.IntendingToDeallocate kind false tag) = refl
settled_twice E (Data state position owner) = by (counts E (Data state position owner)) refl
  where
    by : (t : Bool) → counts E (Data state position owner) ≡ t →
        settled E (cond t (Data data_state.Allocated position owner) Free) ≡ cond t (Data data_state.Allocated position owner) Free
    by false off = refl
    by true on =
        ap (λ t. cond (t && true) (Data data_state.Allocated position owner) Free)
        (and_parts (has_tag owner.tag (remains_as (E owner.root))) (state_counts state (bit (E owner.root))) on).0

cleared_twice : (e : Entry) → cleared (cleared e) ≡ cleared e
cleared_twice Map = refl
cleared_twice Free = refl
cleared_twice (Root root_state.Allocated kind commit tag) = refl
cleared_twice (Root root_state.IntendingToDeallocate kind true tag) = refl
cleared_twice (Root root_state.IntendingToDeallocate kind false tag) = refl
cleared_twice (Data state position owner) = refl

pub once : Once
once = record {
  settling = settled_twice;
  clearing = cleared_twice;
  rebuilding = λ E R n c. same_rebuilt (rebuilt E R n c) E R n c (λ a away. ap (λ t. cond t (rebuilt_entry E R n c a) (E a)) away);
}

module _ (blocks : List Block) (sound : Sound blocks) where
  -- a root block that holds an address is that of a root place, and the address claims it
  held_claims : (r p a : ℕ) → r < 32 * cylinders_of blocks → p < 64 → a < 32 * cylinders_of blocks → 0 < a → block_holds (root_at blocks r) p a ≡ true → claims (entry_at blocks) r p a ≡ true
  held_claims r p a rh ph h positive holds = by (root_place r) refl
    where
      by : (t : Bool) → root_place r ≡ t → claims (entry_at blocks) r p a ≡ true
      by false place = absurd (true≢false (sym holds ∙ ap (λ t. block_holds (cond t (root_in (cylinders_of blocks) r (block_at blocks r)) None) p a) place))
      by true place =
          sym (holds_is (entry_at blocks) (root_at blocks) (cylinders_of blocks) (cylinder_of a) (omega arith) (usable_fits blocks sound.usable) sound.single sound.agree r p a rh place ph h positive) ∙ holds

  once_held : (r q p s a : ℕ) → r < 32 * cylinders_of blocks → q < 32 * cylinders_of blocks → p < 64 → s < 64 → a < 32 * cylinders_of blocks → 0 < a →
      block_holds (root_at blocks r) p a ≡ true → block_holds (root_at blocks q) s a ≡ true → (r ≡ q) × (p ≡ s)
  once_held r q p s a rh qh ph sh h positive first second =
      let one = claim_for (entry_at blocks) r p (entry_at blocks a) (held_claims r p a rh ph h positive first) in
      let two = claim_for (entry_at blocks) q s (entry_at blocks a) (held_claims q s a qh sh h positive second) in
      let same : Data one.0 p one.1.0 ≡ Data two.0 s two.1.0 = sym one.1.1 ∙ two.1.1 in
      let whom : one.1.0 ≡ two.1.0 = cc in
      (sym one.1.2 ∙ ap (λ (id : Identifier). id.root) whom ∙ two.1.2, cc)

pub lost_accepted : LostAccepted
lost_accepted blocks sound = record {
  roots = λ r h place. (due (entry_at blocks) (32 * cylinders_of blocks) r, sound.agree r h place);
  held_once = once_held blocks sound;
}
