-- Why a map that is not chosen would not change, and the step of the loops that choose.
use Rattle.std.proofs.Common.{◌≡◌, Bool, false, cond, List, [], ◌∷◌, map, sym, refl, ap, ◌∙◌, ap₂}
use Rattle.std.proofs.lemmas.Bool.{or_parts, not-false, false≢true}
use Rattle.map.specs.declared.entry.DataState.TheVariants as data_state
use Rattle.map.specs.declared.entry.Entry.{Entry}
use Rattle.map.specs.declared.entry.Entry.TheVariants.{Map, Free, Root, Data}
use Rattle.map.specs.declared.entry.RootState.TheVariants as root_state
use Rattle.volume.specs.Choosing.{unsettled, any_of, ChoosingLaw}
use Rattle.volume.specs.Counting.{Entries, bit, counts}
use Rattle.volume.specs.Meeting.{Quiet}
use Rattle.volume.specs.Settling.{settled, cleared}

settled_already : (E : Entries) (e : Entry) → unsettled E e ≡ false → settled E e ≡ e
settled_already E Map off = refl
settled_already E Free off = refl
settled_already E (Root root_state.Allocated kind commit tag) off = refl
settled_already E (Root root_state.IntendingToDeallocate kind commit tag) off = absurd (false≢true (sym off))
settled_already E (Data data_state.Allocated position owner) off =
    ap (λ t. cond t (Data data_state.Allocated position owner) Free) (not-false (counts E (Data data_state.Allocated position owner)) off)
settled_already E (Data data_state.IntendingToAllocate position owner) off = absurd (false≢true (sym off))
settled_already E (Data data_state.IntendingToDeallocate position owner) off = absurd (false≢true (sym off))

cleared_already : (e : Entry) → bit e ≡ false → cleared e ≡ e
cleared_already Map off = refl
cleared_already Free off = refl
cleared_already (Root root_state.Allocated kind commit tag) off = ap (λ t. Root root_state.Allocated kind t tag) (sym off)
cleared_already (Root root_state.IntendingToDeallocate kind commit tag) off =
    ap (λ t. cond t Free (Root root_state.IntendingToDeallocate kind false tag)) off ∙ ap (λ t. Root root_state.IntendingToDeallocate kind t tag) (sym off)
cleared_already (Data state position owner) off = refl

pub quiet_already : (E : Entries) (e : Entry) → unsettled E e ≡ false → bit e ≡ false → Quiet E e
quiet_already E Map off unset = tt
quiet_already E Free off unset = tt
quiet_already E (Root root_state.Allocated kind commit tag) off unset = unset
quiet_already E (Root root_state.IntendingToDeallocate kind commit tag) off unset = absurd (false≢true (sym off))
quiet_already E (Data data_state.Allocated position owner) off unset = not-false (counts E (Data data_state.Allocated position owner)) off
quiet_already E (Data data_state.IntendingToAllocate position owner) off unset = absurd (false≢true (sym off))
quiet_already E (Data data_state.IntendingToDeallocate position owner) off unset = absurd (false≢true (sym off))

-- entries that are their own form, one by one, and so the map
map_already : (test : Entry → Bool) (f : Entry → Entry) → ((e : Entry) → test e ≡ false → f e ≡ e) → (entries : List Entry) → any_of test entries ≡ false → map f entries ≡ entries
map_already test f own [] off = refl
map_already test f own (e ∷ entries) off =
    let parts = or_parts (test e) (any_of test entries) off in
    ap₂ ◌∷◌ (own e parts.0) (map_already test f own entries parts.1)

pub choosing_law : ChoosingLaw
choosing_law = record {
  settled_already = settled_already;
  cleared_already = cleared_already;
  quiet = quiet_already;
  settled_map = λ E. map_already (unsettled E) (settled E) (settled_already E);
  cleared_map = map_already bit cleared cleared_already;
}
