-- The premises of the laws about entries, entry by entry.
use Rattle.std.proofs.Common.{◌≡◌, ℕ, ◌%◌, Bool, true, false, cond, ◌&&◌, eqb, Some, None, sym, refl, ap, ◌∙◌, arith, lit<}
use Rattle.std.proofs.lemmas.Bool.{eqb-true, ne_eqb, true≢false}
use Rattle.map.specs.declared.entry.DataState.{DataState}
use Rattle.map.specs.declared.entry.DataState.TheVariants as data_state
use Rattle.map.specs.declared.entry.Entry.{Entry}
use Rattle.map.specs.declared.entry.Entry.TheVariants.{Map, Free, Root, Data}
use Rattle.map.specs.declared.entry.RootState.TheVariants as root_state
use Rattle.map.specs.declared.kind.Kind.TheVariants as kind
use Rattle.volume.specs.Committing.{state_for, NeverIn, Becomes}
use Rattle.volume.specs.Laws.{AtRest, Intends}
use Rattle.volume.specs.Search.{lowest}
use Rattle.volume.specs.Worked.{file, volume_with, saving}
use Rattle.volume.specs.WorkedVolume.{at_rest, EntryPremises}

-- by one test, the same for both
branch : (P : Entry → Entry → Type 0) (t : Bool) (x x' y y' : Entry) → (t ≡ true → P x x') → P y y' → P (cond t x y) (cond t x' y')
branch P true x x' y y' on off = on refl
branch P false x x' y y' on off = off

-- two volumes that differ in blocks 6 and 37, entry by entry
each_pair : (P : Entry → Entry → Type 0) (commit : Bool) (six six' seven seven' : Entry) (a : ℕ) → P Map Map →
    P (Root root_state.Allocated kind.Index false 9) (Root root_state.Allocated kind.Index false 9) →
    P (Root root_state.Allocated kind.Special commit 5) (Root root_state.Allocated kind.Special commit 5) → P six six' → (a ≡ 37 → P seven seven') → P Free Free →
    P (volume_with commit six seven a) (volume_with commit six' seven' a)
each_pair P commit six six' seven seven' a map index special first second free =
    branch P (eqb (a % 32) 0) _ _ _ _ (λ on. map)
    (branch P (eqb a 1) _ _ _ _ (λ on. index)
    (branch P (eqb a 2) _ _ _ _ (λ on. special)
    (branch P (eqb a 6) _ _ _ _ (λ on. first)
    (branch P (eqb a 37) _ _ _ _ (λ on. second (eqb-true a 37 on)) free))))

each : (P : Entry → Type 0) (commit : Bool) (six seven : Entry) (a : ℕ) → P Map → P (Root root_state.Allocated kind.Index false 9) →
    P (Root root_state.Allocated kind.Special commit 5) → P six → (a ≡ 37 → P seven) → P Free → P (volume_with commit six seven a)
each P commit six seven a = each_pair (λ e e'. P e) commit six six seven seven a

no_state : (state : DataState) → None ≡ Some state → ⊥
no_state state e = true≢false cc

-- the save has no entry for another position than 0
elsewhere : (p : ℕ) → (p ≡ 0 → ⊥) → (a : ℕ) → state_for 2 5 p (saving false a) ≡ None
elsewhere p ne a =
    let other : eqb 0 p ≡ false = ne_eqb 0 p (λ e. ne (sym e)) in
    each (λ e. state_for 2 5 p e ≡ None) false (Data data_state.IntendingToDeallocate 0 file) (Data data_state.IntendingToAllocate 0 file) a refl refl refl
    (ap (λ t. cond (eqb 2 2 && t && eqb 5 5) (Some data_state.IntendingToDeallocate) None) other)
    (λ at. ap (λ t. cond (eqb 2 2 && t && eqb 5 5) (Some data_state.IntendingToAllocate) None) other)
    refl

never : (p : ℕ) → (p ≡ 0 → ⊥) → (state : DataState) → NeverIn (saving false) 64 2 5 p state
never p ne state a h is = no_state state (sym (elsewhere p ne a) ∙ is)

renewed : Becomes (saving false) 64 2 5 0 (Some 37)
renewed = Becomes.renewed 37 (lit< tt) refl
    (λ a h.
    each (λ e. state_for 2 5 0 e ≡ Some data_state.Allocated → ⊥) false (Data data_state.IntendingToDeallocate 0 file) (Data data_state.IntendingToAllocate 0 file) a
    (no_state data_state.Allocated) (no_state data_state.Allocated) (no_state data_state.Allocated)
    (λ e. true≢false cc)
    (λ at e. true≢false cc)
    (no_state data_state.Allocated))
    (λ a h.
    each (λ e. state_for 2 5 0 e ≡ Some data_state.IntendingToAllocate → a ≡ 37) false (Data data_state.IntendingToDeallocate 0 file) (Data data_state.IntendingToAllocate 0 file) a
    (λ e. absurd (no_state data_state.IntendingToAllocate e))
    (λ e. absurd (no_state data_state.IntendingToAllocate e))
    (λ e. absurd (no_state data_state.IntendingToAllocate e))
    (λ e. absurd (true≢false cc))
    (λ at e. at)
    (λ e. absurd (no_state data_state.IntendingToAllocate e)))

pub entry_premises : EntryPremises
unfolding lowest
entry_premises = record {
  intends = λ a.
      each_pair (Intends at_rest) false (Data data_state.Allocated 0 file) (Data data_state.IntendingToDeallocate 0 file) Free (Data data_state.IntendingToAllocate 0 file) a
      Intends.stays Intends.stays Intends.stays (Intends.deallocates 0 file refl) (λ at. Intends.allocates 0 file refl) Intends.stays;
  to_allocate = refl;
  to_deallocate = refl;
  committing = refl;
  renewed = renewed;
  untouched = λ p ne. Becomes.untouched (never p ne data_state.IntendingToAllocate) (never p ne data_state.IntendingToDeallocate);
  to_remove = refl;
  has_block = refl;
  place_free = refl;
  unnamed = λ p a h. each (λ e. state_for 3 8 p e ≡ None) false (Data data_state.Allocated 0 file) Free a refl refl refl refl (λ at. refl) refl;
  rests = λ a. each AtRest true Free (Data data_state.Allocated 0 file) a tt tt tt tt (λ at. tt) tt;
  bit_set = refl;
}
