-- Why setting a commit bit changes one object and nothing else.
use Rattle.std.proofs.Common.{◌≡◌, ℕ, ◌<◌, Bool, true, false, cond, Some, None, Option, sym, refl, ap, ◌∙◌, arith}
use Rattle.std.proofs.lemmas.Bool.{eq-eqb, ne_eqb, true≢false}
use Rattle.map.specs.declared.entry.DataState.{DataState}
use Rattle.map.specs.declared.entry.DataState.TheVariants as data_state
use Rattle.map.specs.declared.entry.Entry.TheVariants.{Free, Root}
use Rattle.map.specs.declared.entry.RootState.{RootState}
use Rattle.map.specs.declared.entry.RootState.TheVariants as root_state
use Rattle.map.specs.declared.kind.Kind.{Kind}
use Rattle.volume.specs.Committing.{state_for, Becomes, marked, with_bit, CommitLaw, RemovalLaw, with_object, CreateLaw}
use Rattle.volume.specs.Counting.{Entries, remains_as, bit, for_position, claims, counted_at, held}
use Rattle.volume.proofs.OneRoot.{claims_judged, others_claim, others_stay}
use Rattle.volume.proofs.Claiming.{judged, own_claims, gone_claims}
use Rattle.volume.proofs.Searching.{lowest_below, lowest_none, lowest_first}

with_bit_at : (E : Entries) (r : ℕ) → with_bit r E r ≡ marked (E r)
with_bit_at E r = ap (λ t. cond t (marked (E r)) (E r)) (eq-eqb r r refl)

pub with_bit_other : (E : Entries) (r a : ℕ) → (a ≡ r → ⊥) → with_bit r E a ≡ E a
with_bit_other E r a ne = ap (λ t. cond t (marked (E a)) (E a)) (ne_eqb a r ne)

-- a root entry is no data entry, marked or not
root_apart : (E : Entries) (r tag : ℕ) (state : RootState) (kind : Kind) (commit : Bool) → E r ≡ Root state kind commit tag → (q p : ℕ) → for_position q p (E r) ≡ false
root_apart E r tag state kind commit is q p = ap (for_position q p) is

-- setting a bit leaves what is claimed for other objects
pub marked_claims : (E : Entries) (r tag : ℕ) (state : RootState) (kind : Kind) → E r ≡ Root state kind false tag → (q p a : ℕ) → (q ≡ r → ⊥) → claims (with_bit r E) q p a ≡ claims E q p a
marked_claims E r tag state kind is =
    others_claim E (with_bit r E) r (with_bit_other E r) (root_apart E r tag state kind false is) (root_apart (with_bit r E) r tag state kind true (with_bit_at E r ∙ ap marked is))

module _ (E : Entries) (n r tag : ℕ) (kind : Kind) (is : E r ≡ Root root_state.Allocated kind false tag) where
  set_bit : with_bit r E r ≡ Root root_state.Allocated kind true tag
  set_bit = with_bit_at E r ∙ ap marked is

  claim_before : (p a : ℕ) → claims E r p a ≡ judged (state_for r tag p (E a)) false
  claim_before p a = own_claims E r p (held kind tag) (ap remains_as is) (E a) ∙ ap (judged (state_for r tag p (E a))) (ap bit is)

  claim_after : (p a : ℕ) → claims (with_bit r E) r p a ≡ judged (state_for r tag p (E a)) true
  claim_after p a =
      claims_judged E (with_bit r E) r (with_bit_other E r) (root_apart E r tag root_state.Allocated kind false is) (root_apart (with_bit r E) r tag root_state.Allocated kind true set_bit) r p a ∙ own_claims (with_bit r E) r p (held kind tag) (ap remains_as set_bit) (E a) ∙ ap (judged (state_for r tag p (E a))) (ap bit set_bit)

  same_judged : (o : Option DataState) → (o ≡ Some data_state.IntendingToAllocate → ⊥) → (o ≡ Some data_state.IntendingToDeallocate → ⊥) → judged o true ≡ judged o false
  same_judged None no_new no_old = refl
  same_judged (Some data_state.Allocated) no_new no_old = refl
  same_judged (Some data_state.IntendingToAllocate) no_new no_old = absurd (no_new refl)
  same_judged (Some data_state.IntendingToDeallocate) no_new no_old = absurd (no_old refl)

  not_judged : (o : Option DataState) → (o ≡ Some data_state.Allocated → ⊥) → (o ≡ Some data_state.IntendingToAllocate → ⊥) → judged o true ≡ false
  not_judged None no_held no_new = refl
  not_judged (Some data_state.Allocated) no_held no_new = absurd (no_held refl)
  not_judged (Some data_state.IntendingToAllocate) no_held no_new = absurd (no_new refl)
  not_judged (Some data_state.IntendingToDeallocate) no_held no_new = refl

  becomes : (p : ℕ) {o : Option ℕ} → Becomes E n r tag p o → counted_at (with_bit r E) n r p ≡ o
  becomes p (Becomes.untouched no_new no_old) =
      lowest_below (claims (with_bit r E) r p) (claims E r p) n (λ a h. claim_after p a ∙ same_judged (state_for r tag p (E a)) (no_new a h) (no_old a h) ∙ sym (claim_before p a))
  becomes p (Becomes.renewed b within new no_held only) =
      lowest_first (claims (with_bit r E) r p) n b within (claim_after p b ∙ ap (λ o. judged o true) new)
      (λ a h. claim_after p a ∙ not_judged (state_for r tag p (E a)) (no_held a (omega arith)) (λ e. let same = only a (omega arith) e in omega arith))
  becomes p (Becomes.emptied no_held no_new) =
      lowest_none (claims (with_bit r E) r p) n (λ a h. claim_after p a ∙ not_judged (state_for r tag p (E a)) (no_held a h) (no_new a h))

  new_judged : (o : Option DataState) → (o ≡ Some data_state.Allocated → ⊥) → judged o true ≡ true → o ≡ Some data_state.IntendingToAllocate
  new_judged None no_held is_judged = absurd (true≢false (sym is_judged))
  new_judged (Some data_state.Allocated) no_held is_judged = absurd (no_held refl)
  new_judged (Some data_state.IntendingToAllocate) no_held is_judged = refl
  new_judged (Some data_state.IntendingToDeallocate) no_held is_judged = absurd (true≢false (sym is_judged))

  -- a position that no two entries claimed is claimed by no two after
  pub becomes_single : (p : ℕ) {o : Option ℕ} → Becomes E n r tag p o → ((a b : ℕ) → a < n → b < n → claims E r p a ≡ true → claims E r p b ≡ true → a ≡ b) →
      (a b : ℕ) → a < n → b < n → claims (with_bit r E) r p a ≡ true → claims (with_bit r E) r p b ≡ true → a ≡ b
  becomes_single p (Becomes.untouched no_new no_old) single a b ha hb one two = single a b ha hb (before a ha ∙ one) (before b hb ∙ two)
    where
      before : (x : ℕ) → x < n → claims E r p x ≡ claims (with_bit r E) r p x
      before x h = claim_before p x ∙ sym (same_judged (state_for r tag p (E x)) (no_new x h) (no_old x h)) ∙ sym (claim_after p x)
  becomes_single p (Becomes.renewed d within new no_held only) single a b ha hb one two = at a ha one ∙ sym (at b hb two)
    where
      at : (x : ℕ) → x < n → claims (with_bit r E) r p x ≡ true → x ≡ d
      at x h claim = only x h (new_judged (state_for r tag p (E x)) (no_held x h) (sym (claim_after p x) ∙ claim))
  becomes_single p (Becomes.emptied no_held no_new) single a b ha hb one two =
      absurd (true≢false (sym one ∙ claim_after p a ∙ not_judged (state_for r tag p (E a)) (no_held a ha) (no_new a ha)))

pub commit_law : CommitLaw
commit_law E n r tag kind is = record {
  object = ap remains_as (set_bit E n r tag kind is) ∙ sym (ap remains_as is);
  position = λ p o b. becomes E n r tag kind is p b;
  others = others_stay E (with_bit r E) r (with_bit_other E r) (root_apart E r tag root_state.Allocated kind false is) (root_apart (with_bit r E) r tag root_state.Allocated kind true (set_bit E n r tag kind is));
}

pub removal_law : RemovalLaw
removal_law E n r tag kind is =
    let set : with_bit r E r ≡ Root root_state.IntendingToDeallocate kind true tag = with_bit_at E r ∙ ap marked is in
    let gone : remains_as (with_bit r E r) ≡ None = ap remains_as set in
    let was = root_apart E r tag root_state.IntendingToDeallocate kind false is in
    let now = root_apart (with_bit r E) r tag root_state.IntendingToDeallocate kind true set in
    record {
      object = gone;
      position = λ p. lowest_none (claims (with_bit r E) r p) n (λ a h. claims_judged E (with_bit r E) r (with_bit_other E r) was now r p a ∙ gone_claims (with_bit r E) r p gone (E a));
      others = others_stay E (with_bit r E) r (with_bit_other E r) was now;
    }

with_object_at : (E : Entries) (r tag : ℕ) (kind : Kind) → with_object r kind tag E r ≡ Root root_state.Allocated kind false tag
with_object_at E r tag kind = ap (λ t. cond t (Root root_state.Allocated kind false tag) (E r)) (eq-eqb r r refl)

pub with_object_other : (E : Entries) (r tag : ℕ) (kind : Kind) (a : ℕ) → (a ≡ r → ⊥) → with_object r kind tag E a ≡ E a
with_object_other E r tag kind a ne = ap (λ t. cond t (Root root_state.Allocated kind false tag) (E a)) (ne_eqb a r ne)

-- and so does a new object
pub created_claims : (E : Entries) (r tag : ℕ) (kind : Kind) → E r ≡ Free → (q p a : ℕ) → (q ≡ r → ⊥) → claims (with_object r kind tag E) q p a ≡ claims E q p a
created_claims E r tag kind free =
    others_claim E (with_object r kind tag E) r (with_object_other E r tag kind) (λ q p. ap (for_position q p) free) (root_apart (with_object r kind tag E) r tag root_state.Allocated kind false (with_object_at E r tag kind))

pub create_law : CreateLaw
create_law E n r tag kind free unnamed =
    let there = with_object_at E r tag kind in
    let was = λ (q p : ℕ). ap (for_position q p) free in
    let now = root_apart (with_object r kind tag E) r tag root_state.Allocated kind false there in
    let named = ap remains_as there in
    record {
      object = named;
      position = λ p. lowest_none (claims (with_object r kind tag E) r p) n
          (λ a h. claims_judged E (with_object r kind tag E) r (with_object_other E r tag kind) was now r p a
          ∙ own_claims (with_object r kind tag E) r p (held kind tag) named (E a)
          ∙ ap (λ o. judged o (bit (with_object r kind tag E r))) (unnamed p a h));
      others = others_stay E (with_object r kind tag E) r (with_object_other E r tag kind) was now;
    }
