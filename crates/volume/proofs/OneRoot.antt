-- A change of one root place's entry, which is no data entry before or after: other objects stay.
use Rattle.std.proofs.Common.{◌≡◌, ℕ, false, ◌&&◌, eqb, sym, refl, ap, ◌∙◌, ⊎_elim}
use Rattle.std.proofs.lemmas.Bool.{ne_eqb, cases_eq}
use Rattle.map.specs.declared.entry.Entry.{Entry}
use Rattle.map.specs.declared.entry.Entry.TheVariants.{Map, Free, Root, Data}
use Rattle.volume.specs.Committing.{OthersStay}
use Rattle.volume.specs.Counting.{Entries, remains_as, bit, has_tag, state_counts, counts, for_position, claims}
use Rattle.volume.proofs.Searching.{lowest_below}

module _ (E F : Entries) (r : ℕ) (elsewhere : (a : ℕ) → (a ≡ r → ⊥) → F a ≡ E a)
    (was : (q p : ℕ) → for_position q p (E r) ≡ false) (is : (q p : ℕ) → for_position q p (F r) ≡ false) where
  -- a claim is one of the entry as it was, judged by the new entries
  pub claims_judged : (q p a : ℕ) → claims F q p a ≡ (for_position q p (E a) && counts F (E a))
  claims_judged q p a =
      ⊎_elim
      (λ (e : a ≡ r).
      ap (λ b. for_position q p (F b) && counts F (F b)) e ∙ ap (λ t. t && counts F (F r)) (is q p)
      ∙ sym (ap (λ b. for_position q p (E b) && counts F (E b)) e ∙ ap (λ t. t && counts F (E r)) (was q p)))
      (λ ne. ap (λ e. for_position q p e && counts F e) (elsewhere a ne))
      (cases_eq a r)

  -- an entry for another object is judged by that object's root entry, which stays
  other_claims : (q p : ℕ) → (q ≡ r → ⊥) → (e : Entry) → (for_position q p e && counts F e) ≡ (for_position q p e && counts E e)
  other_claims q p ne Map = refl
  other_claims q p ne Free = refl
  other_claims q p ne (Root state kind commit tag) = refl
  other_claims q p ne (Data state position owner) =
      ⊎_elim
      (λ (same : owner.root ≡ q).
      ap (λ e. (eqb owner.root q && eqb position p) && (has_tag owner.tag (remains_as e) && state_counts state (bit e))) (elsewhere owner.root (λ e. ne (sym same ∙ e))))
      (λ apart.
      let off = ne_eqb owner.root q apart in
      ap (λ t. (t && eqb position p) && counts F (Data state position owner)) off ∙ sym (ap (λ t. (t && eqb position p) && counts E (Data state position owner)) off))
      (cases_eq owner.root q)

  -- and so do the claims for other objects
  pub others_claim : (q p a : ℕ) → (q ≡ r → ⊥) → claims F q p a ≡ claims E q p a
  others_claim q p a ne = claims_judged q p a ∙ other_claims q p ne (E a)

  pub others_stay : OthersStay r E F
  others_stay = record {
    remains = λ q ne. ap remains_as (elsewhere q ne);
    counted = λ n q p ne. lowest_below (claims F q p) (claims E q p) n (λ a h. others_claim q p a ne);
  }
