-- What claims a position of an object that remains, or of one that is gone.
use Rattle.std.proofs.Common.{◌≡◌, ℕ, Bool, true, false, cond, ◌&&◌, eqb, Some, None, Option, sym, refl, ap, ◌∙◌, ⊎_elim}
use Rattle.std.proofs.lemmas.Bool.{ne_eqb, cases_eq}
use Rattle.map.specs.declared.entry.DataState.{DataState}
use Rattle.map.specs.declared.entry.Entry.{Entry}
use Rattle.map.specs.declared.entry.Entry.TheVariants.{Map, Free, Root, Data}
use Rattle.volume.specs.Committing.{state_for}
use Rattle.volume.specs.Counting.{Entries, Held, remains_as, bit, has_tag, state_counts, counts, for_position}

-- what an entry of the object says of a position, by its state and the bit
abbrev pub judged : Option DataState → Bool → Bool
judged None commit = false
judged (Some state) commit = state_counts state commit

-- an entry of an object that remains counts as its state and the object's bit say
pub own_claims : (F : Entries) (r p : ℕ) (object : Held) → remains_as (F r) ≡ Some object → (e : Entry) →
    (for_position r p e && counts F e) ≡ judged (state_for r object.tag p e) (bit (F r))
own_claims F r p object is Map = refl
own_claims F r p object is Free = refl
own_claims F r p object is (Root state k c t) = refl
own_claims F r p object is (Data state position owner) =
    ⊎_elim
    (λ (same : owner.root ≡ r).
    ap (λ q. (eqb owner.root r && eqb position p) && (has_tag owner.tag (remains_as (F q)) && state_counts state (bit (F q)))) same
    ∙ ap (λ o. (eqb owner.root r && eqb position p) && (has_tag owner.tag o && state_counts state (bit (F r)))) is
    ∙ regroup (eqb owner.root r) (eqb position p) (eqb object.tag owner.tag))
    (λ apart.
    let off = ne_eqb owner.root r apart in
    ap (λ t. (t && eqb position p) && counts F (Data state position owner)) off
    ∙ sym (ap (λ t. judged (cond ((t && eqb position p) && eqb object.tag owner.tag) (Some state) None) (bit (F r))) off))
    (cases_eq owner.root r)
  where
    regroup : (x y z : Bool) → ((x && y) && (z && state_counts state (bit (F r)))) ≡ judged (cond ((x && y) && z) (Some state) None) (bit (F r))
    regroup true true true = refl
    regroup true true false = refl
    regroup true false z = refl
    regroup false y z = refl

-- once the object is gone, nothing claims a position of it
pub gone_claims : (F : Entries) (r p : ℕ) → remains_as (F r) ≡ None → (e : Entry) → (for_position r p e && counts F e) ≡ false
gone_claims F r p gone Map = refl
gone_claims F r p gone Free = refl
gone_claims F r p gone (Root state k c t) = refl
gone_claims F r p gone (Data state position owner) =
    ⊎_elim
    (λ (same : owner.root ≡ r).
    let none = ap (λ q. remains_as (F q)) same ∙ gone in
    ap (λ o. (eqb owner.root r && eqb position p) && (has_tag owner.tag o && state_counts state (bit (F owner.root)))) none ∙ and_false (eqb owner.root r && eqb position p))
    (λ apart. ap (λ t. (t && eqb position p) && counts F (Data state position owner)) (ne_eqb owner.root r apart))
    (cases_eq owner.root r)
  where
    and_false : (x : Bool) → (x && false) ≡ false
    and_false true = refl
    and_false false = refl
