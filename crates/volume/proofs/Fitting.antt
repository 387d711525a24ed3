-- Where a data entry stands and whom it names, what claims a position, and the address that is due there.
use Rattle.std.proofs.Common.{◌≡◌, ℕ, ◌*◌, ◌<◌, ◌≤◌, true, ◌&&◌, eqb, ltb, leb, get_or, sym, ap, arith}
use Rattle.std.proofs.lemmas.List.FromFn.{get_or-map-range_with_len}
use Rattle.std.proofs.lemmas.Bool.{and_parts, ltb-true, leb-true, eqb-true, true≢false}
use Rattle.map.specs.Addresses.{cylinder_of, sector_of, root_place}
use Rattle.map.specs.Entries.{fits_entry, Named}
use Rattle.map.specs.Identifiers.{is_tag}
use Rattle.map.specs.declared.entry.DataState.{DataState}
use Rattle.map.specs.declared.entry.Entry.{Entry}
use Rattle.map.specs.declared.entry.Entry.TheVariants.{Map, Free, Root, Data}
use Rattle.map.specs.declared.identifier.Identifier.{Identifier}
use Rattle.volume.specs.Counting.{Entries, counts, for_position, counted_at, address_or_0, counted_addresses}

-- where a data entry stands, and whom it names
pub record DataFits (cylinders a p : ℕ) (owner : Identifier) : Type 0 where
  pub place : 5 ≤ sector_of a
  pub few : p < 64
  pub root : root_place owner.root ≡ true
  pub within : owner.root < 32 * cylinders

pub data_fits : (cylinders a p : ℕ) (state : DataState) (owner : Identifier) → fits_entry cylinders a (Data state p owner) ≡ true → Named (Data state p owner) → DataFits cylinders a p owner
data_fits cylinders a p state owner fits named =
    let parts = and_parts (leb 5 (sector_of a) && ltb p 64) (ltb (cylinder_of owner.root) cylinders) fits in
    let place = and_parts (leb 5 (sector_of a)) (ltb p 64) parts.0 in
    let names = and_parts (is_tag owner.tag && root_place owner.root) (ltb (cylinder_of owner.root) 64) named in
    let inside = ltb-true (cylinder_of owner.root) cylinders parts.1 in
    record {
      place = leb-true 5 (sector_of a) place.0;
      few = ltb-true p 64 place.1;
      root = (and_parts (is_tag owner.tag) (root_place owner.root) names.0).1;
      within = omega arith;
    }

-- an entry that claims a position is a data entry for it
pub claim_for : (E : Entries) (r p : ℕ) (e : Entry) → (for_position r p e && counts E e) ≡ true →
    (state : DataState) × ((owner : Identifier) × (e ≡ Data state p owner) × (owner.root ≡ r) × (counts E e ≡ true))
claim_for E r p Map h = absurd (true≢false (sym h))
claim_for E r p Free h = absurd (true≢false (sym h))
claim_for E r p (Root state kind commit tag) h = absurd (true≢false (sym h))
claim_for E r p (Data state position owner) h =
    let parts = and_parts (eqb owner.root r && eqb position p) (counts E (Data state position owner)) h in
    let place = and_parts (eqb owner.root r) (eqb position p) parts.0 in
    (state, (owner, ap (λ q. Data state q owner) (eqb-true position p place.1), eqb-true owner.root r place.0, parts.1))

pub address_at : (E : Entries) (n r p : ℕ) → p < 64 → get_or (counted_addresses E n r) p 0 ≡ address_or_0 (counted_at E n r p)
unfolding counted_addresses
address_at E n r p h = get_or-map-range_with_len (λ q. address_or_0 (counted_at E n r q)) 0 64 p p 0 h (omega arith)
