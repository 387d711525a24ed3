-- The root block of an object: what is stored is read again, and is the one that the entries make due.
use Rattle.std.proofs.Common.{◌≡◌, ℕ, suc, ◌*◌, ◌^◌, ◌<◌, ◌≤◌, true, ◌&&◌, eqb, ltb, leb, List, [], ◌∷◌, length, get_or, Some, None, Option, sym, refl, ap, ◌∙◌, ⊎_elim, arith}
use Rattle.std.proofs.lemmas.List.FromFn.{fill_by_all}
use Rattle.std.proofs.lemmas.List.{get_or_past}
use Rattle.std.proofs.lemmas.Bool.{and_parts, and_from, or_cases, or_right, eq-eqb, eqb-true, lt-ltb, ltb-true, leb-true, le-leb, cases_lt}
use Rattle.map.specs.Addresses.{cylinder_of, sector_of, root_place}
use Rattle.map.specs.Identifiers.{is_tag, is_identifier}
use Rattle.object.proofs.RootLaws.{roots_return}
use Rattle.object.specs.Roots.{encoded_root, fits_address, all_fit, decoded_root}
use Rattle.object.specs.declared.root.Root.{Root as RootOf}
use Rattle.object.specs.declared.root.RootBlock.TheVariants.{Live}
use Rattle.volume.specs.Counting.{Entries, held, remains_as, counted_at, address_or_0, counted_addresses, due_for, due}

-- a root place is past the map and before the data blocks
pub place_sides : (r : ℕ) → root_place r ≡ true → (1 ≤ sector_of r) × (sector_of r ≤ 4)
place_sides r place =
    let parts = and_parts (leb 1 (sector_of r)) (leb (sector_of r) 4) place in
    (leb-true 1 (sector_of r) parts.0, leb-true (sector_of r) 4 parts.1)

-- a tag and a root place of the volume are an identifier
pub identifies : (cylinders tag r : ℕ) → cylinders ≤ 64 → r < 32 * cylinders → is_tag tag ≡ true → root_place r ≡ true → is_identifier tag r ≡ true
identifies cylinders tag r few within tagged place =
    let small : cylinder_of r < 64 = omega arith in
    and_from (is_tag tag && root_place r) (ltb (cylinder_of r) 64) (and_from (is_tag tag) (root_place r) tagged place) (lt-ltb (cylinder_of r) 64 small)

-- addresses that fit one by one fit all
all_fit_each : (cylinders : ℕ) (xs : List ℕ) → ((i : ℕ) → i < length xs → fits_address cylinders (get_or xs i 0) ≡ true) → all_fit cylinders xs ≡ true
all_fit_each cylinders [] each = refl
all_fit_each cylinders (x ∷ xs) each =
    and_from (fits_address cylinders x) (all_fit cylinders xs) (each 0 (omega arith)) (all_fit_each cylinders xs (λ i h. each (suc i) (omega arith)))

-- no address, or that of a data block of the volume
pub address_fits : (cylinders : ℕ) (o : Option ℕ) → ((b : ℕ) → o ≡ Some b → (5 ≤ sector_of b) × (b < 32 * cylinders)) → fits_address cylinders (address_or_0 o) ≡ true
address_fits cylinders None place = refl
address_fits cylinders (Some b) place =
    let here = place b refl in
    let inside : cylinder_of b < cylinders = omega (arith, here.1) in
    or_right (eqb b 0) (leb 5 (sector_of b) && ltb (cylinder_of b) cylinders)
    (and_from (leb 5 (sector_of b)) (ltb (cylinder_of b) cylinders) (le-leb 5 (sector_of b) here.0) (lt-ltb (cylinder_of b) cylinders inside))

fits_short : (cylinders x : ℕ) → cylinders ≤ 64 → fits_address cylinders x ≡ true → x < 2048
fits_short cylinders x few fits =
    ⊎_elim (λ none. let zero_is : x ≡ 0 = eqb-true x 0 none in omega arith)
    (λ held. let inside = ltb-true (cylinder_of x) cylinders (and_parts (leb 5 (sector_of x)) (ltb (cylinder_of x) cylinders) held).1 in omega arith)
    (or_cases (eqb x 0) (leb 5 (sector_of x) && ltb (cylinder_of x) cylinders) fits)

-- 64 addresses that fit, and an identifier
module _ (cylinders : ℕ) (root : RootOf) (few : cylinders ≤ 64) (proper : is_identifier root.id.tag root.id.root ≡ true) (long : length root.blocks ≡ 64)
    (fit : (p : ℕ) → p < 64 → fits_address cylinders (get_or root.blocks p 0) ≡ true) where
  short : (i : ℕ) → get_or root.blocks i 0 < 2 ^ 16
  short i =
      ⊎_elim (λ (h : i < 64). let low = fits_short cylinders (get_or root.blocks i 0) few (fit i h) in omega arith)
      (λ past. let none : get_or root.blocks i 0 ≡ 0 = get_or_past root.blocks i 0 (omega arith) in omega arith)
      (cases_lt i 64)

  pub root_back : decoded_root cylinders root.id.root (encoded_root (Live root)) ≡ Some (Live root)
  root_back =
      roots_return.roots cylinders root.id.root (Live root) (proper, long, short)
      (and_from (eqb root.id.root root.id.root) (all_fit cylinders root.blocks) (eq-eqb root.id.root root.id.root refl)
      (all_fit_each cylinders root.blocks (λ i h. fit i (omega arith))))

-- the root block of the object that remains, with the addresses of the blocks that count
pub root_due : (E : Entries) (n : ℕ) (root : RootOf) → remains_as (E root.id.root) ≡ Some (held root.kind root.id.tag) → length root.blocks ≡ 64 →
    ((p : ℕ) → p < 64 → get_or root.blocks p 0 ≡ address_or_0 (counted_at E n root.id.root p)) → Live root ≡ due E n root.id.root
unfolding counted_addresses
root_due E n root remains long addresses =
    let listed : root.blocks ≡ counted_addresses E n root.id.root = fill_by_all (λ p. address_or_0 (counted_at E n root.id.root p)) root.blocks 64 0 long addresses in
    ap (λ xs. Live (record { id = root.id; kind = root.kind; blocks = xs })) listed
    ∙ sym (ap (due_for root.id.root (counted_addresses E n root.id.root)) remains)
