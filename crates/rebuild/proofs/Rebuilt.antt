-- Why the lost map, taken and noted, is the map that the root blocks give back.
use Rattle.std.proofs.Common.{◌≡◌, ℕ, ◌+◌, ◌*◌, ◌/◌, ◌%◌, ◌<◌, ◌≤◌, Bool, true, false, cond, not, ◌&&◌, eqb, leb, get_or, Some, None, Option, sym, refl, ap, ◌∙◌, ap₂, ⊎_elim, arith}
use Rattle.std.proofs.lemmas.Bool.{and_from, eq-eqb, ne_eqb, lt-leb, le-leb, and_left, and_right, cases_eq, cases_lt}
use Rattle.map.specs.Addresses.{cylinder_of, sector_of, root_place}
use Rattle.map.specs.declared.entry.Entry.{Entry}
use Rattle.map.specs.declared.entry.Entry.TheVariants.{Map, Free, Root}
use Rattle.map.specs.declared.entry.RootState.TheVariants as root_state
use Rattle.object.specs.declared.root.RootBlock.{RootBlock}
use Rattle.object.specs.declared.root.RootBlock.TheVariants.{Dead, Live}
use Rattle.volume.specs.Committing.{marked}
use Rattle.volume.specs.Counting.{Entries}
use Rattle.volume.specs.Rebuilding.{RootBlocks, holder, held_entry, data_entry, root_entry, rebuilt_entry, rebuilt}
use Rattle.volume.specs.Search.{any}
use Rattle.rebuild.specs.Laws.{AllLong, rebuilt_map, RebuildLaw}
use Rattle.rebuild.specs.Noting.{places_to, place_of, shown_by}
use Rattle.rebuild.specs.Taking.{empty_map, taken_to}
use Rattle.rebuild.proofs.Held.{data_taken}
use Rattle.rebuild.proofs.Noted.{noted_sector, or_dead, place_found}
use Rattle.rebuild.proofs.RootSectors.{due, low_taken}
use Rattle.rebuild.proofs.Sectors.{by_now, own_sector, own_cylinder}
use Rattle.rebuild.proofs.Taken.{bare, taken_long}

-- only a root entry has a bit
held_unmarked : (o : Option RootBlock) (p : ℕ) → marked (held_entry o p) ≡ held_entry o p
held_unmarked None p = refl
held_unmarked (Some Dead) p = refl
held_unmarked (Some (Live root)) p = refl

data_unmarked : (R : RootBlocks) (o : Option ℕ) → marked (data_entry R o) ≡ data_entry R o
data_unmarked R None = refl
data_unmarked R (Some k) = held_unmarked (R (k / 64)) (k % 64)

no_bit : (t : Bool) (e : Entry) → marked e ≡ e → cond t (marked e) e ≡ e
no_bit true e is = is
no_bit false e is = refl

module _ (E : Entries) (R : RootBlocks) (n c s : ℕ) (sh : s < 32) (inside : 32 * c + s < n) (full : AllLong R n) where
  -- whether a root block at this sector would have the bit
  abbrev shown : RootBlock → Bool
  shown root = any (λ b. not (eqb (cylinder_of b) c) && shown_by root (32 * c + s) b (E b)) n

  noted : get_or (rebuilt_map c E R n) s Map ≡ cond (shown (place_of c (places_to c R n) (32 * c + s))) (marked (get_or (taken_to c R n) s Map)) (get_or (taken_to c R n) s Map)
  noted = noted_sector c s sh (places_to c R n) E n (taken_to c R n) (taken_long c R n).0

  -- the bit of each kind of root block
  with_bit : (o : Option RootBlock) → cond (shown (or_dead o)) (marked (bare o)) (bare o) ≡ root_entry E n c (32 * c + s) o
  with_bit None = no_bit (shown Dead) Free refl
  with_bit (Some Dead) = no_bit (shown Dead) Free refl
  with_bit (Some (Live root)) = by (shown (Live root))
    where
      by : (t : Bool) → cond t (Root root_state.Allocated root.kind true root.id.tag) (Root root_state.Allocated root.kind false root.id.tag)
          ≡ Root root_state.Allocated root.kind t root.id.tag
      by true = refl
      by false = refl

  low : (h : s < 5) → get_or (taken_to c R n) s Map ≡ due c s sh h R
  low h = (low_taken c s sh h R n).0 ∙ by_now (32 * c + s) (due c s sh h R) (get_or empty_map s Map) n inside

  -- what is rebuilt, by the sector's tests
  rebuilt_by : (x y : Bool) → eqb (sector_of (32 * c + s)) 0 ≡ x → root_place (32 * c + s) ≡ y →
      rebuilt E R n c (32 * c + s) ≡ cond x Map (cond y (root_entry E n c (32 * c + s) (R (32 * c + s))) (data_entry R (holder R n (32 * c + s))))
  rebuilt_by x y first place =
      ap (λ t. cond t (rebuilt_entry E R n c (32 * c + s)) (E (32 * c + s))) (eq-eqb (cylinder_of (32 * c + s)) c (own_cylinder c s sh))
      ∙ ap₂ (λ t u. cond t Map (cond u (root_entry E n c (32 * c + s) (R (32 * c + s))) (data_entry R (holder R n (32 * c + s))))) first place

  map_sector : s ≡ 0 → get_or (rebuilt_map c E R n) s Map ≡ rebuilt E R n c (32 * c + s)
  map_sector first =
      let sector = own_sector c s sh in
      let off : root_place (32 * c + s) ≡ false = and_left (leb 1 (sector_of (32 * c + s))) (leb (sector_of (32 * c + s)) 4) (lt-leb 1 (sector_of (32 * c + s)) (omega arith)) in
      let taken : get_or (taken_to c R n) s Map ≡ Map =
      low (omega arith) ∙ ap₂ (λ t k. cond t (bare (R (32 * c + s))) (get_or empty_map k Map)) off first in
      noted
      ∙ ap (λ e. cond (shown (place_of c (places_to c R n) (32 * c + s))) (marked e) e) taken
      ∙ no_bit (shown (place_of c (places_to c R n) (32 * c + s))) Map refl
      ∙ sym (rebuilt_by true false (eq-eqb (sector_of (32 * c + s)) 0 (omega arith)) off)

  root_sector : 1 ≤ s → s < 5 → get_or (rebuilt_map c E R n) s Map ≡ rebuilt E R n c (32 * c + s)
  root_sector first last =
      let sector = own_sector c s sh in
      let place : root_place (32 * c + s) ≡ true =
      and_from (leb 1 (sector_of (32 * c + s))) (leb (sector_of (32 * c + s)) 4) (le-leb 1 (sector_of (32 * c + s)) (omega arith)) (le-leb (sector_of (32 * c + s)) 4 (omega arith)) in
      let taken : get_or (taken_to c R n) s Map ≡ bare (R (32 * c + s)) =
      low last ∙ ap (λ t. cond t (bare (R (32 * c + s))) (get_or empty_map s Map)) place in
      noted
      ∙ ap₂ (λ root e. cond (shown root) (marked e) e) (place_found c s sh R place n inside) taken
      ∙ with_bit (R (32 * c + s))
      ∙ sym (rebuilt_by false true (ne_eqb (sector_of (32 * c + s)) 0 (λ e. omega arith)) place)

  data_sector : 5 ≤ s → get_or (rebuilt_map c E R n) s Map ≡ rebuilt E R n c (32 * c + s)
  data_sector high =
      let sector = own_sector c s sh in
      let off : root_place (32 * c + s) ≡ false = and_right (leb 1 (sector_of (32 * c + s))) (leb (sector_of (32 * c + s)) 4) (lt-leb (sector_of (32 * c + s)) 4 (omega arith)) in
      noted
      ∙ ap (λ e. cond (shown (place_of c (places_to c R n) (32 * c + s))) (marked e) e) (data_taken c s sh high R n full n (omega arith)).0
      ∙ no_bit (shown (place_of c (places_to c R n) (32 * c + s))) (data_entry R (holder R n (32 * c + s))) (data_unmarked R (holder R n (32 * c + s)))
      ∙ sym (rebuilt_by false false (ne_eqb (sector_of (32 * c + s)) 0 (λ e. omega arith)) off)

pub rebuild_law : RebuildLaw
rebuild_law E R cylinders c s inside sh full =
    let within : 32 * c + s < 32 * cylinders = omega arith in
    ⊎_elim
    (λ (low : s < 5).
    ⊎_elim (map_sector E R (32 * cylinders) c s sh within full)
    (λ (ne : s ≡ 0 → ⊥). root_sector E R (32 * cylinders) c s sh within full (omega arith) low) (cases_eq s 0))
    (data_sector E R (32 * cylinders) c s sh within full)
    (cases_lt s 5)
