-- The intentions of a transaction: they change nothing that counts, and say what each position is to have.
use Rattle.std.proofs.Common.{◌≡◌, ℕ, ◌*◌, ◌<◌, Bool, true, false, cond, ◌&&◌, eqb, ltb, leb, List, length, is_some, Some, None, Option, sym, refl, ap, ◌∙◌, arith}
use Rattle.std.proofs.lemmas.Bool.{and_parts, and_from, eqb-true, lt-ltb, le-leb, true≢false}
use Rattle.device.specs.Blocks.{Block}
use Rattle.journal.specs.Marking.{same_object, gives_up, intends, new_entry, intended}
use Rattle.journal.specs.Rows.{is_touched, is_new, row_of, position_of}
use Rattle.journal.specs.declared.row.Row.{Row}
use Rattle.journal.specs.declared.row.Row.TheVariants.{Untouched, New, Cleared}
use Rattle.map.specs.Addresses.{cylinder_of, sector_of, root_place}
use Rattle.map.specs.Entries.{fits_entry, Named}
use Rattle.map.specs.Identifiers.{is_tag, is_identifier}
use Rattle.map.specs.declared.entry.DataState.TheVariants as data_state
use Rattle.map.specs.declared.entry.Entry.{Entry}
use Rattle.map.specs.declared.entry.Entry.TheVariants.{Map, Free, Root, Data}
use Rattle.map.specs.declared.identifier.Identifier.{Identifier}
use Rattle.object.specs.declared.root.Root.{Root as RootOf}
use Rattle.recovery.proofs.Pointwise.{changed_at, Harmless}
use Rattle.recovery.proofs.Rooting.{identifies}
use Rattle.recovery.specs.Committing.{Saves}
use Rattle.volume.proofs.Reading.{usable_fits}
use Rattle.volume.proofs.Sameness.{intention_law}
use Rattle.volume.proofs.Searching.{lowest_finds}
use Rattle.volume.specs.Counting.{Entries, bit}
use Rattle.volume.specs.Laws.{Intends}
use Rattle.volume.specs.Volume.{cylinders_of, entry_at}

pub is_new_row : (a : ℕ) (row : Row) → is_new a row ≡ true → row ≡ New a
is_new_row a Untouched h = absurd (true≢false (sym h))
is_new_row a (New b) h = ap New (eqb-true b a h)
is_new_row a Cleared h = absurd (true≢false (sym h))

-- what takes up a block is the row of a position that holds it
pub new_row : (rows : List Row) (a p : ℕ) → position_of rows a ≡ Some p → (row_of rows p ≡ New a) × (p < length rows)
new_row rows a p found =
    let finds = lowest_finds (λ q. is_new a (row_of rows q)) (length rows) p found in
    (is_new_row a (row_of rows p) finds.0, finds.1)

-- what has no intention stays
idle : (owner : Identifier) (rows : List Row) (a : ℕ) (e : Entry) → intends owner rows a e ≡ false → intended owner rows a e ≡ e
idle owner rows a Map none = refl
idle owner rows a Free none = by (position_of rows a) none
  where
    by : (o : Option ℕ) → is_some o ≡ false → new_entry owner o ≡ Free
    by None h = refl
    by (Some p) h = absurd (true≢false h)
idle owner rows a (Root state kind commit tag) none = refl
idle owner rows a (Data data_state.Allocated position held) none =
    ap (λ t. cond t (Data data_state.IntendingToDeallocate position held) (Data data_state.Allocated position held)) none
idle owner rows a (Data data_state.IntendingToAllocate position held) none = refl
idle owner rows a (Data data_state.IntendingToDeallocate position held) none = refl

module _ (blocks : List Block) (root : RootOf) (rows : List Row) (saves : Saves blocks root rows) where
  abbrev E : Entries
  E = entry_at blocks

  abbrev n : ℕ
  n = 32 * cylinders_of blocks

  abbrev r : ℕ
  r = root.id.root

  abbrev tag : ℕ
  tag = root.id.tag

  -- the object's identifier is one
  root_fits : (root_place r && is_tag tag) ≡ true
  root_fits = ap (fits_entry (cylinders_of blocks) r) (sym saves.exists) ∙ (usable_fits blocks saves.complete.usable r saves.within).0

  pub placed : root_place root.id.root ≡ true
  placed = (and_parts (root_place r) (is_tag tag) root_fits).0

  pub proper : is_identifier root.id.tag root.id.root ≡ true
  proper = identifies (cylinders_of blocks) tag r saves.few saves.within (and_parts (root_place r) (is_tag tag) root_fits).1 placed

  no_bit : bit (E r) ≡ false
  no_bit = ap bit saves.exists

  abbrev Fits : ℕ → Entry → Type 0
  Fits a e = (fits_entry (cylinders_of blocks) a e ≡ true) × Named e

  -- an entry that is marked still fits
  mark_fits : (a : ℕ) (e : Entry) → Fits a e → Fits a (intended root.id rows a e)
  mark_fits a Map fits = fits
  mark_fits a Free fits = by (position_of rows a) refl
    where
      by : (o : Option ℕ) → position_of rows a ≡ o → Fits a (new_entry root.id o)
      by None found = fits
      by (Some p) found =
          let row = new_row rows a p found in
          let low : p < 64 = omega (arith, row.1, saves.rows_long) in
          let inside : cylinder_of r < cylinders_of blocks = omega (arith, saves.within) in (
            and_from (leb 5 (sector_of a) && ltb p 64) (ltb (cylinder_of r) (cylinders_of blocks))
                (and_from (leb 5 (sector_of a)) (ltb p 64) (le-leb 5 (sector_of a) (saves.new p a row.0).place) (lt-ltb p 64 low))
                (lt-ltb (cylinder_of r) (cylinders_of blocks) inside),
            proper,
          )
  mark_fits a (Root state kind commit of) fits = fits
  mark_fits a (Data data_state.Allocated position held) fits = by (gives_up root.id rows position held)
    where
      by : (t : Bool) → Fits a (cond t (Data data_state.IntendingToDeallocate position held) (Data data_state.Allocated position held))
      by true = fits
      by false = fits
  mark_fits a (Data data_state.IntendingToAllocate position held) fits = fits
  mark_fits a (Data data_state.IntendingToDeallocate position held) fits = fits

  mark_intends : (a : ℕ) (e : Entry) → Intends E e (intended root.id rows a e)
  mark_intends a Map = Intends.stays
  mark_intends a Free = by (position_of rows a)
    where
      by : (o : Option ℕ) → Intends E Free (new_entry root.id o)
      by None = Intends.stays
      by (Some p) = Intends.allocates p root.id no_bit
  mark_intends a (Root state kind commit of) = Intends.stays
  mark_intends a (Data data_state.Allocated position held) = by (gives_up root.id rows position held) refl
    where
      by : (t : Bool) → gives_up root.id rows position held ≡ t →
          Intends E (Data data_state.Allocated position held) (cond t (Data data_state.IntendingToDeallocate position held) (Data data_state.Allocated position held))
      by true given =
          let object = (and_parts (same_object held root.id) (is_touched (row_of rows position)) given).0 in
          let same : held.root ≡ r = eqb-true held.root r (and_parts (eqb held.tag tag) (eqb held.root r) object).1 in
          Intends.deallocates position held (ap (λ q. bit (E q)) same ∙ no_bit)
      by false kept = Intends.stays
  mark_intends a (Data data_state.IntendingToAllocate position held) = Intends.stays
  mark_intends a (Data data_state.IntendingToDeallocate position held) = Intends.stays

  pub mark_harmless : Harmless (intends root.id rows) (intended root.id rows) blocks
  mark_harmless = record {
    idle = λ a. idle root.id rows a (E a);
    fits = λ a h. mark_fits a (E a) (usable_fits blocks saves.complete.usable a h);
    same = λ on. intention_law n E (changed_at on (intended root.id rows) E) (λ a. by a (on a));
  }
    where
      by : (a : ℕ) (t : Bool) → Intends E (E a) (cond t (intended root.id rows a (E a)) (E a))
      by a true = mark_intends a (E a)
      by a false = Intends.stays
