-- What the intentions of a transaction say of each position: the block that its row gives it.
use Rattle.std.proofs.Common.{◌≡◌, ℕ, ◌*◌, ◌<◌, Bool, true, false, cond, ◌&&◌, eqb, List, length, Some, None, Option, sym, refl, ap, ◌∙◌, subst, ⊎_elim, arith}
use Rattle.std.proofs.lemmas.List.{get_or_past}
use Rattle.std.proofs.lemmas.Bool.{and_parts, and_from, and_cases, eqb-true, eq-eqb, lt-ltb, cases_lt, both_ways, true≢false}
use Rattle.device.specs.Blocks.{Block}
use Rattle.journal.specs.Marking.{same_object, gives_up, new_entry, intended}
use Rattle.journal.specs.Rows.{is_touched, is_new, row_of, position_of}
use Rattle.journal.specs.declared.row.Row.{Row}
use Rattle.journal.specs.declared.row.Row.TheVariants.{Untouched, New, Cleared}
use Rattle.map.specs.Addresses.{cylinder_of}
use Rattle.map.specs.declared.entry.DataState.{DataState}
use Rattle.map.specs.declared.entry.DataState.TheVariants as data_state
use Rattle.map.specs.declared.entry.Entry.{Entry}
use Rattle.map.specs.declared.entry.Entry.TheVariants.{Map, Free, Root, Data}
use Rattle.map.specs.declared.identifier.Identifier.{Identifier}
use Rattle.object.specs.declared.root.Root.{Root as RootOf}
use Rattle.recovery.proofs.Marking.{is_new_row, new_row, mark_harmless}
use Rattle.recovery.proofs.Pointwise.{changed_at, below}
use Rattle.recovery.specs.Committing.{block_after, Saves}
use Rattle.volume.proofs.Searching.{lowest_only}
use Rattle.volume.specs.Committing.{state_for, Becomes}
use Rattle.volume.specs.Counting.{Entries}
use Rattle.volume.specs.Meeting.{Quiet}
use Rattle.volume.specs.Volume.{cylinders_of, entry_at}

-- a state that is kept under a test is the one that was there
pub kept_state : (t : Bool) (x y : DataState) → cond t (Some x) None ≡ Some y → (t ≡ true) × (x ≡ y)
kept_state true x y is = (refl, cc)
kept_state false x y is = absurd (true≢false cc)

-- the three tests of an entry of the object, for a position
of_object : (r tag p position : ℕ) (owner : Identifier) → (eqb owner.root r && eqb position p && eqb tag owner.tag) ≡ true →
    (owner.root ≡ r) × (position ≡ p) × (tag ≡ owner.tag)
of_object r tag p position owner tests =
    let parts = and_parts (eqb owner.root r && eqb position p) (eqb tag owner.tag) tests in
    let place = and_parts (eqb owner.root r) (eqb position p) parts.0 in
    (eqb-true owner.root r place.0, eqb-true position p place.1, eqb-true tag owner.tag parts.1)

-- what an entry of the object for a position says of the position's row, by its state
abbrev Says : List Row → ℕ → ℕ → DataState → Type 0
Says rows p a data_state.Allocated = is_touched (row_of rows p) ≡ false
Says rows p a data_state.IntendingToAllocate = row_of rows p ≡ New a
Says rows p a data_state.IntendingToDeallocate = is_touched (row_of rows p) ≡ true

module _ (E : Entries) (owner : Identifier) (rows : List Row) (p a : ℕ) where
  not_given : (position : ℕ) (held : Identifier) → held.root ≡ owner.root → position ≡ p → owner.tag ≡ held.tag → gives_up owner rows position held ≡ false → is_touched (row_of rows p) ≡ false
  not_given position held same_root same_place same_tag kept =
      ⊎_elim
      (λ (apart : same_object held owner ≡ false).
      absurd (both_ways (same_object held owner) apart (and_from (eqb held.tag owner.tag) (eqb held.root owner.root) (eq-eqb held.tag owner.tag (sym same_tag)) (eq-eqb held.root owner.root same_root))))
      (λ (untouched : is_touched (row_of rows position) ≡ false). ap (λ q. is_touched (row_of rows q)) (sym same_place) ∙ untouched)
      (and_cases (same_object held owner) (is_touched (row_of rows position)) kept)

  -- an entry of a volume at rest, once it is marked
  pub marks : (e : Entry) → Quiet E e → (state : DataState) → state_for owner.root owner.tag p (intended owner rows a e) ≡ Some state → Says rows p a state
  marks Map quiet state is = absurd (true≢false cc)
  marks Free quiet state is = by (position_of rows a) refl is
    where
      by : (o : Option ℕ) → position_of rows a ≡ o → state_for owner.root owner.tag p (new_entry owner o) ≡ Some state → Says rows p a state
      by None found has = absurd (true≢false cc)
      by (Some q) found has =
          let kept = kept_state (eqb owner.root owner.root && eqb q p && eqb owner.tag owner.tag) data_state.IntendingToAllocate state has in
          let tests = of_object owner.root owner.tag p q owner kept.0 in
          subst (Says rows p a) kept.1 (ap (row_of rows) (sym tests.1) ∙ (new_row rows a q found).0)
  marks (Root s kind commit tag) quiet state is = absurd (true≢false cc)
  marks (Data data_state.Allocated position held) quiet state is = by (gives_up owner rows position held) refl is
    where
      by : (t : Bool) → gives_up owner rows position held ≡ t →
          state_for owner.root owner.tag p (cond t (Data data_state.IntendingToDeallocate position held) (Data data_state.Allocated position held)) ≡ Some state → Says rows p a state
      by true given has =
          let kept = kept_state (eqb held.root owner.root && eqb position p && eqb owner.tag held.tag) data_state.IntendingToDeallocate state has in
          let tests = of_object owner.root owner.tag p position held kept.0 in
          subst (Says rows p a) kept.1 (ap (λ q. is_touched (row_of rows q)) (sym tests.1) ∙ (and_parts (same_object held owner) (is_touched (row_of rows position)) given).1)
      by false stays has =
          let kept = kept_state (eqb held.root owner.root && eqb position p && eqb owner.tag held.tag) data_state.Allocated state has in
          let tests = of_object owner.root owner.tag p position held kept.0 in
          subst (Says rows p a) kept.1 (not_given position held tests.0 tests.1 tests.2 stays)
  marks (Data data_state.IntendingToAllocate position held) quiet state is = absurd quiet
  marks (Data data_state.IntendingToDeallocate position held) quiet state is = absurd quiet

module _ (blocks : List Block) (root : RootOf) (rows : List Row) (saves : Saves blocks root rows) where
  abbrev E : Entries
  E = entry_at blocks

  abbrev n : ℕ
  n = 32 * cylinders_of blocks

  abbrev r : ℕ
  r = root.id.root

  abbrev tag : ℕ
  tag = root.id.tag

  -- the entries once every map is marked
  abbrev pub marked_entries : Entries
  marked_entries = changed_at (below (cylinders_of blocks)) (intended root.id rows) (entry_at blocks)

  marked_at : (a : ℕ) → a < n → marked_entries a ≡ intended root.id rows a (E a)
  marked_at a h = ap (λ t. cond t (intended root.id rows a (E a)) (E a)) (lt-ltb (cylinder_of a) (cylinders_of blocks) (omega arith))

  pub says : (p a : ℕ) → a < n → (state : DataState) → state_for r tag p (marked_entries a) ≡ Some state → Says rows p a state
  says p a h state is = marks E root.id rows p a (E a) (saves.rest.quiet a h) state (ap (state_for r tag p) (sym (marked_at a h)) ∙ is)

  -- a row that holds a block is one of the rows
  row_within : (p b : ℕ) → row_of rows p ≡ New b → p < length rows
  row_within p b row =
      ⊎_elim (λ (h : p < length rows). h)
      (λ past. let none : row_of rows p ≡ Untouched = get_or_past rows p Untouched past in absurd (true≢false cc))
      (cases_lt p (length rows))

  takes_up : (p b : ℕ) → row_of rows p ≡ New b → position_of rows b ≡ Some p
  takes_up p b row =
      lowest_only (λ q. is_new b (row_of rows q)) (length rows) p (row_within p b row) (ap (is_new b) row ∙ eq-eqb b b refl)
      (λ q h new. saves.apart q p b (is_new_row b (row_of rows q) new) row)

  new_state : (p b : ℕ) → row_of rows p ≡ New b → state_for r tag p (marked_entries b) ≡ Some data_state.IntendingToAllocate
  new_state p b row =
      let free = saves.new p b row in
      ap (state_for r tag p) (marked_at b free.within ∙ ap (intended root.id rows b) free.free ∙ ap (new_entry root.id) (takes_up p b row))
      ∙ ap (λ t. cond t (Some data_state.IntendingToAllocate) None)
      (and_from (eqb r r && eqb p p) (eqb tag tag) (and_from (eqb r r) (eqb p p) (eq-eqb r r refl) (eq-eqb p p refl)) (eq-eqb tag tag refl))

  pub row_becomes : (p : ℕ) (row : Row) → row_of rows p ≡ row → Becomes marked_entries (32 * cylinders_of blocks) root.id.root root.id.tag p (block_after blocks root.id.root p row)
  row_becomes p Untouched is =
      subst (Becomes marked_entries n r tag p) (((mark_harmless blocks root rows saves).same (below (cylinders_of blocks))).counted r p)
      (Becomes.untouched
      (λ a h state. let new = says p a h data_state.IntendingToAllocate state in true≢false cc)
      (λ a h state. both_ways (is_touched (row_of rows p)) (ap is_touched is) (says p a h data_state.IntendingToDeallocate state)))
  row_becomes p (New b) is =
      Becomes.renewed b (saves.new p b is).within (new_state p b is)
      (λ a h state. both_ways (is_touched (row_of rows p)) (says p a h data_state.Allocated state) (ap is_touched is))
      (λ a h state. let new = says p a h data_state.IntendingToAllocate state in cc)
  row_becomes p Cleared is =
      Becomes.emptied
      (λ a h state. both_ways (is_touched (row_of rows p)) (says p a h data_state.Allocated state) (ap is_touched is))
      (λ a h state. let new = says p a h data_state.IntendingToAllocate state in true≢false cc)
