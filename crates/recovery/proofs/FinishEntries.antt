-- What settling and clearing make of one entry.
use Rattle.std.proofs.Common.{◌≡◌, ℕ, Bool, true, false, cond, ◌&&◌, ltb, leb, refl, ap, ◌∙◌, arith}
use Rattle.std.proofs.lemmas.Bool.{and_parts, leb-true, lt-ltb}
use Rattle.journal.specs.Finishing.{roots_of}
use Rattle.map.specs.Addresses.{cylinder_of, sector_of, root_place, data_block}
use Rattle.map.specs.Entries.{fits_entry, Named}
use Rattle.map.specs.Identifiers.{is_tag}
use Rattle.map.specs.declared.entry.DataState.TheVariants as data_state
use Rattle.map.specs.declared.entry.Entry.{Entry}
use Rattle.map.specs.declared.entry.Entry.TheVariants.{Map, Free, Root, Data}
use Rattle.map.specs.declared.entry.RootState.TheVariants as root_state
use Rattle.volume.specs.Counting.{Entries, remains_as, bit, has_tag, state_counts, counts}
use Rattle.volume.specs.Laws.{AtRest}
use Rattle.volume.specs.Meeting.{Quiet}
use Rattle.volume.specs.Settling.{settled, cleared}
use Rattle.volume.proofs.Fitting.{data_fits}

-- an entry that its address may have
abbrev pub Fits : ℕ → ℕ → Entry → Type 0
Fits cylinders a e = (fits_entry cylinders a e ≡ true) × Named e

-- a root place or a data block may be free
free_root : (cylinders a : ℕ) (x : Bool) → (root_place a && x) ≡ true → Fits cylinders a Free
free_root cylinders a x fits =
    let low = leb-true 1 (sector_of a) (and_parts (leb 1 (sector_of a)) (leb (sector_of a) 4) (and_parts (root_place a) x fits).0).0 in
    (lt-ltb 0 (sector_of a) (omega arith), tt)

free_data : (cylinders a : ℕ) (x y : Bool) → (data_block a && x && y) ≡ true → Fits cylinders a Free
free_data cylinders a x y fits =
    let low = leb-true 5 (sector_of a) (and_parts (data_block a) x (and_parts (data_block a && x) y fits).0).0 in
    (lt-ltb 0 (sector_of a) (omega arith), tt)

pub settled_fits : (cylinders : ℕ) (E : Entries) (a : ℕ) (e : Entry) → fits_entry cylinders a e ≡ true → Named e → Fits cylinders a (settled E e)
settled_fits cylinders E a Map fits named = (fits, tt)
settled_fits cylinders E a Free fits named = (fits, tt)
settled_fits cylinders E a (Root root_state.Allocated kind commit tag) fits named = (fits, tt)
settled_fits cylinders E a (Root root_state.IntendingToDeallocate kind true tag) fits named = (fits, tt)
settled_fits cylinders E a (Root root_state.IntendingToDeallocate kind false tag) fits named = (fits, tt)
settled_fits cylinders E a (Data state position owner) fits named = by (counts E (Data state position owner))
  where
    by : (t : Bool) → Fits cylinders a (cond t (Data data_state.Allocated position owner) Free)
    by true = (fits, named)
    by false = free_data cylinders a (ltb position 64) (ltb (cylinder_of owner.root) cylinders) fits

pub cleared_fits : (cylinders a : ℕ) (e : Entry) → fits_entry cylinders a e ≡ true → Named e → Fits cylinders a (cleared e)
cleared_fits cylinders a Map fits named = (fits, tt)
cleared_fits cylinders a Free fits named = (fits, tt)
cleared_fits cylinders a (Root root_state.Allocated kind commit tag) fits named = (fits, tt)
cleared_fits cylinders a (Root root_state.IntendingToDeallocate kind true tag) fits named = free_root cylinders a (is_tag tag) fits
cleared_fits cylinders a (Root root_state.IntendingToDeallocate kind false tag) fits named = (fits, tt)
cleared_fits cylinders a (Data state position owner) fits named = (fits, named)

-- an entry that fits is settled by the root entry of its owner alone
pub settled_by_roots : (cylinders : ℕ) (E : Entries) (a : ℕ) (e : Entry) → fits_entry cylinders a e ≡ true → Named e → settled (roots_of E) e ≡ settled E e
settled_by_roots cylinders E a Map fits named = refl
settled_by_roots cylinders E a Free fits named = refl
settled_by_roots cylinders E a (Root root_state.Allocated kind commit tag) fits named = refl
settled_by_roots cylinders E a (Root root_state.IntendingToDeallocate kind commit tag) fits named = refl
settled_by_roots cylinders E a (Data state position owner) fits named =
    let place = (data_fits cylinders a position state owner fits named).root in
    ap (λ t. settled (λ r. cond t (E owner.root) Free) (Data state position owner)) place

-- no intention of a data block is left
pub settled_rests : (E : Entries) (e : Entry) → AtRest (settled E e)
settled_rests E Map = tt
settled_rests E Free = tt
settled_rests E (Root root_state.Allocated kind commit tag) = tt
settled_rests E (Root root_state.IntendingToDeallocate kind true tag) = tt
settled_rests E (Root root_state.IntendingToDeallocate kind false tag) = tt
settled_rests E (Data state position owner) = by (counts E (Data state position owner))
  where
    by : (t : Bool) → AtRest (cond t (Data data_state.Allocated position owner) Free)
    by true = tt
    by false = tt

-- settled and then cleared, every entry is quiet
module _ (E F : Entries) (remains : (r : ℕ) → remains_as (F r) ≡ remains_as (E r)) where
  pub finished_quiet : (e : Entry) → Quiet F (cleared (settled E e))
  finished_quiet Map = tt
  finished_quiet Free = tt
  finished_quiet (Root root_state.Allocated kind commit tag) = refl
  finished_quiet (Root root_state.IntendingToDeallocate kind true tag) = tt
  finished_quiet (Root root_state.IntendingToDeallocate kind false tag) = refl
  finished_quiet (Data state position owner) = by (counts E (Data state position owner)) refl
    where
      by : (t : Bool) → counts E (Data state position owner) ≡ t → Quiet F (cleared (cond t (Data data_state.Allocated position owner) Free))
      by false off = tt
      by true on =
          ap (λ o. has_tag owner.tag o && true) (remains owner.root)
          ∙ ap (λ t. t && true) (and_parts (has_tag owner.tag (remains_as (E owner.root))) (state_counts state (bit (E owner.root))) on).0
