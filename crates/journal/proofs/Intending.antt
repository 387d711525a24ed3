-- What is made of one entry.
use Rattle.std.proofs.Common.{◌≡◌, ℕ, Bool, true, false, cond, List, is_some, Some, None, Option, refl, ap}
use Rattle.map.specs.declared.entry.DataState.TheVariants as data_state
use Rattle.map.specs.declared.entry.Entry.{Entry}
use Rattle.map.specs.declared.entry.Entry.TheVariants.{Map, Free, Root, Data}
use Rattle.map.specs.declared.identifier.Identifier.{Identifier}
use Rattle.journal.specs.Marking.{new_entry, intends, intended}
use Rattle.journal.specs.Rows.{position_of}
use Rattle.journal.specs.declared.row.Row.{Row}

module _ (owner : Identifier) (rows : List Row) (a : ℕ) where
  -- an entry without an intention stays
  pub unintended : (e : Entry) → intends owner rows a e ≡ false → intended owner rows a e ≡ e
  unintended Map none = refl
  unintended Free none = by (position_of rows a) none
    where
      by : (o : Option ℕ) → is_some o ≡ false → new_entry owner o ≡ Free
      by None none = refl
      by (Some p) none = cc
  unintended (Root state kind commit tag) none = refl
  unintended (Data data_state.Allocated p held) none = ap (λ t. cond t (Data data_state.IntendingToDeallocate p held) (Data data_state.Allocated p held)) none
  unintended (Data data_state.IntendingToAllocate p held) none = refl
  unintended (Data data_state.IntendingToDeallocate p held) none = refl

pub no_intention : {X : Type 0} (t : Bool) (x : X) → cond t (Some x) None ≡ None → t ≡ false
no_intention true x is = cc
no_intention false x is = refl
