-- The decoding of an entry in its older form, where every byte 0 stood for a state and the comparison
-- of the bytes refused what it did not stand for: the same entry at all bytes.
use Rattle.std.specs.Prelude.{◌≡◌, ◌≢◌, ◌⊎◌, ℕ, Bool, true, false, cond, ◌&&◌, List, Some, None, Option, ◌==◌, nat_lt, slice_index, refl}
use Rattle.std.proofs.Common.{inl, inr, sym, ap, ◌∙◌, ⊎_elim}
use Rattle.std.proofs.Math.Bool.{and-false}
use Rattle.std.proofs.lemmas.Slice.Eq.{bytes_eq-Decides}
use Rattle.std.proofs.lemmas.Bool.{cases_Bool, cases_eq, ne_eqb}
use Rattle.std.specs.Str.{bytes_eq}
use Rattle.map.specs.Addresses.{sector_of}
use Rattle.map.specs.Bytes.{number4}
use Rattle.map.specs.Checked.{checked}
use Rattle.map.specs.Entries.{root_state_number, data_state_number, encoded_entry, fits_entry, root_state_of, data_state_of, kind_of, read_root, read_data, decoded_entry}
use Rattle.map.specs.Identifiers.{identified}
use Rattle.map.specs.declared.entry.DataState.{DataState}
use Rattle.map.specs.declared.entry.DataState.TheVariants as data_state
use Rattle.map.specs.declared.entry.Entry.{Entry}
use Rattle.map.specs.declared.entry.Entry.TheVariants.{Map, Free, Root, Data}
use Rattle.map.specs.declared.entry.RootState.{RootState}
use Rattle.map.specs.declared.entry.RootState.TheVariants as root_state
use Rattle.map.specs.declared.identifier.Identifier.{Identifier}
use Rattle.map.specs.declared.kind.Kind.{Kind}

-- byte 0 as a state; other values are caught where the bytes are compared
abbrev pub old_root_state_of : ℕ → RootState
old_root_state_of n = cond (n == 3) root_state.IntendingToDeallocate root_state.Allocated

abbrev pub old_data_state_of : ℕ → DataState
old_data_state_of n = cond (n == 1) data_state.Allocated (cond (n == 2) data_state.IntendingToAllocate data_state.IntendingToDeallocate)

abbrev pub old_read_root : ℕ → Option Kind → ℕ → ℕ → Option Entry
old_read_root state None commit tag = None
old_read_root state (Some kind) commit tag = Some (Root (old_root_state_of state) kind (commit == 1) tag)

abbrev pub old_read_data : ℕ → ℕ → Option Identifier → Option Entry
old_read_data state position None = None
old_read_data state position (Some owner) = Some (Data (old_data_state_of state) position owner)

abbrev pub old_read_entry : ℕ → List ℕ → Option Entry
old_read_entry a bytes =
    cond (sector_of a == 0) (Some Map)
    (cond (slice_index bytes 0 == 0) (Some Free)
    (cond (nat_lt (sector_of a) 5)
    (old_read_root (slice_index bytes 0) (kind_of (slice_index bytes 1)) (slice_index bytes 2) (number4 bytes 8))
    (old_read_data (slice_index bytes 0) (slice_index bytes 3) (identified (number4 bytes 8) (number4 bytes 12)))))

abbrev pub old_decoded_entry : ℕ → ℕ → List ℕ → Option Entry
old_decoded_entry cylinders a bytes = checked (fits_entry cylinders a) (encoded_entry a) bytes (old_read_entry a bytes)

-- a number that stands for a state stood for the same, and any other stood for a state of another number
abbrev RootStates : ℕ → Type 0
RootStates n = (root_state_of n ≡ Some (old_root_state_of n)) ⊎ ((root_state_of n ≡ None) × (n ≢ root_state_number (old_root_state_of n)))

abbrev DataStates : ℕ → Type 0
DataStates n = (data_state_of n ≡ Some (old_data_state_of n)) ⊎ ((data_state_of n ≡ None) × (n ≢ data_state_number (old_data_state_of n)))

root_states : (n : ℕ) → RootStates n
root_states n = go (cases_eq n 1) (cases_eq n 3)
  where
    go : (n ≡ 1) ⊎ (n ≡ 1 → ⊥) → (n ≡ 3) ⊎ (n ≡ 3 → ⊥) → RootStates n
    go (inl one) three = inl (rw one refl)
    go (inr not_one) (inl three) = inl (rw three refl)
    go (inr not_one) (inr not_three) = inr (rw (ne_eqb n 1 not_one, ne_eqb n 3 not_three) (refl, not_one))

data_states : (n : ℕ) → DataStates n
data_states n = go (cases_eq n 1) (cases_eq n 2) (cases_eq n 3)
  where
    go : (n ≡ 1) ⊎ (n ≡ 1 → ⊥) → (n ≡ 2) ⊎ (n ≡ 2 → ⊥) → (n ≡ 3) ⊎ (n ≡ 3 → ⊥) → DataStates n
    go (inl one) two three = inl (rw one refl)
    go (inr not_one) (inl two) three = inl (rw two refl)
    go (inr not_one) (inr not_two) (inl three) = inl (rw three refl)
    go (inr not_one) (inr not_two) (inr not_three) =
        inr (rw (ne_eqb n 1 not_one, ne_eqb n 2 not_two, ne_eqb n 3 not_three) (refl, not_three))

module _ (cylinders a : ℕ) (bytes : List ℕ) where
  abbrev kept : Option Entry → Option Entry
  kept = checked (fits_entry cylinders a) (encoded_entry a) bytes

  abbrev state : ℕ
  state = slice_index bytes 0

  -- an entry is refused if its bytes begin with another byte than the bytes that were read
  refused : (e : Entry) → state ≢ slice_index (encoded_entry a e) 0 → kept (Some e) ≡ None
  refused e apart =
      let unlike : bytes_eq (encoded_entry a e) bytes ≡ false =
      ⊎_elim
      (λ (t : bytes_eq (encoded_entry a e) bytes ≡ true). absurd (apart (ap (λ b. slice_index b 0) (sym ((bytes_eq-Decides (encoded_entry a e) bytes).0 t)))))
      (λ f. f)
      (cases_Bool (bytes_eq (encoded_entry a e) bytes)) in
      ap (λ t. cond t (Some e) None) (ap (λ u. fits_entry cylinders a e && u) unlike ∙ and-false (fits_entry cylinders a e))

  root_same : (k : Option Kind) (commit tag : ℕ) → kept (read_root (root_state_of state) k commit tag) ≡ kept (old_read_root state k commit tag)
  root_same k commit tag = go k (root_states state)
    where
      go : (k : Option Kind) → RootStates state → kept (read_root (root_state_of state) k commit tag) ≡ kept (old_read_root state k commit tag)
      go None (inl same) = ap (λ s. kept (read_root s None commit tag)) same
      go None (inr other) = ap (λ s. kept (read_root s None commit tag)) other.0
      go (Some kind) (inl same) = ap (λ s. kept (read_root s (Some kind) commit tag)) same
      go (Some kind) (inr other) =
          ap (λ s. kept (read_root s (Some kind) commit tag)) other.0
          ∙ sym (refused (Root (old_root_state_of state) kind (commit == 1) tag) other.1)

  data_same : (position : ℕ) (o : Option Identifier) → kept (read_data (data_state_of state) position o) ≡ kept (old_read_data state position o)
  data_same position o = go o (data_states state)
    where
      go : (o : Option Identifier) → DataStates state → kept (read_data (data_state_of state) position o) ≡ kept (old_read_data state position o)
      go None (inl same) = ap (λ s. kept (read_data s position None)) same
      go None (inr other) = ap (λ s. kept (read_data s position None)) other.0
      go (Some owner) (inl same) = ap (λ s. kept (read_data s position (Some owner))) same
      go (Some owner) (inr other) =
          ap (λ s. kept (read_data s position (Some owner))) other.0
          ∙ sym (refused (Data (old_data_state_of state) position owner) other.1)

  either : (t : Bool) (x y v w : Option Entry) → kept x ≡ kept v → kept y ≡ kept w → kept (cond t x y) ≡ kept (cond t v w)
  either true x y v w f g = f
  either false x y v w f g = g

pub decoded_entry_same : (cylinders a : ℕ) (bytes : List ℕ) → decoded_entry cylinders a bytes ≡ old_decoded_entry cylinders a bytes
decoded_entry_same cylinders a bytes =
    let same = either cylinders a bytes in
    same (sector_of a == 0) (Some Map) _ (Some Map) _ refl
    (same (slice_index bytes 0 == 0) (Some Free) _ (Some Free) _ refl
    (same (nat_lt (sector_of a) 5) _ _ _ _
    (root_same cylinders a bytes (kind_of (slice_index bytes 1)) (slice_index bytes 2) (number4 bytes 8))
    (data_same cylinders a bytes (slice_index bytes 3) (identified (number4 bytes 8) (number4 bytes 12)))))
