-- Both round trips of one entry.
use Rattle.std.specs.Prelude.{◌≡◌, ℕ, ◌^◌, Bool, true, false, cond, ◌&&◌, ltb, List, length, Some, None, Option, ◌==◌, nat_eq, nat_le, nat_lt, slice_index, refl}
use Rattle.std.proofs.Common.{subst, arith}
use Rattle.std.proofs.lemmas.Bool.{and_parts, ltb-true, leb-true, ne_eqb, lt-ltb, le-ltb}
use Rattle.std.proofs.lemmas.Option.{none-some}
use Rattle.map.specs.Addresses.{cylinder_of, sector_of}
use Rattle.map.specs.ByteLaws.{number_of_le4, identified_again}
use Rattle.map.specs.Bytes.{number4}
use Rattle.map.specs.Checked.{checked_named, checked_bytes, checked_back}
use Rattle.map.specs.Entries.{encoded_entry, fits_entry, read_entry, read_root, read_data, decoded_entry, kind_number, kind_of, root_state_number, root_state_of, data_state_number, data_state_of, Named}
use Rattle.map.specs.Identifiers.{is_identifier}
use Rattle.map.specs.declared.entry.DataState.{DataState}
use Rattle.map.specs.declared.entry.DataState.TheVariants as data_state
use Rattle.map.specs.declared.entry.Entry.{Entry}
use Rattle.map.specs.declared.entry.Entry.TheVariants.{Map, Free, Root, Data}
use Rattle.map.specs.declared.entry.RootState.{RootState}
use Rattle.map.specs.declared.entry.RootState.TheVariants as root_state
use Rattle.map.specs.declared.kind.Kind.{Kind}
use Rattle.map.specs.declared.kind.Kind.TheVariants as kind

pub encoded_length : (a : ℕ) (e : Entry) → length (encoded_entry a e) ≡ 16
encoded_length a Map = refl
encoded_length a Free = refl
encoded_length a (Root state kind commit tag) = refl
encoded_length a (Data state position owner) = refl

-- read and written again: the same bytes
pub entry_bytes : (cylinders a : ℕ) (bytes : List ℕ) (e : Entry) → decoded_entry cylinders a bytes ≡ Some e → (encoded_entry a e ≡ bytes) × (fits_entry cylinders a e ≡ true)
entry_bytes cylinders a bytes e is = checked_bytes (fits_entry cylinders a) (encoded_entry a) bytes (read_entry a bytes) e is

pub kind_back : (k : Kind) → kind_of (kind_number k) ≡ Some k
kind_back kind.Normal = refl
kind_back kind.Special = refl
kind_back kind.Index = refl

root_state_back : (s : RootState) → root_state_of (root_state_number s) ≡ Some s
root_state_back root_state.Allocated = refl
root_state_back root_state.IntendingToDeallocate = refl

data_state_back : (s : DataState) → data_state_of (data_state_number s) ≡ Some s
data_state_back data_state.Allocated = refl
data_state_back data_state.IntendingToAllocate = refl
data_state_back data_state.IntendingToDeallocate = refl

commit_back : (b : Bool) → (cond b 1 0 == 1) ≡ b
commit_back true = refl
commit_back false = refl

root_held : (s : RootState) → (root_state_number s == 0) ≡ false
root_held root_state.Allocated = refl
root_held root_state.IntendingToDeallocate = refl

data_held : (s : DataState) → (data_state_number s == 0) ≡ false
data_held data_state.Allocated = refl
data_held data_state.IntendingToAllocate = refl
data_held data_state.IntendingToDeallocate = refl

-- what the bytes of a fitting entry name is that entry
read_back : (cylinders a : ℕ) (e : Entry) → fits_entry cylinders a e ≡ true → Named e → read_entry a (encoded_entry a e) ≡ Some e
read_back cylinders a Map fits named = rw fits
read_back cylinders a Free fits named =
    let apart : nat_eq (sector_of a) 0 ≡ false = ne_eqb (sector_of a) 0 (λ e. omega (arith, ltb-true 0 (sector_of a) fits)) in
    rw apart
read_back cylinders a (Root state kind commit tag) fits named =
    let parts = and_parts (nat_le 1 (sector_of a) && nat_le (sector_of a) 4) (nat_lt 0 tag && nat_lt tag (2 ^ 32)) fits in
    let place = and_parts (nat_le 1 (sector_of a)) (nat_le (sector_of a) 4) parts.0 in
    let short = and_parts (nat_lt 0 tag) (nat_lt tag (2 ^ 32)) parts.1 in
    let low = leb-true 1 (sector_of a) place.0 in
    let high = leb-true (sector_of a) 4 place.1 in
    let apart : nat_eq (sector_of a) 0 ≡ false = ne_eqb (sector_of a) 0 (λ e. omega arith) in
    let root : ltb (sector_of a) 5 ≡ true = lt-ltb (sector_of a) 5 (omega arith) in
    rw (apart, root_held state, root, root_state_back state, kind_back kind)
    (cc (commit_back commit, number_of_le4 tag (ltb-true tag (2 ^ 32) short.1)))
read_back cylinders a (Data state position owner) fits named =
    let root = owner.root in
    let parts = and_parts (nat_le 5 (sector_of a) && nat_lt position 64) (nat_lt (cylinder_of root) cylinders) fits in
    let place = and_parts (nat_le 5 (sector_of a)) (nat_lt position 64) parts.0 in
    let high = leb-true 5 (sector_of a) place.0 in
    let apart : nat_eq (sector_of a) 0 ≡ false = ne_eqb (sector_of a) 0 (λ e. omega arith) in
    let beyond : ltb (sector_of a) 5 ≡ false = le-ltb (sector_of a) 5 high in
    let owned = identified_again owner named in
    rw (apart, data_held state, beyond, data_state_back state, owned) refl

-- written and read again: the same entry
pub entry_back : (cylinders a : ℕ) (e : Entry) → fits_entry cylinders a e ≡ true → Named e → decoded_entry cylinders a (encoded_entry a e) ≡ Some e
entry_back cylinders a e fits named =
    checked_back (fits_entry cylinders a) (encoded_entry a) (read_entry a (encoded_entry a e)) e (read_back cylinders a e fits named) fits

-- what is decoded has an owner's name
module _ (e : Entry) where
  some_named : (d : Entry) → Named d → Some d ≡ Some e → Named e
  some_named d h is = let same : d ≡ e = cc in subst Named same h

  either : (t : Bool) (x y : Option Entry) → (x ≡ Some e → Named e) → (y ≡ Some e → Named e) → cond t x y ≡ Some e → Named e
  either true x y f g = f
  either false x y f g = g

  data_named : (state : Option DataState) (position tag root : ℕ) (t : Bool) → is_identifier tag root ≡ t →
      read_data state position (cond t (Some (record { tag = tag; root = root })) None) ≡ Some e → Named e
  data_named None position tag root t h = λ f. absurd (none-some e f)
  data_named (Some state) position tag root true h = some_named (Data state position (record { tag = tag; root = root })) h
  data_named (Some state) position tag root false h = λ f. absurd (none-some e f)

  root_named : (state : Option RootState) (commit tag : ℕ) (k : Option Kind) → read_root state k commit tag ≡ Some e → Named e
  root_named None commit tag k = λ f. absurd (none-some e f)
  root_named (Some state) commit tag None = λ f. absurd (none-some e f)
  root_named (Some state) commit tag (Some k) = some_named (Root state k (commit == 1) tag) tt

  read_named : (a : ℕ) (bytes : List ℕ) → read_entry a bytes ≡ Some e → Named e
  read_named a bytes =
      either (sector_of a == 0) (Some Map) _ (some_named Map tt)
      (either (slice_index bytes 0 == 0) (Some Free) _ (some_named Free tt)
      (either (nat_lt (sector_of a) 5) (read_root (root_state_of (slice_index bytes 0)) (kind_of (slice_index bytes 1)) (slice_index bytes 2) (number4 bytes 8)) _
      (root_named (root_state_of (slice_index bytes 0)) (slice_index bytes 2) (number4 bytes 8) (kind_of (slice_index bytes 1)))
      (data_named (data_state_of (slice_index bytes 0)) (slice_index bytes 3) (number4 bytes 8) (number4 bytes 12) _ refl)))

  pub entry_named : (cylinders a : ℕ) (bytes : List ℕ) → decoded_entry cylinders a bytes ≡ Some e → Named e
  entry_named cylinders a bytes is = read_named a bytes (checked_named (fits_entry cylinders a) (encoded_entry a) bytes (read_entry a bytes) e is)
