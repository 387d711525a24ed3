-- Both round trips of a whole map, and the steps of the loops that read and write one.
use Rattle.std.specs.Prelude.{◌≡◌, ℕ, zero, suc, ◌+◌, ◌*◌, ◌<◌, ◌≤◌, List, [], ◌∷◌, ◌++◌, length, take, drop, Some, slice_index_or, refl}
use Rattle.std.proofs.Common.{sym, ap, ap₂, ◌∙◌, arith, take-add}
use borrow.Rule.Slice.PartMut.{put_mid}
use Rattle.std.proofs.lemmas.Slice.{take-put_mid}
use Rattle.std.proofs.lemmas.List.{append-nil, append_assoc, take_more, length-take, length-append, length-take-le, length-drop, take_at, drop_at, take_all, drop-drop}
use Rattle.device.specs.Gathers.{gathered, gathered_all, gathered_each}
use Rattle.map.specs.Entries.{encoded_entry, decoded_entry}
use Rattle.map.specs.Maps.{entry_part, decoded_sector, encoded_from, encoded_map, MapBytesReturn, MapEntriesReturn}
use Rattle.map.specs.declared.entry.Entry.{Entry}
use Rattle.map.specs.declared.entry.Entry.TheVariants.{Map}
use Rattle.map.specs.EntryLaws.{encoded_length, entry_bytes, entry_back, entry_named}

pub encoded_from_length : (a : ℕ) (es : List Entry) → length (encoded_from a es) ≡ 16 * length es
unfolding encoded_from
encoded_from_length a [] = omega arith
encoded_from_length a (e ∷ es) =
    length-append (encoded_entry a e) (encoded_from (a + 1) es) ∙ omega (arith, encoded_length a e, encoded_from_length (a + 1) es)

-- the bytes of entry k of a list
part_of_encoded : (a : ℕ) (es : List Entry) (k : ℕ) → k < length es → entry_part (encoded_from a es) k ≡ encoded_entry (a + k) (slice_index_or es k Map)
unfolding encoded_from
part_of_encoded a [] k h = absurd (omega arith)
part_of_encoded a (e ∷ es) zero h =
    take_at (encoded_entry a e) (encoded_from (a + 1) es) 16 (encoded_length a e) ∙ ap (λ b. encoded_entry b e) (omega arith)
part_of_encoded a (e ∷ es) (suc k) h =
    let front = encoded_entry a e in
    let rest = encoded_from (a + 1) es in
    let past : drop (16 * suc k) (front ++ rest) ≡ drop (16 * k) rest =
    ap (λ n. drop n (front ++ rest)) (omega arith) ∙ sym (drop-drop (16 * k) 16 (front ++ rest)) ∙ ap (drop (16 * k)) (drop_at front rest 16 (encoded_length a e)) in
    ap (take 16) past ∙ part_of_encoded (a + 1) es k (omega arith) ∙ ap (λ b. encoded_entry b (slice_index_or es k Map)) (omega arith)

pub map_entries_return : MapEntriesReturn
map_entries_return cylinders c entries long fitting =
    ap (gathered (decoded_sector cylinders c (encoded_map c entries)) 0) (sym long)
    ∙ gathered_all (decoded_sector cylinders c (encoded_map c entries)) Map entries 0
    (λ k h.
    let here : 0 + k ≡ k = omega arith in
    ap (decoded_sector cylinders c (encoded_map c entries)) here
    ∙ ap (decoded_entry cylinders (32 * c + k)) (part_of_encoded (32 * c) entries k h)
    ∙ entry_back cylinders (32 * c + k) (slice_index_or entries k Map) (fitting k h).0 (fitting k h).1)

-- parts that are the bytes of the entries, one after another, are the bytes of all
joined_parts : (block : List ℕ) (es : List Entry) (a s : ℕ) → 16 * (s + length es) ≤ length block →
    ((k : ℕ) → k < length es → encoded_entry (a + k) (slice_index_or es k Map) ≡ entry_part block (s + k)) → encoded_from a es ≡ take (16 * length es) (drop (16 * s) block)
unfolding encoded_from
joined_parts block [] a s fits each = refl
joined_parts block (e ∷ es) a s fits each =
    let rest = drop (16 * s) block in
    let first : encoded_entry a e ≡ take 16 rest = ap (λ b. encoded_entry b e) (omega arith) ∙ each 0 (omega arith) ∙ ap (entry_part block) (omega arith) in
    let later = joined_parts block es (a + 1) (s + 1) (omega arith)
    (λ k h. ap (λ b. encoded_entry b (slice_index_or es k Map)) (omega arith) ∙ each (suc k) (omega arith) ∙ ap (entry_part block) (omega arith)) in
    let next : drop (16 * (s + 1)) block ≡ drop 16 rest = ap (λ n. drop n block) (omega arith) ∙ sym (drop-drop 16 (16 * s) block) in
    let count : 16 * suc (length es) ≡ 16 + 16 * length es = omega arith in
    ap₂ ◌++◌ first (later ∙ ap (take (16 * length es)) next) ∙ sym (take-add 16 (16 * length es) rest) ∙ ap (λ n. take n rest) (sym count)

pub map_bytes_return : MapBytesReturn
map_bytes_return cylinders c block entries long is =
    let each = gathered_each (decoded_sector cylinders c block) 32 0 entries is in
    let at : (k : ℕ) → k < length entries → decoded_entry cylinders (32 * c + k) (entry_part block k) ≡ Some (slice_index_or entries k Map) =
    λ k h. ap (decoded_sector cylinders c block) (omega arith) ∙ each.has Map k (omega (arith, each.long)) in
    let joined = joined_parts block entries (32 * c) 0 (omega (arith, each.long))
    (λ k h. (entry_bytes cylinders (32 * c + k) (entry_part block k) (slice_index_or entries k Map) (at k h)).0 ∙ ap (entry_part block) (omega arith)) in (
      joined ∙ take_all (16 * length entries) block (omega (arith, each.long)),
      λ s h. (
        (entry_bytes cylinders (32 * c + s) (entry_part block s) (slice_index_or entries s Map) (at s h)).1,
        entry_named (slice_index_or entries s Map) cylinders (32 * c + s) (entry_part block s) (at s h),
      ),
    )

encoded_push : (a : ℕ) (es : List Entry) (e : Entry) → encoded_from a (es ++ e ∷ []) ≡ encoded_from a es ++ encoded_entry (a + length es) e
unfolding encoded_from
encoded_push a [] e = append-nil (encoded_entry a e) ∙ ap (λ b. encoded_entry b e) (omega arith)
encoded_push a (x ∷ es) e =
    ap (λ rest. encoded_entry a x ++ rest) (encoded_push (a + 1) es e ∙ ap (λ b. encoded_from (a + 1) es ++ encoded_entry b e) (omega arith))
    ∙ sym (append_assoc (encoded_entry a x) (encoded_from (a + 1) es) (encoded_entry (a + length (x ∷ es)) e))

-- one entry more is written
module _ (block bytes : List ℕ) (entries : List Entry) (a s k : ℕ) (long : length block ≡ 512) (more : s < 32) (within : s < length entries) (count : k ≡ 16)
    (bytes_are : bytes ≡ encoded_entry (a + s) (slice_index_or entries s Map)) where
  sixteen_long : length bytes ≡ 16
  sixteen_long = ap length bytes_are ∙ encoded_length (a + s) (slice_index_or entries s Map)

  pub written_length : length (put_mid (16 * s) k block bytes) ≡ 512
  written_length = simp (length-append, length-take, length-drop) (omega (arith, sixteen_long))

  pub written_more : take (16 * s) block ≡ encoded_from a (take s entries) → take (16 * (s + 1)) (put_mid (16 * s) k block bytes) ≡ encoded_from a (take (s + 1) entries)
  written_more was =
      let front : length (take s entries) ≡ s = length-take-le s entries (omega arith) in
      take-put_mid (16 * s) k block bytes (16 * (s + 1)) (omega (arith, sixteen_long)) (omega arith)
      ∙ ap₂ ◌++◌ was (bytes_are ∙ ap (λ n. encoded_entry (a + n) (slice_index_or entries s Map)) (sym front))
      ∙ sym (encoded_push a (take s entries) (slice_index_or entries s Map))
      ∙ ap (encoded_from a) (sym (take_more entries s Map within))
