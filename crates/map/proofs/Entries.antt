-- Bytes of another length are no entry.
use Rattle.std.proofs.Common.{◌≡◌, ℕ, true, false, cond, ◌&&◌, List, length, Some, None, Option, sym, refl, ap, ◌∙◌, ⊎_elim}
use Rattle.std.proofs.Math.Bool.{and-false}
use Rattle.std.proofs.lemmas.Slice.Eq.{bytes_eq-Decides}
use Rattle.std.proofs.lemmas.Bool.{cases_Bool}
use Rattle.std.specs.Str.{bytes_eq}
use Rattle.map.specs.Checked.{checked}
use Rattle.map.specs.EntryLaws.{encoded_length}
use Rattle.map.specs.Entries.{encoded_entry, fits_entry, read_entry, decoded_entry}
use Rattle.map.specs.declared.entry.Entry.{Entry}

unlike : (a : ℕ) (bytes : List ℕ) (e : Entry) → (length bytes ≡ 16 → ⊥) → bytes_eq (encoded_entry a e) bytes ≡ false
unlike a bytes e h =
    ⊎_elim
    (λ (t : bytes_eq (encoded_entry a e) bytes ≡ true). absurd (h (ap length (sym ((bytes_eq-Decides (encoded_entry a e) bytes).0 t)) ∙ encoded_length a e)))
    (λ f. f)
    (cases_Bool (bytes_eq (encoded_entry a e) bytes))

pub decoded_none : (cylinders a : ℕ) (bytes : List ℕ) → (length bytes ≡ 16 → ⊥) → decoded_entry cylinders a bytes ≡ None
decoded_none cylinders a bytes h = go (read_entry a bytes)
  where
    go : (o : Option Entry) → checked (fits_entry cylinders a) (encoded_entry a) bytes o ≡ None
    go None = refl
    go (Some e) = ap (λ t. cond t (Some e) None) (ap (λ u. fits_entry cylinders a e && u) (unlike a bytes e h) ∙ and-false (fits_entry cylinders a e))
