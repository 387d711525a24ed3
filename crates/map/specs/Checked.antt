-- A value is decoded if it fits and its bytes are exactly those that were read.
--   checked   the value that bytes name, kept only then
-- and what follows for every kind of value.
use Rattle.std.specs.Prelude.{◌≡◌, ℕ, Bool, true, cond, ◌&&◌, List, Some, None, Option, refl}
use Rattle.std.proofs.Common.{sym, ap, ◌∙◌}
use Rattle.std.proofs.lemmas.Slice.Eq.{bytes_eq-Decides}
use Rattle.std.proofs.lemmas.Bool.{and_parts, and_from}
use Rattle.std.proofs.lemmas.Option.{none-some, cond_some}
use Rattle.std.specs.Str.{bytes_eq}

abbrev pub checked : {X : Type 0} → (X → Bool) → (X → List ℕ) → List ℕ → Option X → Option X
checked fits encoded bytes None = None
checked fits encoded bytes (Some x) = cond (fits x && bytes_eq (encoded x) bytes) (Some x) None

module _ {X : Type 0} (fits : X → Bool) (encoded : X → List ℕ) where
  -- what is kept was named
  pub checked_named : (bytes : List ℕ) (o : Option X) (x : X) → checked fits encoded bytes o ≡ Some x → o ≡ Some x
  checked_named bytes None x f = f
  checked_named bytes (Some d) x f = ap Some (cond_some _ d x f).1

  -- read and written again: the same bytes
  pub checked_bytes : (bytes : List ℕ) (o : Option X) (x : X) → checked fits encoded bytes o ≡ Some x → (encoded x ≡ bytes) × (fits x ≡ true)
  checked_bytes bytes None x f = absurd (none-some x f)
  checked_bytes bytes (Some d) x f =
      let both = cond_some (fits d && bytes_eq (encoded d) bytes) d x f in
      let parts = and_parts (fits d) (bytes_eq (encoded d) bytes) both.0 in
      (ap encoded (sym both.1) ∙ (bytes_eq-Decides (encoded d) bytes).0 parts.1, ap fits (sym both.1) ∙ parts.0)

  -- written and read again: the same value, where its bytes name it
  pub checked_back : (o : Option X) (x : X) → o ≡ Some x → fits x ≡ true → checked fits encoded (encoded x) o ≡ Some x
  checked_back o x named fit =
      let tests = and_from (fits x) (bytes_eq (encoded x) (encoded x)) fit ((bytes_eq-Decides (encoded x) (encoded x)).1 refl) in
      ap (checked fits encoded (encoded x)) named ∙ ap (λ t. cond t (Some x) None) tests
