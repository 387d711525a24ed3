-- Why a store at a block of an object that is no index changes what one position shows, and nothing else.
use Rattle.std.proofs.Common.{◌≡◌, ℕ, ◌*◌, ◌<◌, ◌≤◌, Bool, true, false, cond, eqb, List, set, Some, None, Option, sym, refl, ap, ◌∙◌, ap₂, ⊎_elim, arith}
use mathlib.Core.Path.{fun_ext}
use Rattle.std.proofs.lemmas.Bool.{eq-eqb, ne_eqb, eqb-true, cases_eq}
use Rattle.device.specs.Blocks.{Block, block_at, left_by}
use Rattle.device.specs.declared.answers.Manner.{Manner}
use Rattle.device.specs.declared.answers.Manner.TheVariants as manner
use Rattle.map.specs.Addresses.{sector_of}
use Rattle.map.specs.declared.kind.Kind.TheVariants as kinds
use Rattle.volume.specs.Changing.{replaced, meant_by, rewritten, InPlaceLaw}
use Rattle.volume.specs.Counting.{Held, remains_as, claims, counted_at}
use Rattle.volume.specs.Recoverable.{Complete, Meaning}
use Rattle.volume.specs.Stores.{content_after}
use Rattle.volume.specs.Volume.{cylinders_of, entry_at, entries_with, words_in, content, Object, object_of, counted}
use Rattle.volume.proofs.Completing.{still_complete, shows_own}
use Rattle.volume.proofs.Fitting.{claim_for}
use Rattle.volume.proofs.Reading.{usable_none_lost}
use Rattle.volume.proofs.Recoverable.{meaning_after}
use Rattle.volume.proofs.Searching.{lowest_finds}
use Rattle.volume.proofs.Stores.{claim_place, data_block_law}

-- a position whose block is another one shows what it showed
other_content : (blocks : List Block) (a : ℕ) (x : Block) (o : Option ℕ) → (o ≡ Some a → ⊥) → content_after blocks a x o ≡ content blocks o
other_content blocks a x None other = refl
other_content blocks a x (Some b) other = ap (λ t. cond t (words_in x) (words_in (block_at blocks b))) (ne_eqb b a (λ e. other (ap Some e)))

module _ (blocks : List Block) (r p a : ℕ) (object : Held) (complete : Complete blocks) (is : remains_as (entry_at blocks r) ≡ Some object) (no_index : object.kind ≡ kinds.Index → ⊥)
    (found : counted_at (entry_at blocks) (32 * cylinders_of blocks) r p ≡ Some a) where
  passes : (q s : ℕ) → counted_at (entry_at blocks) (32 * cylinders_of blocks) q s ≡ Some a → (claims (entry_at blocks) q s a ≡ true) × (a < 32 * cylinders_of blocks)
  passes q s = lowest_finds (claims (entry_at blocks) q s) (32 * cylinders_of blocks) a

  high : 5 ≤ sector_of a
  high = claim_place blocks r p a (passes r p found).0

  -- an entry claims one position of one object
  only : (q s : ℕ) → counted_at (entry_at blocks) (32 * cylinders_of blocks) q s ≡ Some a → (q ≡ r) × (s ≡ p)
  only q s also =
      let own = claim_for (entry_at blocks) r p (entry_at blocks a) (passes r p found).0 in
      let other = claim_for (entry_at blocks) q s (entry_at blocks a) (passes q s also).0 in
      let e = own.1.1 in
      let f = other.1.1 in
      let g = own.1.2 in
      let h = other.1.2 in
      (cc, cc)

  complete_after : (x : Block) → Complete (set blocks a x)
  complete_after x =
      let place = high in
      still_complete blocks a x (omega arith) complete
      (λ q s of remains index also.
      let same : Some object ≡ Some of = sym is ∙ ap (λ n. remains_as (entry_at blocks n)) (sym (only q s also).0) ∙ remains in
      no_index (cc))

  -- each position of the object, after the store
  content_here : (x : Block) (s : ℕ) → content_after blocks a x (counted_at (entry_at blocks) (32 * cylinders_of blocks) r s) ≡ cond (eqb s p) (words_in x) (content blocks (counted_at (entry_at blocks) (32 * cylinders_of blocks) r s))
  content_here x s =
      ⊎_elim
      (λ (e : s ≡ p).
      ap (λ k. content_after blocks a x (counted_at (entry_at blocks) (32 * cylinders_of blocks) r k)) e ∙ ap (content_after blocks a x) found
      ∙ ap (λ t. cond t (words_in x) (words_in (block_at blocks a))) (eq-eqb a a refl)
      ∙ sym (ap (λ t. cond t (words_in x) (content blocks (counted_at (entry_at blocks) (32 * cylinders_of blocks) r s))) (eq-eqb s p e)))
      (λ ne.
      other_content blocks a x (counted_at (entry_at blocks) (32 * cylinders_of blocks) r s) (λ also. ne (only r s also).1)
      ∙ sym (ap (λ t. cond t (words_in x) (content blocks (counted_at (entry_at blocks) (32 * cylinders_of blocks) r s))) (ne_eqb s p ne)))
      (cases_eq s p)

  shows_after : (x : Block) (q : ℕ) → counted (set blocks a x) q ≡ replaced r (rewritten p (words_in x) (counted blocks r)) (counted blocks) q
  shows_after x q =
      let below = (passes r p found).1 in
      data_block_law blocks a x (omega arith) high q
      ∙ ap (λ E. object_of (λ s. content_after blocks a x (counted_at E (32 * cylinders_of blocks) q s)) (remains_as (E q))) (ap (entries_with blocks) (usable_none_lost blocks complete.usable))
      ∙ ⊎_elim
      (λ (e : q ≡ r).
      ap (λ k. object_of (λ s. content_after blocks a x (counted_at (entry_at blocks) (32 * cylinders_of blocks) k s)) (remains_as (entry_at blocks k))) e
      ∙ ap₂ object_of (fun_ext (content_here x)) is
      ∙ sym (ap (rewritten p (words_in x)) (shows_own blocks complete r ∙ ap (object_of (λ s. content blocks (counted_at (entry_at blocks) (32 * cylinders_of blocks) r s))) is))
      ∙ sym (ap (λ t. cond t (rewritten p (words_in x) (counted blocks r)) (counted blocks q)) (eq-eqb q r e)))
      (λ ne.
      ap (λ positions. object_of positions (remains_as (entry_at blocks q)))
      (fun_ext (λ s. other_content blocks a x (counted_at (entry_at blocks) (32 * cylinders_of blocks) q s) (λ also. ne (only q s also).0)))
      ∙ sym (shows_own blocks complete q)
      ∙ sym (ap (λ t. cond t (rewritten p (words_in x) (counted blocks r)) (counted blocks q)) (ne_eqb q r ne)))
      (cases_eq q r)

  means_after : (x : Block) (objects : ℕ → Option Object) → Meaning blocks objects → Meaning (set blocks a x) (replaced r (rewritten p (words_in x) (objects r)) objects)
  means_after x objects meaning =
      meaning_after blocks a x (replaced r (rewritten p (words_in x) (objects r)) objects) (complete_after x) (λ q h. shows_after x q ∙ by q h (eqb q r) refl)
    where
      by : (q : ℕ) → q < 32 * cylinders_of blocks → (t : Bool) → eqb q r ≡ t →
          cond t (rewritten p (words_in x) (counted blocks r)) (counted blocks q) ≡ cond t (rewritten p (words_in x) (objects r)) (objects q)
      by q h true here = let same = eqb-true q r here in ap (rewritten p (words_in x)) (meaning.shows r (omega arith))
      by q h false away = meaning.shows q h

  cut_after : (m : Manner) (bytes : List ℕ) (objects : ℕ → Option Object) → Meaning blocks objects →
      Meaning (left_by m blocks a bytes)
      (meant_by m objects (replaced r (rewritten p (words_in (Block.readable bytes)) (objects r)) objects) (replaced r (rewritten p None (objects r)) objects))
  cut_after manner.Old bytes objects meaning = meaning
  cut_after manner.New bytes objects meaning = means_after (Block.readable bytes) objects meaning
  cut_after manner.Unreadable bytes objects meaning = means_after Block.unreadable objects meaning

pub in_place_law : InPlaceLaw
in_place_law blocks r p a object complete is no_index found = record {
  complete = complete_after blocks r p a object complete is no_index found;
  shows = shows_after blocks r p a object complete is no_index found;
  cut = cut_after blocks r p a object complete is no_index found;
}
