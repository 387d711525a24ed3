-- Why these stores change one object, and all of its change or none of it.
use Rattle.std.proofs.Common.{◌≡◌, ℕ, ◌*◌, ◌<◌, Bool, true, false, cond, eqb, List, get_or, set, Some, None, Option, sym, refl, ap, ◌∙◌, subst, ap₂, ⊎_elim, arith}
use mathlib.Core.Path.{fun_ext}
use Rattle.std.proofs.lemmas.List.{set-set}
use Rattle.std.proofs.lemmas.Bool.{eq-eqb, ne_eqb, eqb-true, eqb-false, cases_eq, true≢false}
use Rattle.device.specs.Blocks.{Block, block_at, left_by}
use Rattle.device.specs.declared.answers.Manner.{Manner}
use Rattle.device.specs.declared.answers.Manner.TheVariants as manner
use Rattle.map.specs.Addresses.{cylinder_of, sector_of}
use Rattle.map.specs.declared.entry.DataState.TheVariants as data_state
use Rattle.map.specs.declared.entry.Entry.TheVariants.{Map, Root}
use Rattle.map.specs.declared.entry.RootState.TheVariants as root_state
use Rattle.map.specs.declared.kind.Kind.{Kind}
use Rattle.map.specs.declared.kind.Kind.TheVariants as kinds
use Rattle.volume.specs.Changing.{MapFor, Agreeing, replaced, meant_by, ChangesOne, BitStoreLaw, RemovalStoreLaw, CreateStoreLaw, CompleteKept, AgreeKept}
use Rattle.volume.specs.Committing.{state_for, Becomes, with_bit, with_object, OthersStay}
use Rattle.volume.specs.Counting.{Entries, Held, held, remains_as, claims, counted_at, due}
use Rattle.volume.specs.MapStores.{map_changed}
use Rattle.volume.specs.Rebuilding.{Agree}
use Rattle.volume.specs.Recoverable.{Complete, Meaning}
use Rattle.volume.specs.Volume.{cylinders_of, entry_at, root_at, is_unreadable, content, Object, object_of, counted}
use Rattle.volume.proofs.Committing.{with_bit_other, with_object_other, marked_claims, created_claims, becomes_single, commit_law, removal_law, create_law}
use Rattle.volume.proofs.Completing.{CountsWell, shows_own, still_complete, root_complete}
use Rattle.volume.proofs.Recoverable.{meaning_after, keeps_torn}
use Rattle.volume.proofs.Searching.{lowest_misses}
use Rattle.volume.proofs.StoredMap.{stored_entries, stored_complete, stored_shows, stored_agree, same_complete, same_agree}
use Rattle.volume.proofs.Stores.{same_cylinders, same_entries, same_root}

-- the entries E differ from those of a volume at root place r only, where the object that remains has blocks o
pub record OneRoot (blocks : List Block) (r : ℕ) (E : Entries) (object : Option Held) (o : ℕ → Option ℕ) : Type 0 where
  pub apart : (a : ℕ) → (a ≡ r → ⊥) → E a ≡ entry_at blocks a
  pub others : OthersStay r (entry_at blocks) E
  pub claim : (q p a : ℕ) → (q ≡ r → ⊥) → claims E q p a ≡ claims (entry_at blocks) q p a
  pub remains : remains_as (E r) ≡ object
  pub position : (p : ℕ) → counted_at E (32 * cylinders_of blocks) r p ≡ o p
  pub single : (p a b : ℕ) → a < 32 * cylinders_of blocks → b < 32 * cylinders_of blocks → claims E r p a ≡ true → claims E r p b ≡ true → a ≡ b
  pub readable : (p b : ℕ) (is : Held) → object ≡ Some is → is.kind ≡ kinds.Index → o p ≡ Some b → is_unreadable (block_at blocks b) ≡ false
  pub index : r ≡ 1 → object ≡ remains_as (entry_at blocks 1)

-- a map store that leaves such entries
module _ (blocks : List Block) (r : ℕ) (bytes : List ℕ) (E : Entries) (object : Option Held) (o : ℕ → Option ℕ) (within : r < 32 * cylinders_of blocks) (complete : Complete blocks)
    (written : MapFor blocks (cylinder_of r) bytes E) (one : OneRoot blocks r E object o) where
  abbrev after : List Block
  after = set blocks (32 * cylinder_of r) (Block.readable bytes)

  abbrev new : Option Object
  new = object_of (λ p. content blocks (o p)) object

  inside : cylinder_of r < cylinders_of blocks
  inside = omega arith

  says : map_changed (cylinder_of r) written.entries (entry_at blocks) ≡ E
  says = fun_ext (λ a. by a (eqb (cylinder_of a) (cylinder_of r)) refl)
    where
      by : (a : ℕ) (t : Bool) → eqb (cylinder_of a) (cylinder_of r) ≡ t → cond t (get_or written.entries (sector_of a) Map) (entry_at blocks a) ≡ E a
      by a true here = written.says a (eqb-true (cylinder_of a) (cylinder_of r) here)
      by a false away = sym (one.apart a (λ e. eqb-false (cylinder_of a) (cylinder_of r) away (ap cylinder_of e)))

  well : CountsWell blocks E (32 * cylinders_of blocks)
  well = record {
    single = λ q p a b ha hb is also.
        ⊎_elim (λ (e : q ≡ r). one.single p a b ha hb (ap (λ s. claims E s p a) (sym e) ∙ is) (ap (λ s. claims E s p b) (sym e) ∙ also))
        (λ ne. complete.single q p a b ha hb (sym (one.claim q p a ne) ∙ is) (sym (one.claim q p b ne) ∙ also))
        (cases_eq q r);
    indexes = λ q p b of h is index found.
        ⊎_elim
        (λ (e : q ≡ r). one.readable p b of (sym one.remains ∙ ap (λ s. remains_as (E s)) (sym e) ∙ is) index (sym (one.position p) ∙ ap (λ s. counted_at E (32 * cylinders_of blocks) s p) (sym e) ∙ found))
        (λ ne. complete.indexes q p b of h (sym (one.others.remains q ne) ∙ is) index (sym (one.others.counted (32 * cylinders_of blocks) q p ne) ∙ found))
        (cases_eq q r);
    root_index =
        let index = complete.root_index in
        let stays : remains_as (E 1) ≡ remains_as (entry_at blocks 1) =
        ⊎_elim (λ (e : 1 ≡ r). ap (λ s. remains_as (E s)) e ∙ one.remains ∙ one.index (sym e)) (one.others.remains 1) (cases_eq 1 r) in
        (index.0, stays ∙ index.1, index.2);
  }

  complete_after : Complete after
  complete_after = stored_complete blocks (cylinder_of r) bytes written.entries E inside written.decodes says complete.usable well

  shows_after : (q : ℕ) → counted after q ≡ replaced r new (counted blocks) q
  shows_after q =
      stored_shows blocks (cylinder_of r) bytes written.entries E inside written.decodes says complete.usable q
      ∙ ⊎_elim
      (λ (e : q ≡ r).
      ap (λ s. object_of (λ p. content blocks (counted_at E (32 * cylinders_of blocks) s p)) (remains_as (E s))) e
      ∙ ap₂ object_of (fun_ext (λ p. ap (content blocks) (one.position p))) one.remains
      ∙ sym (ap (λ t. cond t new (counted blocks q)) (eq-eqb q r e)))
      (λ ne.
      ap₂ object_of (fun_ext (λ p. ap (content blocks) (one.others.counted (32 * cylinders_of blocks) q p ne))) (one.others.remains q ne)
      ∙ sym (shows_own blocks complete q) ∙ sym (ap (λ t. cond t new (counted blocks q)) (ne_eqb q r ne)))
      (cases_eq q r)

  agree_after : Agree E (root_at blocks) (32 * cylinders_of blocks) → Agreeing after
  agree_after = stored_agree blocks (cylinder_of r) bytes written.entries E inside written.decodes says

  means_new : (objects : ℕ → Option Object) → Meaning blocks objects → Meaning after (replaced r new objects)
  means_new objects meaning =
      meaning_after blocks (32 * cylinder_of r) (Block.readable bytes) (replaced r new objects) complete_after
      (λ q h. shows_after q ∙ ap (λ x. cond (eqb q r) new x) (meaning.shows q h))

  cut_after : (m : Manner) (objects : ℕ → Option Object) → (m ≡ manner.Unreadable → Agree E (root_at blocks) (32 * cylinders_of blocks)) → Meaning blocks objects →
      Meaning (left_by m blocks (32 * cylinder_of r) bytes) (meant_by m objects (replaced r new objects) (replaced r new objects))
  cut_after manner.Old objects agree meaning = meaning
  cut_after manner.New objects agree meaning = means_new objects meaning
  cut_after manner.Unreadable objects agree meaning =
      let P : List Block → Type 0 = λ volume. Meaning volume (replaced r new objects) in
      subst P (set-set blocks (32 * cylinder_of r) (Block.readable bytes) Block.unreadable)
      (keeps_torn after (cylinder_of r) (replaced r new objects) (omega (arith, same_cylinders blocks (32 * cylinder_of r) (Block.readable bytes))) complete_after (agree_after (agree refl)) (means_new objects meaning))

  pub changes_one : ChangesOne blocks r bytes E (object_of (λ p. content blocks (o p)) object)
  changes_one = record {
    entries = stored_entries blocks (cylinder_of r) bytes written.entries E inside written.decodes says;
    complete = complete_after;
    shows = shows_after;
    agrees = agree_after;
    cut = cut_after;
  }

-- a new block of an index can be read, and one that it has could be
becomes_readable : (blocks : List Block) (r tag : ℕ) (kind : Kind) → r < 32 * cylinders_of blocks → Complete blocks → entry_at blocks r ≡ Root root_state.Allocated kind false tag → kind ≡ kinds.Index →
    (p b : ℕ) {o : Option ℕ} → Becomes (entry_at blocks) (32 * cylinders_of blocks) r tag p o → o ≡ Some b →
    ((d : ℕ) → d < 32 * cylinders_of blocks → state_for r tag p (entry_at blocks d) ≡ Some data_state.IntendingToAllocate → is_unreadable (block_at blocks d) ≡ false) → is_unreadable (block_at blocks b) ≡ false
becomes_readable blocks r tag kind within complete is index p b (Becomes.untouched no_new no_old) found new = complete.indexes r p b (held kind tag) within (ap remains_as is) index found
becomes_readable blocks r tag kind within complete is index p b (Becomes.renewed d h state no_held only) found new =
    let same : d ≡ b = cc in ap (λ s. is_unreadable (block_at blocks s)) (sym same) ∙ new d h state
becomes_readable blocks r tag kind within complete is index p b (Becomes.emptied no_held no_new) found new = absurd (true≢false cc)

pub bit_store_law : BitStoreLaw
bit_store_law blocks r tag kind bytes o within complete is becomes readable written =
    let law = commit_law (entry_at blocks) (32 * cylinders_of blocks) r tag kind is in
    changes_one blocks r bytes (with_bit r (entry_at blocks)) (Some (held kind tag)) o within complete written
    (record {
      apart = with_bit_other (entry_at blocks) r;
      others = law.others;
      claim = marked_claims (entry_at blocks) r tag root_state.Allocated kind is;
      remains = law.object ∙ ap remains_as is;
      position = λ p. law.position p (o p) (becomes p);
      single = λ p. becomes_single (entry_at blocks) (32 * cylinders_of blocks) r tag kind is p (becomes p) (complete.single r p);
      readable = λ p b object same index found.
          let of_kind : kind ≡ kinds.Index = cc in becomes_readable blocks r tag kind within complete is of_kind p b (becomes p) found (readable of_kind p);
      index = λ e. sym (ap remains_as is) ∙ ap (λ s. remains_as (entry_at blocks s)) e;
    })

-- a position without a block is claimed by no entry
none_claims : (E : Entries) (n r p : ℕ) → counted_at E n r p ≡ None → (a b : ℕ) → a < n → b < n → claims E r p a ≡ true → claims E r p b ≡ true → a ≡ b
none_claims E n r p none a b ha hb one two = absurd (lowest_misses (claims E r p) n a none ha one)

pub removal_store_law : RemovalStoreLaw
removal_store_law blocks r tag kind bytes within other complete is written =
    let law = removal_law (entry_at blocks) (32 * cylinders_of blocks) r tag kind is in
    changes_one blocks r bytes (with_bit r (entry_at blocks)) None (λ p. None) within complete written
    (record {
      apart = with_bit_other (entry_at blocks) r;
      others = law.others;
      claim = marked_claims (entry_at blocks) r tag root_state.IntendingToDeallocate kind is;
      remains = law.object;
      position = law.position;
      single = λ p. none_claims (with_bit r (entry_at blocks)) (32 * cylinders_of blocks) r p (law.position p);
      readable = λ p b object same index found. absurd (true≢false cc);
      index = λ e. absurd (other e);
    })

pub create_store_law : CreateStoreLaw
create_store_law blocks r tag kind bytes within complete free unnamed written =
    let law = create_law (entry_at blocks) (32 * cylinders_of blocks) r tag kind free unnamed in
    changes_one blocks r bytes (with_object r kind tag (entry_at blocks)) (Some (held kind tag)) (λ p. None) within complete written
    (record {
      apart = with_object_other (entry_at blocks) r tag kind;
      others = law.others;
      claim = created_claims (entry_at blocks) r tag kind free;
      remains = law.object;
      position = law.position;
      single = λ p. none_claims (with_object r kind tag (entry_at blocks)) (32 * cylinders_of blocks) r p (law.position p);
      readable = λ p b object same index found. absurd (true≢false cc);
      index = λ e. let none : None ≡ Some complete.root_index.0 = sym (ap remains_as free) ∙ ap (λ s. remains_as (entry_at blocks s)) e ∙ complete.root_index.1 in absurd (true≢false cc);
    })

pub complete_kept : CompleteKept
complete_kept = record {
  root_place = root_complete;
  free_block = λ blocks a x high complete free. still_complete blocks a x (omega arith) complete (λ r p object is index found. free r p found);
  whole_map = same_complete;
}

pub agree_kept : AgreeKept
agree_kept = record {
  data_block = λ blocks a x high agree r h place.
      let size = same_cylinders blocks a x in
      same_root blocks a x high r ∙ agree r (rw (← size) h) place ∙ ap Some (sym (ap₂ (λ E n. due E (32 * n) r) (same_entries blocks a x (omega arith)) size));
  whole_map = same_agree;
}
