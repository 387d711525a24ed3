-- A root block, and then the map of its place with that place's entry changed: one object changes.
use Rattle.std.proofs.Common.{◌≡◌, ℕ, ◌+◌, ◌*◌, ◌<◌, true, cond, eqb, ◌≢◌, ◌⊎◌, List, [], ◌∷◌, length, get_or, set, Some, None, Option, sym, refl, ap, ◌∙◌, subst, subst₂, inl, inr, ⊎_elim, arith}
use Rattle.std.proofs.lemmas.Nat.{mod_below}
use Rattle.std.proofs.lemmas.List.{length-set, get_or-set_same, get_or-set_other}
use Rattle.std.proofs.lemmas.Bool.{eq-eqb, cases_eq}
use Rattle.device.specs.Blocks.{Block, left_by}
use Rattle.device.specs.Plans.{Write, write, wrote}
use Rattle.device.specs.declared.answers.Manner.{Manner}
use Rattle.device.specs.declared.answers.Manner.TheVariants as manner
use Rattle.journal.specs.Committing.{place_rule, followed, root_plan, place_plan}
use Rattle.journal.specs.Passes.{pass_write, ruled}
use Rattle.map.specs.Addresses.{cylinder_of, sector_of, root_place}
use Rattle.map.specs.Entries.{fits_entry, Named}
use Rattle.map.specs.MapLaws.{map_entries_return}
use Rattle.map.specs.Maps.{encoded_map}
use Rattle.map.specs.declared.entry.Entry.{Entry}
use Rattle.map.specs.declared.entry.Entry.TheVariants.{Map}
use Rattle.object.specs.Roots.{encoded_root, decoded_root}
use Rattle.object.specs.declared.root.Root.{Root as RootOf}
use Rattle.object.specs.declared.root.RootBlock.TheVariants.{Live}
use Rattle.recovery.proofs.Pointwise.{map_long}
use Rattle.recovery.proofs.Rooting.{place_sides}
use Rattle.recovery.specs.Plans.{ChangesWhole, ChangesCut}
use Rattle.volume.proofs.Completing.{root_complete}
use Rattle.volume.proofs.Preparing.{written_map_law, root_store_law}
use Rattle.volume.proofs.Reading.{usable_none_lost, usable_fits}
use Rattle.volume.proofs.Recoverable.{kept_by_stores}
use Rattle.volume.proofs.Stores.{same_cylinders, same_entries, root_block_law}
use Rattle.volume.specs.Changing.{MapFor, Agreeing, replaced, meant_by, ChangesOne}
use Rattle.volume.specs.Committing.{OthersStay}
use Rattle.volume.specs.Counting.{Entries, due}
use Rattle.volume.specs.Meeting.{Usable}
use Rattle.volume.specs.Rebuilding.{Agree}
use Rattle.volume.specs.Recoverable.{Complete, Meaning}
use Rattle.volume.specs.Volume.{cylinders_of, map_at, entry_in, entry_at, root_at, Object, counted}

-- the entries with that of r changed
abbrev pub at_place : ℕ → (Entry → Entry) → Entries → Entries
at_place r f E a = cond (eqb a r) (f (E a)) (E a)

abbrev pub Fits : List Block → ℕ → Entry → Type 0
Fits blocks a e = (fits_entry (cylinders_of blocks) a e ≡ true) × Named e

-- the store of the map of a root place
module _ (blocks : List Block) (r : ℕ) (f : Entry → Entry) (usable : Usable blocks) (within : r < 32 * cylinders_of blocks) (fits : Fits blocks r (f (entry_at blocks r))) where
  abbrev c : ℕ
  c = cylinder_of r

  abbrev s : ℕ
  s = sector_of r

  map : (entries : List Entry) × (map_at blocks (cylinder_of r) ≡ Some entries)
  map = usable (cylinder_of r) (omega arith)

  abbrev changed : List Entry
  changed = set map.0 s (f (get_or map.0 s Map))

  many : length map.0 ≡ 32
  many = map_long blocks c map.0 map.1

  read : (a : ℕ) → cylinder_of a ≡ c → entry_at blocks a ≡ get_or map.0 (sector_of a) Map
  read a here = ap (λ o. entry_in o (sector_of a)) (ap (map_at blocks) here ∙ map.1)

  fitting : (k : ℕ) → k < length changed → Fits blocks (32 * c + k) (get_or changed k Map)
  fitting k h =
      let long : length changed ≡ length map.0 = length-set map.0 s (f (get_or map.0 s Map)) in
      let low : s < 32 = mod_below r 32 (omega arith) in
      ⊎_elim
      (λ (e : k ≡ s).
      let place : r ≡ 32 * c + k = omega arith in
      let is : f (entry_at blocks r) ≡ get_or changed k Map =
      ap f (read r refl) ∙ sym (get_or-set_same map.0 s (f (get_or map.0 s Map)) Map (omega (arith, many))) ∙ ap (λ j. get_or changed j Map) (sym e) in
      subst₂ (Fits blocks) place is fits)
      (λ (ne : k ≢ s).
      let place : sector_of (32 * c + k) ≡ k = omega (arith, many) in
      let is : entry_at blocks (32 * c + k) ≡ get_or changed k Map =
      read (32 * c + k) (omega (arith, many)) ∙ ap (λ j. get_or map.0 j Map) place ∙ sym (get_or-set_other map.0 s k (f (get_or map.0 s Map)) Map ne) in
      subst (Fits blocks (32 * c + k)) is (usable_fits blocks usable (32 * c + k) (omega (arith, many))))
      (cases_eq k s)

  pub place_bytes : List ℕ
  place_bytes = encoded_map c changed

  pub place_stores : place_plan r f blocks ≡ write (32 * cylinder_of r) place_bytes ∷ []
  unfolding place_bytes
  place_stores = ap (λ o. pass_write c (ruled (place_rule r f) c o)) map.1 ∙ ap (λ t. pass_write c (cond t (Some changed) None)) (eq-eqb c c refl)

  pub place_map : MapFor blocks (cylinder_of r) place_bytes (at_place r f (entry_at blocks))
  unfolding place_bytes
  place_map =
      written_map_law blocks r (encoded_map c changed) map.0 f map.1
      (map_entries_return (cylinders_of blocks) c changed (length-set map.0 s (f (get_or map.0 s Map)) ∙ many) fitting)

-- the stores of a root block and of that map
abbrev pub sealing : RootOf → (Entry → Entry) → List Block → List Write
sealing root f = followed (root_plan root) (place_plan root.id.root f)

-- the volume once the root block is stored
abbrev pub rooted : RootOf → List Block → List Block
rooted root blocks = set blocks root.id.root (Block.readable (encoded_root (Live root)))

-- what these two stores ask for
pub record Seals (blocks : List Block) (root : RootOf) (f : Entry → Entry) (new : Option Object) : Type 0 where
  pub complete : Complete blocks
  pub agree : Agreeing blocks
  pub within : root.id.root < 32 * cylinders_of blocks
  pub place : root_place root.id.root ≡ true
  -- the entry to come fits, and the root block is the one that it makes due
  pub fits : Fits blocks root.id.root (f (entry_at blocks root.id.root))
  pub others : OthersStay root.id.root (entry_at blocks) (at_place root.id.root f (entry_at blocks))
  pub decodes : decoded_root (cylinders_of blocks) root.id.root (encoded_root (Live root))
      ≡ Some (due (at_place root.id.root f (entry_at blocks)) (32 * cylinders_of blocks) root.id.root)
  -- the map store changes the object to the new one
  pub changes : (bytes : List ℕ) → MapFor (rooted root blocks) (cylinder_of root.id.root) bytes (at_place root.id.root f (entry_at (rooted root blocks))) →
      ChangesOne (rooted root blocks) root.id.root bytes (at_place root.id.root f (entry_at (rooted root blocks))) new

module _ (blocks : List Block) (root : RootOf) (f : Entry → Entry) (new : Option Object) (seals : Seals blocks root f new) where
  abbrev r : ℕ
  r = root.id.root

  abbrev first : List Block
  first = rooted root blocks

  size : cylinders_of first ≡ cylinders_of blocks
  size = same_cylinders blocks r (Block.readable (encoded_root (Live root)))

  same : entry_at first ≡ entry_at blocks
  same = same_entries blocks r (Block.readable (encoded_root (Live root))) (place_sides r seals.place).0

  first_complete : Complete first
  first_complete = root_complete blocks r (Block.readable (encoded_root (Live root))) seals.place seals.complete

  first_within : r < 32 * cylinders_of first
  first_within = rw size seals.within

  first_fits : Fits first r (f (entry_at first r))
  first_fits = subst₂ (λ (m : ℕ) (E : Entries). (fits_entry m r (f (E r)) ≡ true) × Named (f (E r))) (sym size) (sym same) seals.fits

  -- root blocks agree with the entries to come
  first_agree : Agree (at_place r f (entry_at first)) (root_at first) (32 * cylinders_of first)
  first_agree =
      subst₂ (λ (m : ℕ) (E : Entries). Agree (at_place r f E) (root_at first) (32 * m)) (sym size) (sym same)
      (root_store_law blocks r (encoded_root (Live root)) (at_place r f (entry_at blocks)) seals.within seals.place seals.agree seals.others seals.decodes)

  first_shows : (q : ℕ) → counted first q ≡ counted blocks q
  first_shows = root_block_law blocks r (Block.readable (encoded_root (Live root))) seals.place (usable_none_lost blocks seals.complete.usable)

  abbrev bytes : List ℕ
  bytes = place_bytes first r f first_complete.usable first_within first_fits

  change : ChangesOne first r bytes (at_place r f (entry_at first)) new
  change = seals.changes bytes (place_map first r f first_complete.usable first_within first_fits)

  stores : sealing root f blocks ≡ write r (encoded_root (Live root)) ∷ write (32 * cylinder_of r) bytes ∷ []
  stores = ap (λ plan. write r (encoded_root (Live root)) ∷ plan) (place_stores first r f first_complete.usable first_within first_fits)

  abbrev two : List Write
  two = write r (encoded_root (Live root)) ∷ write (32 * cylinder_of r) bytes ∷ []

  pub sealed_entries : entry_at (wrote blocks (sealing root f blocks)) ≡ at_place root.id.root f (entry_at blocks)
  sealed_entries = ap (λ plan. entry_at (wrote blocks plan)) stores ∙ change.entries ∙ ap (at_place r f) same

  pub sealed_whole : ChangesWhole blocks (sealing root f blocks) root.id.root new
  sealed_whole =
      subst (λ (plan : List Write). ChangesWhole blocks plan r new) (sym stores)
      (record {
        complete = change.complete;
        agree = change.agrees first_agree;
        shows = λ q h. change.shows q ∙ ap (λ x. cond (eqb q r) new x) (first_shows q);
      })

  by_manner : (m : Manner) (after : List Block) (objects : ℕ → Option Object) → Meaning after (meant_by m objects (replaced r new objects) (replaced r new objects)) →
      Meaning after objects ⊎ Meaning after (replaced r new objects)
  by_manner manner.Old after objects means = inl means
  by_manner manner.New after objects means = inr means
  by_manner manner.Unreadable after objects means = inr means

  root_cut : (m : Manner) (objects : ℕ → Option Object) → Meaning blocks objects → Meaning (left_by m blocks r (encoded_root (Live root))) objects
  root_cut manner.Old objects meaning = meaning
  root_cut manner.New objects meaning = kept_by_stores.root_place blocks r (Block.readable (encoded_root (Live root))) objects seals.place seals.complete meaning
  root_cut manner.Unreadable objects meaning = kept_by_stores.root_place blocks r Block.unreadable objects seals.place seals.complete meaning

  cut_two : ChangesCut blocks two r new
  cut_two after objects cut meaning =
      ⊎_elim
      (λ here. let P : List Block → Type 0 = λ xs. Meaning xs objects in inl (subst P (sym here.1) (root_cut here.0 objects meaning)))
      (λ later.
      ⊎_elim
      (λ here.
      let Q : List Block → Type 0 = λ xs. Meaning xs (meant_by here.0 objects (replaced r new objects) (replaced r new objects)) in
      by_manner here.0 after objects (subst Q (sym here.1) (change.cut here.0 objects (λ torn. first_agree) (root_cut manner.New objects meaning))))
      (λ none. absurd none)
      later)
      cut

  pub sealed_cut : ChangesCut blocks (sealing root f blocks) root.id.root new
  sealed_cut = subst (λ (plan : List Write). ChangesCut blocks plan r new) (sym stores) cut_two
