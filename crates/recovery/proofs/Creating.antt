-- Why the stores of a create add one object, all of it or nothing.
use Rattle.std.proofs.Common.{◌≡◌, ℕ, ◌*◌, ◌/◌, ◌<◌, true, false, cond, ◌&&◌, eqb, List, length, get_or, Some, None, sym, refl, ap, ◌∙◌, subst, subst₂, ⊎_elim}
use Rattle.std.proofs.lemmas.List.{length-replicate, get_or-replicate}
use Rattle.std.proofs.lemmas.Bool.{and_parts, and_from, eq-eqb, ne_eqb, cases_eq, true≢false}
use Rattle.device.specs.Blocks.{Block}
use Rattle.device.specs.PlanLaws.{wrote_length}
use Rattle.device.specs.Plans.{wrote}
use Rattle.journal.specs.Committing.{new_root}
use Rattle.map.specs.Addresses.{root_place}
use Rattle.map.specs.Identifiers.{is_tag}
use Rattle.map.specs.declared.entry.DataState.TheVariants as data_state
use Rattle.map.specs.declared.entry.Entry.{Entry}
use Rattle.map.specs.declared.entry.Entry.TheVariants.{Map, Free, Root, Data}
use Rattle.map.specs.declared.entry.RootState.TheVariants as root_state
use Rattle.map.specs.declared.identifier.Identifier.{Identifier}
use Rattle.object.specs.Roots.{encoded_root, fits_address, decoded_root}
use Rattle.object.specs.declared.root.Root.{Root as RootOf}
use Rattle.object.specs.declared.root.RootBlock.TheVariants.{Live}
use Rattle.recovery.proofs.Rooting.{place_sides, identifies, root_back, root_due}
use Rattle.recovery.proofs.Sealing.{sealing, rooted, Seals, sealed_entries, sealed_whole, sealed_cut}
use Rattle.recovery.specs.Creating.{Creates, empty_object, CreatePlanLaw}
use Rattle.recovery.specs.Plans.{ChangesWhole, ChangesCut}
use Rattle.volume.proofs.Changing.{create_store_law}
use Rattle.volume.proofs.Committing.{create_law, with_object_other}
use Rattle.volume.proofs.Completing.{root_complete}
use Rattle.volume.proofs.Stores.{same_cylinders, same_entries}
use Rattle.volume.specs.Committing.{state_for, with_object, Created}
use Rattle.volume.specs.Counting.{Entries, remains_as, has_tag, address_or_0, due}
use Rattle.volume.specs.Meeting.{Quiet, Rest}
use Rattle.volume.specs.Volume.{cylinders_of, entry_at}

-- at rest, nothing names a free place
owner_apart : (E : Entries) (r position : ℕ) (owner : Identifier) → E r ≡ Free → Quiet E (Data data_state.Allocated position owner) → owner.root ≡ r → ⊥
owner_apart E r position owner free quiet same =
    let named = (and_parts (has_tag owner.tag (remains_as (E owner.root))) true quiet).0 in
    true≢false (sym (ap (λ e. has_tag owner.tag (remains_as e)) (sym (ap E same ∙ free)) ∙ named))

unnamed_by : (E : Entries) (r tag p : ℕ) → E r ≡ Free → (e : Entry) → Quiet E e → state_for r tag p e ≡ None
unnamed_by E r tag p free Map quiet = refl
unnamed_by E r tag p free Free quiet = refl
unnamed_by E r tag p free (Root state kind commit of) quiet = refl
unnamed_by E r tag p free (Data data_state.Allocated position owner) quiet =
    ap (λ t. cond ((t && eqb position p) && eqb tag owner.tag) (Some data_state.Allocated) None) (ne_eqb owner.root r (owner_apart E r position owner free quiet))
unnamed_by E r tag p free (Data data_state.IntendingToAllocate position owner) quiet = absurd quiet
unnamed_by E r tag p free (Data data_state.IntendingToDeallocate position owner) quiet = absurd quiet

-- an entry that is quiet stays so once another object is there
still_quiet : (E G : Entries) (r : ℕ) → E r ≡ Free → ((a : ℕ) → (a ≡ r → ⊥) → G a ≡ E a) → (e : Entry) → Quiet E e → Quiet G e
still_quiet E G r free apart Map quiet = tt
still_quiet E G r free apart Free quiet = tt
still_quiet E G r free apart (Root root_state.Allocated kind commit tag) quiet = quiet
still_quiet E G r free apart (Root root_state.IntendingToDeallocate kind commit tag) quiet = absurd quiet
still_quiet E G r free apart (Data data_state.Allocated position owner) quiet =
    ap (λ e. has_tag owner.tag (remains_as e) && true) (apart owner.root (owner_apart E r position owner free quiet)) ∙ quiet
still_quiet E G r free apart (Data data_state.IntendingToAllocate position owner) quiet = absurd quiet
still_quiet E G r free apart (Data data_state.IntendingToDeallocate position owner) quiet = absurd quiet

module _ (blocks : List Block) (root : RootOf) (creates : Creates blocks root) where
  abbrev E : Entries
  E = entry_at blocks

  abbrev n : ℕ
  n = 32 * cylinders_of blocks

  abbrev r : ℕ
  r = root.id.root

  abbrev tag : ℕ
  tag = root.id.tag

  abbrev G : Entries
  G = with_object r root.kind tag E

  unnamed : (p a : ℕ) → a < n → state_for r tag p (E a) ≡ None
  unnamed p a h = unnamed_by E r tag p creates.free (E a) (creates.rest.quiet a h)

  created : Created n r tag root.kind E G
  created = create_law E n r tag root.kind creates.free unnamed

  long : length root.blocks ≡ 64
  long = ap length creates.empty ∙ length-replicate {A = ℕ} 64 0

  zero_at : (p : ℕ) → p < 64 → get_or root.blocks p 0 ≡ 0
  zero_at p h = ap (λ xs. get_or xs p 0) creates.empty ∙ get_or-replicate {A = ℕ} 64 p 0 0 h

  decodes : decoded_root (cylinders_of blocks) r (encoded_root (Live root)) ≡ Some (due G n r)
  decodes =
      root_back (cylinders_of blocks) root creates.few (identifies (cylinders_of blocks) tag r creates.few creates.within creates.tag creates.place) long (λ p h. ap (fits_address (cylinders_of blocks)) (zero_at p h))
      ∙ ap Some (root_due G n root created.object long (λ p h. zero_at p h ∙ ap address_or_0 (sym (created.position p))))

  seals : Seals blocks root (new_root root.kind tag) (empty_object blocks root)
  seals =
      let x = Block.readable (encoded_root (Live root)) in
      let size : cylinders_of (rooted root blocks) ≡ cylinders_of blocks = same_cylinders blocks r x in
      let same : entry_at (rooted root blocks) ≡ E = same_entries blocks r x (place_sides r creates.place).0 in
      record {
        complete = creates.complete;
        agree = creates.rest.agree;
        within = creates.within;
        place = creates.place;
        fits = (and_from (root_place r) (is_tag tag) creates.place creates.tag, tt);
        others = created.others;
        decodes = decodes;
        changes = λ bytes written.
            create_store_law (rooted root blocks) r tag root.kind bytes (rw size creates.within) (root_complete blocks r x creates.place creates.complete)
            (ap (λ (F : Entries). F r) same ∙ creates.free)
            (subst₂ (λ (m : ℕ) (F : Entries). (p a : ℕ) → a < 32 * m → state_for r tag p (F a) ≡ None) (sym size) (sym same) unnamed) written;
      }

  abbrev after : List Block
  after = wrote blocks (sealing root (new_root root.kind tag) blocks)

  entries_after : entry_at after ≡ G
  entries_after = sealed_entries blocks root (new_root root.kind tag) (empty_object blocks root) seals

  quiet_in : (a : ℕ) → a < n → Quiet G (G a)
  quiet_in a h =
      ⊎_elim
      (λ (e : a ≡ r).
      let here : G a ≡ Root root_state.Allocated root.kind false tag = ap (λ t. cond t (Root root_state.Allocated root.kind false tag) (E a)) (eq-eqb a r e) in
      subst (Quiet G) (sym here) refl)
      (λ ne.
      subst (Quiet G) (sym (with_object_other E r tag root.kind a ne))
      (still_quiet E G r creates.free (with_object_other E r tag root.kind) (E a) (creates.rest.quiet a h)))
      (cases_eq a r)

  pub create_whole : ChangesWhole blocks (sealing root (new_root root.kind root.id.tag) blocks) root.id.root (empty_object blocks root)
  create_whole = sealed_whole blocks root (new_root root.kind tag) (empty_object blocks root) seals

  pub create_rest : Rest (wrote blocks (sealing root (new_root root.kind root.id.tag) blocks))
  create_rest =
      let size : cylinders_of after ≡ cylinders_of blocks = ap (λ m. m / 32) (wrote_length blocks (sealing root (new_root root.kind tag) blocks)) in
      record {
        usable = create_whole.complete.usable;
        quiet = subst₂ (λ (m : ℕ) (F : Entries). (a : ℕ) → a < 32 * m → Quiet F (F a)) (sym size) (sym entries_after) quiet_in;
        single = create_whole.complete.single;
        agree = create_whole.agree;
      }

  pub create_cut : ChangesCut blocks (sealing root (new_root root.kind root.id.tag) blocks) root.id.root (empty_object blocks root)
  create_cut = sealed_cut blocks root (new_root root.kind tag) (empty_object blocks root) seals

pub create_plan_law : CreatePlanLaw
create_plan_law = record { rest = create_rest; whole = create_whole; cut = create_cut }
