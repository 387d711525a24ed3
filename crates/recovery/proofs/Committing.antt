-- Why the stores of a commit change one object, all of it or nothing.
use Rattle.std.proofs.Common.{◌≡◌, ℕ, ◌*◌, ◌%◌, ◌<◌, ◌≤◌, Bool, true, false, cond, ◌&&◌, eqb, List, [], ◌∷◌, ◌++◌, Some, None, Option, sym, refl, ap, ◌∙◌, subst, ap₂, subst₂, inl, ⊎_elim, arith}
use mathlib.Core.Path.{fun_ext}
use Rattle.std.proofs.lemmas.Bool.{eq-eqb, ne_eqb, cases_eq, true≢false}
use Rattle.device.specs.Blocks.{Block, block_at}
use Rattle.device.specs.PlanLaws.{wrote_append, cut_either}
use Rattle.device.specs.Plans.{Write, wrote, CutIn}
use Rattle.journal.specs.Committing.{closing}
use Rattle.journal.specs.Marking.{intends, intended, mark_rule}
use Rattle.journal.specs.Passes.{pass_plan}
use Rattle.journal.specs.Rows.{row_of}
use Rattle.journal.specs.declared.row.Row.{Row}
use Rattle.journal.specs.declared.row.Row.TheVariants.{Untouched, New, Cleared}
use Rattle.map.specs.Addresses.{cylinder_of, sector_of}
use Rattle.map.specs.Entries.{fits_entry, Named}
use Rattle.map.specs.declared.entry.DataState.{DataState}
use Rattle.map.specs.declared.entry.DataState.TheVariants as data_state
use Rattle.map.specs.declared.entry.Entry.{Entry}
use Rattle.map.specs.declared.entry.Entry.TheVariants.{Map, Free, Root, Data}
use Rattle.map.specs.declared.entry.RootState.TheVariants as root_state
use Rattle.map.specs.declared.kind.Kind.TheVariants as kinds
use Rattle.object.specs.Roots.{encoded_root, fits_address, decoded_root}
use Rattle.object.specs.declared.root.Root.{Root as RootOf}
use Rattle.object.specs.declared.root.RootBlock.TheVariants.{Live}
use Rattle.recovery.proofs.Becoming.{kept_state, marked_entries, says, row_becomes}
use Rattle.recovery.proofs.Marking.{placed, proper, mark_harmless}
use Rattle.recovery.proofs.Passing.{Kept, Steps, kept_means, pass_kept, pass_cut}
use Rattle.recovery.proofs.Pointwise.{changed_at, below, pointwise_steps}
use Rattle.recovery.proofs.Rooting.{place_sides, address_fits, root_back, root_due}
use Rattle.recovery.proofs.Sealing.{sealing, rooted, Seals, sealed_whole, sealed_cut}
use Rattle.recovery.specs.Committing.{block_after, Saves, saved, CommitPlanLaw}
use Rattle.recovery.specs.Plans.{ChangesWhole, ChangesCut}
use Rattle.volume.proofs.Changing.{bit_store_law}
use Rattle.volume.proofs.Committing.{commit_law}
use Rattle.volume.proofs.Completing.{shows_own, root_complete}
use Rattle.volume.proofs.Reading.{usable_fits}
use Rattle.volume.proofs.Searching.{lowest_finds}
use Rattle.volume.proofs.Stores.{same_cylinders, same_entries, elsewhere, claim_place}
use Rattle.volume.specs.Changing.{MapFor, Agreeing, ChangesOne}
use Rattle.volume.specs.Committing.{state_for, Becomes, marked, with_bit, Committed}
use Rattle.volume.specs.Counting.{Entries, held, remains_as, claims, counted_at, address_or_0, due}
use Rattle.volume.specs.Meeting.{Quiet}
use Rattle.volume.specs.Recoverable.{Complete, Meaning}
use Rattle.volume.specs.Volume.{cylinders_of, entry_at, is_unreadable, words_in, content, Object, object_of, counted}

-- at rest, every entry of an object is allocated
quiet_state : (E : Entries) (r tag p : ℕ) (e : Entry) → Quiet E e → (state : DataState) → state_for r tag p e ≡ Some state → state ≡ data_state.Allocated
quiet_state E r tag p Map quiet state is = absurd (true≢false cc)
quiet_state E r tag p Free quiet state is = absurd (true≢false cc)
quiet_state E r tag p (Root s kind commit of) quiet state is = absurd (true≢false cc)
quiet_state E r tag p (Data data_state.Allocated position owner) quiet state is =
    sym (kept_state (eqb owner.root r && eqb position p && eqb tag owner.tag) data_state.Allocated state is).1
quiet_state E r tag p (Data data_state.IntendingToAllocate position owner) quiet state is = absurd quiet
quiet_state E r tag p (Data data_state.IntendingToDeallocate position owner) quiet state is = absurd quiet

module _ (blocks : List Block) (root : RootOf) (rows : List Row) (saves : Saves blocks root rows) where
  abbrev E : Entries
  E = entry_at blocks

  abbrev n : ℕ
  n = 32 * cylinders_of blocks

  abbrev r : ℕ
  r = root.id.root

  abbrev tag : ℕ
  tag = root.id.tag

  -- the block that each position will have
  abbrev o : ℕ → Option ℕ
  o p = block_after blocks r p (row_of rows p)

  abbrev marking : List Write
  marking = pass_plan (mark_rule root.id rows) blocks

  -- the volume once every map is marked
  abbrev mid : List Block
  mid = wrote blocks marking

  abbrev F : Entries
  F = marked_entries blocks root rows saves

  steps : Steps (mark_rule root.id rows) blocks (λ c. changed_at (below c) (intended root.id rows) E)
  steps = pointwise_steps (intends root.id rows) (intended root.id rows) blocks (mark_harmless blocks root rows saves)

  kept : Kept blocks mid F
  kept = pass_kept (mark_rule root.id rows) blocks (λ c. changed_at (below c) (intended root.id rows) E) steps saves.complete saves.rest.agree

  mark_cut : (after : List Block) (objects : ℕ → Option Object) → CutIn blocks marking after → Meaning blocks objects → Meaning after objects
  mark_cut = pass_cut (mark_rule root.id rows) blocks (λ c. changed_at (below c) (intended root.id rows) E) steps saves.complete saves.rest.agree

  -- the root entry has no intention
  FRoot : F r ≡ Root root_state.Allocated root.kind false tag
  FRoot = by (below (cylinders_of blocks) r)
    where
      by : (t : Bool) → cond t (intended root.id rows r (E r)) (E r) ≡ Root root_state.Allocated root.kind false tag
      by true = ap (intended root.id rows r) saves.exists
      by false = saves.exists

  mid_root : entry_at mid r ≡ Root root_state.Allocated root.kind false tag
  mid_root = ap (λ G. G r) kept.entries ∙ FRoot

  becomes_in : (volume : List Block) → entry_at volume ≡ F → cylinders_of volume ≡ cylinders_of blocks → (p : ℕ) → Becomes (entry_at volume) (32 * cylinders_of volume) r tag p (o p)
  becomes_in volume entries size p =
      subst₂ (λ (m : ℕ) (G : Entries). Becomes G (32 * m) r tag p (o p)) (sym size) (sym entries) (row_becomes blocks root rows saves p (row_of rows p) refl)

  -- the block of a position is a data block of the volume
  place : (p b : ℕ) → o p ≡ Some b → (5 ≤ sector_of b) × (b < n)
  place p b is = by (row_of rows p) refl is
    where
      by : (row : Row) → row_of rows p ≡ row → block_after blocks r p row ≡ Some b → (5 ≤ sector_of b) × (b < n)
      by Untouched row found = let finds = lowest_finds (claims E r p) n b found in (claim_place blocks r p b finds.0, finds.1)
      by (New d) row found =
          let same : d ≡ b = cc in
          let new = saves.new p b (row ∙ ap New same) in
          (new.place, new.within)
      by Cleared row found = absurd (true≢false cc)

  committed : Committed (32 * cylinders_of mid) r tag (entry_at mid) (with_bit r (entry_at mid))
  committed = commit_law (entry_at mid) (32 * cylinders_of mid) r tag root.kind mid_root

  decodes : decoded_root (cylinders_of mid) r (encoded_root (Live root)) ≡ Some (due (with_bit r (entry_at mid)) (32 * cylinders_of mid) r)
  decodes =
      root_back (cylinders_of mid) root (rw kept.size saves.few) (proper blocks root rows saves) saves.long
      (λ p h. ap₂ fits_address kept.size (saves.addresses p h) ∙ address_fits (cylinders_of blocks) (o p) (place p))
      ∙ ap Some
      (root_due (with_bit r (entry_at mid)) (32 * cylinders_of mid) root (committed.object ∙ ap remains_as mid_root) saves.long
      (λ p h. saves.addresses p h ∙ ap address_or_0 (sym (committed.position p (o p) (becomes_in mid kept.entries kept.size p)))))

  -- the volume once the root block is stored too
  abbrev first : List Block
  first = rooted root mid

  sides : (1 ≤ sector_of r) × (sector_of r ≤ 4)
  sides = place_sides r (placed blocks root rows saves)

  first_size : cylinders_of first ≡ cylinders_of blocks
  first_size = same_cylinders mid r (Block.readable (encoded_root (Live root))) ∙ kept.size

  first_entries : entry_at first ≡ F
  first_entries = same_entries mid r (Block.readable (encoded_root (Live root))) (omega (arith, sides.0)) ∙ kept.entries

  -- data blocks are as they were
  data_there : (b : ℕ) → 5 ≤ sector_of b → block_at first b ≡ block_at blocks b
  data_there b high =
      elsewhere mid r (Block.readable (encoded_root (Live root))) b (λ e. let s : b % 32 ≡ r % 32 = ap (λ k. k % 32) e in omega (arith, sides.1))
      ∙ kept.apart b (omega arith)

  shows_there : (p : ℕ) → content first (o p) ≡ content blocks (o p)
  shows_there p = by (o p) (place p)
    where
      by : (block : Option ℕ) → ((b : ℕ) → block ≡ Some b → (5 ≤ sector_of b) × (b < n)) → content first block ≡ content blocks block
      by None at = refl
      by (Some b) at = ap words_in (data_there b (at b refl).0)

  new_readable : root.kind ≡ kinds.Index → (p b : ℕ) → b < 32 * cylinders_of first → state_for r tag p (entry_at first b) ≡ Some data_state.IntendingToAllocate →
      is_unreadable (block_at first b) ≡ false
  new_readable index p b h state =
      let row = says blocks root rows saves p b (rw (← first_size) h) data_state.IntendingToAllocate (ap (λ (G : Entries). state_for r tag p (G b)) (sym first_entries) ∙ state) in
      ap is_unreadable (data_there b (saves.new p b row).place) ∙ saves.readable index p b row

  changes : (bytes : List ℕ) → MapFor first (cylinder_of r) bytes (with_bit r (entry_at first)) → ChangesOne first r bytes (with_bit r (entry_at first)) (saved blocks root rows)
  changes bytes written =
      subst (λ (new : Option Object). ChangesOne first r bytes (with_bit r (entry_at first)) new)
      (ap (λ positions. object_of positions (Some (held root.kind tag))) (fun_ext shows_there))
      (bit_store_law first r tag root.kind bytes o (rw first_size saves.within)
      (root_complete mid r (Block.readable (encoded_root (Live root))) (placed blocks root rows saves) kept.complete)
      (ap (λ (G : Entries). G r) first_entries ∙ FRoot) (becomes_in first first_entries first_size) new_readable written)

  seals : Seals mid root marked (saved blocks root rows)
  seals = record {
    complete = kept.complete;
    agree = kept.agree;
    within = rw kept.size saves.within;
    place = placed blocks root rows saves;
    fits =
        let was = usable_fits blocks saves.complete.usable r saves.within in
        (ap₂ (λ m e. fits_entry m r e) kept.size (ap marked mid_root) ∙ sym (ap (fits_entry (cylinders_of blocks) r) saves.exists) ∙ was.0, subst Named (sym (ap marked mid_root)) tt);
    others = committed.others;
    decodes = decodes;
    changes = changes;
  }

  -- with nothing to mark, every position is to have the block that it has
  module _ (nothing : marking ≡ []) where
    unmarked : E ≡ F
    unmarked = ap (λ plan. entry_at (wrote blocks plan)) (sym nothing) ∙ kept.entries

    as_it_was : (p : ℕ) → Becomes E n r tag p (counted_at E n r p)
    as_it_was p =
        Becomes.untouched
        (λ a h state. let held_so = quiet_state E r tag p (E a) (saves.rest.quiet a h) data_state.IntendingToAllocate state in true≢false cc)
        (λ a h state. let held_so = quiet_state E r tag p (E a) (saves.rest.quiet a h) data_state.IntendingToDeallocate state in true≢false cc)

    same_block : (p : ℕ) → o p ≡ counted_at E n r p
    same_block p =
        let law = commit_law E n r tag root.kind saves.exists in
        sym (law.position p (o p) (becomes_in blocks unmarked refl p)) ∙ law.position p (counted_at E n r p) (as_it_was p)

    same_object : saved blocks root rows ≡ counted blocks r
    same_object =
        ap₂ object_of (fun_ext (λ p. ap (content blocks) (same_block p))) (sym (ap remains_as saves.exists))
        ∙ sym (shows_own blocks saves.complete r)

    none_whole : ChangesWhole blocks [] r (saved blocks root rows)
    none_whole = record {
      complete = saves.complete;
      agree = saves.rest.agree;
      shows = λ q h.
          ⊎_elim
          (λ (e : q ≡ r). ap (counted blocks) e ∙ sym same_object ∙ sym (ap (λ t. cond t (saved blocks root rows) (counted blocks q)) (eq-eqb q r e)))
          (λ ne. sym (ap (λ t. cond t (saved blocks root rows) (counted blocks q)) (ne_eqb q r ne)))
          (cases_eq q r);
    }

  abbrev seal : List Write
  seal = sealing root marked mid

  whole_joined : ChangesWhole blocks (marking ++ seal) r (saved blocks root rows)
  whole_joined =
      let after : wrote blocks (marking ++ seal) ≡ wrote mid seal = wrote_append blocks marking seal in
      let done = sealed_whole mid root marked (saved blocks root rows) seals in
      record {
        complete = subst Complete (sym after) done.complete;
        agree = subst Agreeing (sym after) done.agree;
        shows = λ q h.
            ap (λ xs. counted xs q) after ∙ done.shows q (rw kept.size h)
            ∙ ap (λ x. cond (eqb q r) (saved blocks root rows) x) (kept.shows q h);
      }

  cut_joined : ChangesCut blocks (marking ++ seal) r (saved blocks root rows)
  cut_joined after objects cut meaning =
      ⊎_elim (λ early. inl (mark_cut after objects early meaning))
      (λ late. sealed_cut mid root marked (saved blocks root rows) seals after objects late (kept_means kept objects meaning))
      (cut_either blocks marking seal after cut)

  -- the list goes on only if something was marked
  pub commit_whole : ChangesWhole blocks (closing marking seal) root.id.root (saved blocks root rows)
  commit_whole = by marking refl
    where
      by : (plan : List Write) → marking ≡ plan → ChangesWhole blocks (closing plan seal) r (saved blocks root rows)
      by [] is = none_whole is
      by (w ∷ plan) is = subst (λ (p : List Write). ChangesWhole blocks (p ++ seal) r (saved blocks root rows)) is whole_joined

  pub commit_cut : ChangesCut blocks (closing marking seal) root.id.root (saved blocks root rows)
  commit_cut = by marking refl
    where
      by : (plan : List Write) → marking ≡ plan → ChangesCut blocks (closing plan seal) r (saved blocks root rows)
      by [] is = λ after objects cut meaning. absurd cut
      by (w ∷ plan) is = subst (λ (p : List Write). ChangesCut blocks (p ++ seal) r (saved blocks root rows)) is cut_joined

pub commit_plan_law : CommitPlanLaw
commit_plan_law = record { whole = commit_whole; cut = commit_cut }
