-- A pass over the maps by which the entries count the same: nothing that a restart would show changes, however
-- far it comes.
use Rattle.std.proofs.Common.{◌≡◌, ℕ, zero, suc, ◌*◌, ◌<◌, ◌≤◌, List, set, Some, None, Option, sym, refl, ap, ◌∙◌, subst, subst₂, ⊎_elim, arith}
use Rattle.device.specs.Blocks.{Block, block_at, left_by}
use Rattle.device.specs.PlanLaws.{wrote_append, cut_either}
use Rattle.device.specs.Plans.{wrote, CutIn}
use Rattle.device.specs.declared.answers.Manner.{Manner}
use Rattle.device.specs.declared.answers.Manner.TheVariants as manner
use Rattle.journal.specs.Carried.{planned}
use Rattle.journal.specs.Passes.{Rule, pass_write, ruled, pass_writes, pass_plan}
use Rattle.map.specs.Addresses.{sector_of}
use Rattle.map.specs.Maps.{decoded_map, encoded_map}
use Rattle.map.specs.declared.entry.Entry.{Entry}
use Rattle.volume.proofs.MapStores.{map_store_law, block_there}
use Rattle.volume.proofs.Recoverable.{keeps_torn}
use Rattle.volume.proofs.StoredMap.{same_complete, same_shows, same_agree}
use Rattle.volume.proofs.Stores.{same_cylinders}
use Rattle.volume.specs.Changing.{Agreeing}
use Rattle.volume.specs.Counting.{Entries}
use Rattle.volume.specs.Laws.{Same}
use Rattle.volume.specs.MapStores.{map_changed}
use Rattle.volume.specs.Recoverable.{Complete, Recoverable, Meaning}
use Rattle.volume.specs.Volume.{cylinders_of, map_at, entry_at, Object, counted}

-- the volume while maps are stored by which the entries count the same
pub record Kept (blocks now : List Block) (F : Entries) : Type 0 where
  pub complete : Complete now
  pub agree : Agreeing now
  pub entries : entry_at now ≡ F
  pub size : cylinders_of now ≡ cylinders_of blocks
  pub shows : (q : ℕ) → q < 32 * cylinders_of blocks → counted now q ≡ counted blocks q
  pub apart : (b : ℕ) → 0 < sector_of b → block_at now b ≡ block_at blocks b

pub kept_means : {blocks now : List Block} {F : Entries} → Kept blocks now F → (objects : ℕ → Option Object) → Meaning blocks objects → Meaning now objects
kept_means {blocks} {now} {F} kept objects meaning = record {
  recoverable = Recoverable.complete kept.complete;
  shows = λ q h. let within : q < 32 * cylinders_of blocks = rw (← kept.size) h in kept.shows q within ∙ meaning.shows q within;
}

-- one more map
module _ (blocks now : List Block) (F : Entries) (kept : Kept blocks now F) (c : ℕ) (inside : c < cylinders_of blocks) (bytes : List ℕ) (entries : List Entry)
    (decodes : decoded_map (cylinders_of blocks) c bytes ≡ Some entries) (same : Same (32 * cylinders_of blocks) F (map_changed c entries F)) where
  inside_now : c < cylinders_of now
  inside_now = rw kept.size inside

  decodes_now : decoded_map (cylinders_of now) c bytes ≡ Some entries
  decodes_now = ap (λ n. decoded_map n c bytes) kept.size ∙ decodes

  same_now : Same (32 * cylinders_of now) (entry_at now) (map_changed c entries (entry_at now))
  same_now = subst₂ (λ (n : ℕ) (E : Entries). Same (32 * n) E (map_changed c entries E)) (sym kept.size) (sym kept.entries) same

  pub kept_more : Kept blocks (set now (32 * c) (Block.readable bytes)) (map_changed c entries F)
  kept_more = record {
    complete = same_complete now c bytes entries inside_now decodes_now same_now kept.complete;
    agree = same_agree now c bytes entries inside_now decodes_now same_now kept.agree;
    entries = map_store_law now c bytes entries inside_now decodes_now ∙ ap (map_changed c entries) kept.entries;
    size = same_cylinders now (32 * c) (Block.readable bytes) ∙ kept.size;
    shows = λ q h. same_shows now c bytes entries inside_now decodes_now same_now kept.complete q (rw kept.size h) ∙ kept.shows q h;
    apart = λ b past. block_there now c (Block.readable bytes) inside_now b past ∙ kept.apart b past;
  }

  pub kept_cut : (m : Manner) (objects : ℕ → Option Object) → Meaning blocks objects → Meaning (left_by m now (32 * c) bytes) objects
  kept_cut manner.Old objects meaning = kept_means kept objects meaning
  kept_cut manner.New objects meaning = kept_means kept_more objects meaning
  kept_cut manner.Unreadable objects meaning = keeps_torn now c objects inside_now kept.complete kept.agree (kept_means kept objects meaning)

-- two changes that count the same as a third state count the same as each other
pub same_between : {n : ℕ} {E F G : Entries} → Same n E F → Same n E G → Same n F G
same_between one two = record {
  remains = λ r h. two.remains r h ∙ sym (one.remains r h);
  counted = λ r p. two.counted r p ∙ sym (one.counted r p);
  owed = λ r h. two.owed r h ∙ sym (one.owed r h);
  claim = λ r p a h. two.claim r p a h ∙ sym (one.claim r p a h);
}

-- the entries once a pass has come to cylinder c
pub record Steps (rule : Rule) (blocks : List Block) (F : ℕ → Entries) : Type 0 where
  pub start : F 0 ≡ entry_at blocks
  pub stays : (c : ℕ) (entries : List Entry) → c < cylinders_of blocks → map_at blocks c ≡ Some entries → rule c entries ≡ None → F (suc c) ≡ F c
  pub writes : (c : ℕ) (entries new : List Entry) → c < cylinders_of blocks → map_at blocks c ≡ Some entries → rule c entries ≡ Some new →
      (decoded_map (cylinders_of blocks) c (encoded_map c new) ≡ Some new) × (F (suc c) ≡ map_changed c new (F c))
  pub same : (c : ℕ) → Same (32 * cylinders_of blocks) (entry_at blocks) (F c)

module _ (rule : Rule) (blocks : List Block) (F : ℕ → Entries) (steps : Steps rule blocks F) (complete : Complete blocks) (agree : Agreeing blocks) where
  abbrev so_far : ℕ → List Block
  so_far c = wrote blocks (planned (pass_writes rule blocks) c)

  next : (c : ℕ) (new : List Entry) → F (suc c) ≡ map_changed c new (F c) → Same (32 * cylinders_of blocks) (F c) (map_changed c new (F c))
  next c new is = subst (Same (32 * cylinders_of blocks) (F c)) is (same_between (steps.same c) (steps.same (suc c)))

  -- the stores of one cylinder
  step : (c : ℕ) (entries : List Entry) → c < cylinders_of blocks → map_at blocks c ≡ Some entries → Kept blocks (so_far c) (F c) →
      (o : Option (List Entry)) → rule c entries ≡ o → Kept blocks (wrote (so_far c) (pass_write c o)) (F (suc c))
  step c entries h is kept None rules = subst (Kept blocks (so_far c)) (sym (steps.stays c entries h is rules)) kept
  step c entries h is kept (Some new) rules =
      let both = steps.writes c entries new h is rules in
      subst (Kept blocks (wrote (so_far c) (pass_write c (Some new)))) (sym both.1)
      (kept_more blocks (so_far c) (F c) kept c h (encoded_map c new) new both.0 (next c new both.1))

  pub kept_so_far : (c : ℕ) → c ≤ cylinders_of blocks → Kept blocks (wrote blocks (planned (pass_writes rule blocks) c)) (F c)
  unfolding planned
  kept_so_far zero h = record { complete = complete; agree = agree; entries = sym steps.start; size = refl; shows = λ q k. refl; apart = λ b past. refl }
  kept_so_far (suc c) h =
      let map = complete.usable c (omega arith) in
      let stores : pass_writes rule blocks c ≡ pass_write c (rule c map.0) = ap (λ o. pass_write c (ruled rule c o)) map.1 in
      subst (λ (xs : List Block). Kept blocks xs (F (suc c)))
      (sym (wrote_append blocks (planned (pass_writes rule blocks) c) (pass_writes rule blocks c) ∙ ap (wrote (so_far c)) stores))
      (step c map.0 (omega arith) map.1 (kept_so_far c (omega arith)) (rule c map.0) refl)

  step_cut : (c : ℕ) (entries : List Entry) → c < cylinders_of blocks → map_at blocks c ≡ Some entries → Kept blocks (so_far c) (F c) →
      (o : Option (List Entry)) → rule c entries ≡ o → (after : List Block) (objects : ℕ → Option Object) → CutIn (so_far c) (pass_write c o) after → Meaning blocks objects → Meaning after objects
  step_cut c entries h is kept None rules after objects cut meaning = absurd cut
  step_cut c entries h is kept (Some new) rules after objects cut meaning =
      let both = steps.writes c entries new h is rules in
      ⊎_elim
      (λ here.
      let P : List Block → Type 0 = λ xs. Meaning xs objects in
      subst P (sym here.1) (kept_cut blocks (so_far c) (F c) kept c h (encoded_map c new) new both.0 (next c new both.1) here.0 objects meaning))
      (λ later. absurd later)
      cut

  cut_so_far : (c : ℕ) → c ≤ cylinders_of blocks → (after : List Block) (objects : ℕ → Option Object) → CutIn blocks (planned (pass_writes rule blocks) c) after →
      Meaning blocks objects → Meaning after objects
  unfolding planned
  cut_so_far zero h after objects cut meaning = absurd cut
  cut_so_far (suc c) h after objects cut meaning =
      let map = complete.usable c (omega arith) in
      let stores : pass_writes rule blocks c ≡ pass_write c (rule c map.0) = ap (λ o. pass_write c (ruled rule c o)) map.1 in
      ⊎_elim (λ first. cut_so_far c (omega arith) after objects first meaning)
      (λ last. step_cut c map.0 (omega arith) map.1 (kept_so_far c (omega arith)) (rule c map.0) refl after objects (subst (λ plan. CutIn (so_far c) plan after) stores last) meaning)
      (cut_either blocks (planned (pass_writes rule blocks) c) (pass_writes rule blocks c) after cut)

  -- the whole pass
  pub pass_kept : Kept blocks (wrote blocks (pass_plan rule blocks)) (F (cylinders_of blocks))
  pass_kept = kept_so_far (cylinders_of blocks) (omega arith)

  pub pass_cut : (after : List Block) (objects : ℕ → Option Object) → CutIn blocks (pass_plan rule blocks) after → Meaning blocks objects → Meaning after objects
  pass_cut = cut_so_far (cylinders_of blocks) (omega arith)
