-- Why the tail of a change keeps what counts, cut anywhere, and leaves a volume at rest.
use Rattle.std.proofs.Common.{◌≡◌, ℕ, suc, ◌*◌, ◌<◌, ◌≤◌, Bool, true, false, cond, ltb, leb, List, length, None, Option, sym, refl, ap, ◌∙◌, subst, ap₂, ⊎_elim, arith}
use mathlib.Core.Path.{fun_ext}
use Rattle.std.proofs.lemmas.List.{get_or_past}
use Rattle.std.proofs.lemmas.Bool.{and_parts, leb-true, lt-ltb, cases_lt}
use Rattle.device.specs.Blocks.{Block, block_at}
use Rattle.device.specs.PlanLaws.{wrote_append, wrote_length, cut_either}
use Rattle.device.specs.Plans.{wrote, CutIn}
use Rattle.journal.specs.Finishing.{roots_of, settle_rule, clear_rule, settle_plan, finish_plan}
use Rattle.journal.specs.Passes.{pass_plan}
use Rattle.map.specs.Addresses.{cylinder_of, sector_of, root_place}
use Rattle.map.specs.declared.entry.Entry.{Entry}
use Rattle.map.specs.declared.entry.Entry.TheVariants.{Free}
use Rattle.volume.specs.Changing.{Agreeing}
use Rattle.volume.specs.Choosing.{unsettled}
use Rattle.volume.specs.Counting.{Entries, remains_as, bit}
use Rattle.volume.specs.Laws.{Same, AtRest}
use Rattle.volume.specs.Meeting.{Quiet}
use Rattle.volume.specs.Recoverable.{Complete, Meaning}
use Rattle.volume.specs.Settling.{settled, cleared}
use Rattle.volume.specs.Volume.{cylinders_of, map_in, entry_in, entry_at, root_in, Object}
use Rattle.volume.proofs.Choosing.{choosing_law}
use Rattle.volume.proofs.Reading.{usable_fits}
use Rattle.volume.proofs.Sameness.{settling_law, clearing_law}
use Rattle.recovery.proofs.FinishEntries.{settled_fits, cleared_fits, settled_by_roots, settled_rests, finished_quiet}
use Rattle.recovery.proofs.Passing.{Kept, Steps, kept_means, pass_kept, pass_cut}
use Rattle.recovery.proofs.Pointwise.{changed_at, below, anywhere_steps}
use Rattle.recovery.specs.Finishing.{Finished, FinishLaw}

-- past the last cylinder every entry is free
past_free : (blocks : List Block) → length blocks ≡ 32 * cylinders_of blocks → (a : ℕ) → cylinders_of blocks ≤ cylinder_of a → entry_at blocks a ≡ Free
past_free blocks long a h =
    ap (λ b. entry_in (map_in (cylinders_of blocks) (cylinder_of a) b) (sector_of a)) (get_or_past blocks (32 * cylinder_of a) Block.unreadable (omega arith))

-- so all entries are changed once those of every cylinder are
changed_all : (blocks : List Block) (f : Entry → Entry) → f Free ≡ Free → length blocks ≡ 32 * cylinders_of blocks → (a : ℕ) → changed_at (below (cylinders_of blocks)) (λ b. f) (entry_at blocks) a ≡ f (entry_at blocks a)
changed_all blocks f free long a =
    ⊎_elim
    (λ (low : cylinder_of a < cylinders_of blocks). ap (λ t. cond t (f (entry_at blocks a)) (entry_at blocks a)) (lt-ltb (cylinder_of a) (cylinders_of blocks) low))
    (λ high. let none = past_free blocks long a high in either (ltb (cylinder_of a) (cylinders_of blocks)) (f (entry_at blocks a)) (entry_at blocks a) (none ∙ sym free ∙ sym (ap f none)))
    (cases_lt (cylinder_of a) (cylinders_of blocks))
  where
    either : (t : Bool) (x y : Entry) → y ≡ x → cond t x y ≡ x
    either true x y e = refl
    either false x y e = e

module _ (blocks : List Block) (long : length blocks ≡ 32 * cylinders_of blocks) (complete : Complete blocks) (agree : Agreeing blocks) where
  abbrev E : Entries
  E = entry_at blocks

  by_roots : (a : ℕ) → settled (roots_of E) (E a) ≡ settled E (E a)
  by_roots a =
      ⊎_elim
      (λ (low : a < 32 * cylinders_of blocks). let fits = usable_fits blocks complete.usable a low in settled_by_roots (cylinders_of blocks) E a (E a) fits.0 fits.1)
      (λ high. let none = past_free blocks long a (omega arith) in ap (settled (roots_of E)) none ∙ sym (ap (settled E) none))
      (cases_lt a (32 * cylinders_of blocks))

  abbrev S : Entry → Entry
  S = settled (roots_of E)

  settling : Steps (settle_rule (roots_of E)) blocks (λ c. changed_at (below c) (λ a. S) E)
  settling = anywhere_steps (unsettled (roots_of E)) S blocks (record {
    idle = λ a. choosing_law.settled_already (roots_of E) (E a);
    fits = λ a h. let was = usable_fits blocks complete.usable a h in settled_fits (cylinders_of blocks) (roots_of E) a (E a) was.0 was.1;
    same = λ on.
        subst (Same (32 * cylinders_of blocks) E) (fun_ext (λ a. ap (λ e. cond (on a) e (E a)) (sym (by_roots a))))
        (settling_law (32 * cylinders_of blocks) E on);
  })

  abbrev mid : List Block
  mid = wrote blocks (settle_plan blocks)

  settled_all : Kept blocks mid (changed_at (below (cylinders_of blocks)) (λ a. S) E)
  settled_all = pass_kept (settle_rule (roots_of E)) blocks (λ c. changed_at (below c) (λ a. S) E) settling complete agree

  mid_entries : (a : ℕ) → entry_at mid a ≡ settled E (E a)
  mid_entries a = ap (λ F. F a) settled_all.entries ∙ changed_all blocks S refl long a ∙ by_roots a

  mid_rests : (a : ℕ) → AtRest (entry_at mid a)
  mid_rests a = subst AtRest (sym (mid_entries a)) (settled_rests E (E a))

  clearing : Steps clear_rule mid (λ c. changed_at (below c) (λ a. cleared) (entry_at mid))
  clearing = anywhere_steps bit cleared mid (record {
    idle = λ a. choosing_law.cleared_already (entry_at mid a);
    fits = λ a h. let was = usable_fits mid settled_all.complete.usable a h in cleared_fits (cylinders_of mid) a (entry_at mid a) was.0 was.1;
    same = λ on. clearing_law (32 * cylinders_of mid) (entry_at mid) on mid_rests;
  })

  abbrev end : List Block
  end = wrote mid (pass_plan clear_rule mid)

  cleared_all : Kept mid end (changed_at (below (cylinders_of mid)) (λ a. cleared) (entry_at mid))
  cleared_all = pass_kept clear_rule mid (λ c. changed_at (below c) (λ a. cleared) (entry_at mid)) clearing settled_all.complete settled_all.agree

  end_entries : (a : ℕ) → entry_at end a ≡ cleared (settled E (E a))
  end_entries a =
      ap (λ F. F a) cleared_all.entries ∙ changed_all mid cleared refl (wrote_length blocks (settle_plan blocks) ∙ long ∙ ap (λ n. 32 * n) (sym settled_all.size)) a ∙ ap cleared (mid_entries a)

  -- every object remains
  end_remains : (r : ℕ) → remains_as (entry_at end r) ≡ remains_as (E r)
  end_remains r =
      ap remains_as (end_entries r ∙ ap cleared (sym (mid_entries r)))
      ∙ (clearing_law (suc r) (entry_at mid) (λ a. true) mid_rests).remains r (omega arith)
      ∙ ap remains_as (mid_entries r)
      ∙ (settling_law (suc r) E (λ a. true)).remains r (omega arith)

  end_size : cylinders_of end ≡ cylinders_of blocks
  end_size = cleared_all.size ∙ settled_all.size

  end_others : (a : ℕ) → 0 < sector_of a → block_at end a ≡ block_at blocks a
  end_others a past = cleared_all.apart a past ∙ settled_all.apart a past

  end_roots : (r : ℕ) (t : Bool) → root_place r ≡ t → cond t (root_in (cylinders_of end) r (block_at end r)) None ≡ cond t (root_in (cylinders_of blocks) r (block_at blocks r)) None
  end_roots r false place = refl
  end_roots r true place =
      let low = leb-true 1 (sector_of r) (and_parts (leb 1 (sector_of r)) (leb (sector_of r) 4) place).0 in
      ap₂ (λ n b. root_in n r b) end_size (end_others r (omega arith))

  finished : Finished blocks end
  finished = record {
    rest = record {
      usable = cleared_all.complete.usable;
      quiet = λ a h. subst (Quiet (entry_at end)) (sym (end_entries a)) (finished_quiet E (entry_at end) end_remains (E a));
      single = cleared_all.complete.single;
      agree = cleared_all.agree;
    };
    complete = cleared_all.complete;
    size = wrote_length mid (pass_plan clear_rule mid) ∙ wrote_length blocks (settle_plan blocks);
    shows = λ r h. cleared_all.shows r (rw settled_all.size h) ∙ settled_all.shows r h;
    roots = fun_ext (λ r. end_roots r (root_place r) refl);
    others = end_others;
  }

  cut_anywhere : (after : List Block) (objects : ℕ → Option Object) → CutIn blocks (finish_plan blocks) after → Meaning blocks objects → Meaning after objects
  cut_anywhere after objects cut meaning =
      ⊎_elim
      (λ first. pass_cut (settle_rule (roots_of E)) blocks (λ c. changed_at (below c) (λ a. S) E) settling complete agree after objects first meaning)
      (λ second.
      pass_cut clear_rule mid (λ c. changed_at (below c) (λ a. cleared) (entry_at mid)) clearing settled_all.complete settled_all.agree after objects second
      (kept_means settled_all objects meaning))
      (cut_either blocks (settle_plan blocks) (pass_plan clear_rule mid) after cut)

pub finish_law : FinishLaw
finish_law = record {
  whole = λ blocks long complete agree.
      subst (Finished blocks) (sym (wrote_append blocks (settle_plan blocks) (pass_plan clear_rule (wrote blocks (settle_plan blocks))))) (finished blocks long complete agree);
  cut = λ blocks after objects long complete agree. cut_anywhere blocks long complete agree after objects;
}
