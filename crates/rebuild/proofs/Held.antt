-- Why each data block of the lost map goes to its lowest holder, and which are held twice.
use Rattle.std.proofs.Common.{◌≡◌, ℕ, zero, suc, ◌+◌, ◌*◌, ◌/◌, ◌%◌, ◌<◌, ◌≤◌, Bool, true, false, cond, not, ◌&&◌, ◌||◌, eqb, leb, List, length, get_or, drop, is_some, Some, None, Option, sym, refl, ap, ◌∙◌, subst, ap₂, arith}
use Rattle.std.proofs.lemmas.List.{get_or-replicate}
use Rattle.std.proofs.lemmas.Bool.{and_parts, leb-true, ne_eqb, le-leb, true≢false}
use Rattle.map.specs.Addresses.{sector_of, root_place, data_block}
use Rattle.map.specs.declared.entry.DataState.TheVariants as data_state
use Rattle.map.specs.declared.entry.Entry.{Entry}
use Rattle.map.specs.declared.entry.Entry.TheVariants.{Map, Root, Data}
use Rattle.map.specs.declared.entry.RootState.TheVariants as root_state
use Rattle.object.specs.declared.root.Root.{Root as ObjectRoot}
use Rattle.object.specs.declared.root.RootBlock.{RootBlock}
use Rattle.object.specs.declared.root.RootBlock.TheVariants.{Dead, Live}
use Rattle.volume.specs.Rebuilding.{RootBlocks, block_holds, holds, held_entry, data_entry}
use Rattle.volume.specs.Search.{lowest, any, or_else}
use Rattle.volume.proofs.Searching.{lowest_finds}
use Rattle.rebuild.specs.Laws.{Long, AllLong}
use Rattle.rebuild.specs.Taking.{is_free, held_in, twice_in, held_from, twice_from, root_in_map, taken_to, twice_to}
use Rattle.rebuild.proofs.Sectors.{held_at, twice_at, root_at_sector}
use Rattle.rebuild.proofs.Stepping.{more_held, all_held, more_twice, all_twice}
use Rattle.rebuild.proofs.Taken.{Quiet, each_root, held_long, twice_long, root_long, taken_long, empty_free, lowest_more, any_more}

or_none : (x : Bool) → (x || false) ≡ x
or_none true = refl
or_none false = refl

or_one : (x : Bool) → (x || true) ≡ true
or_one true = refl
or_one false = refl

-- what a root block holds is a data entry
held_taken : (o : Option RootBlock) (p a q : ℕ) → block_holds o p a ≡ true → is_free (held_entry o q) ≡ false
held_taken None p a q on = absurd (true≢false (sym on))
held_taken (Some Dead) p a q on = absurd (true≢false (sym on))
held_taken (Some (Live root)) p a q on = refl

-- place and position k hold an address
abbrev pub held_by : RootBlocks → ℕ → ℕ → Bool
held_by R a k = holds R (k / 64) (k % 64) a

-- and are not the first
abbrev pub held_again : RootBlocks → ℕ → ℕ → Bool
held_again R a k = held_by R a k && is_some (lowest (held_by R a) k)

module _ (c s : ℕ) (sh : s < 32) (high : 5 ≤ s) (R : RootBlocks) where
  abbrev holds_at : ℕ → Bool
  holds_at = held_by R (32 * c + s)

  abbrev again_at : ℕ → Bool
  again_at = held_again R (32 * c + s)

  abbrev Good : ℕ → List Entry → List Bool → Type 0
  Good k es ts = (get_or es s Map ≡ data_entry R (lowest holds_at k)) × (get_or ts s false ≡ any again_at k)

  is_data : data_block (32 * c + s) ≡ true
  is_data = le-leb 5 (sector_of (32 * c + s)) (omega arith)

  found_taken : (k b : ℕ) → lowest holds_at k ≡ Some b → is_free (data_entry R (Some b)) ≡ false
  found_taken k b is =
      let on = (lowest_finds holds_at k b is).0 in
      held_taken (R (b / 64)) (b % 64) (32 * c + s) (b % 64) (and_parts (root_place (b / 64)) (block_holds (R (b / 64)) (b % 64) (32 * c + s)) on).1

  entry_step : (o : Option ℕ) (t : Bool) (k : ℕ) → ((b : ℕ) → o ≡ Some b → is_free (data_entry R (Some b)) ≡ false) →
      cond (t && is_free (data_entry R o)) (data_entry R (Some k)) (data_entry R o) ≡ data_entry R (or_else o (cond t (Some k) None))
  entry_step None true k taken = refl
  entry_step None false k taken = refl
  entry_step (Some b) true k taken = ap (λ t. cond t (data_entry R (Some k)) (data_entry R (Some b))) (taken b refl)
  entry_step (Some b) false k taken = refl

  twice_step : (o : Option ℕ) (t u : Bool) → ((b : ℕ) → o ≡ Some b → is_free (data_entry R (Some b)) ≡ false) →
      cond (t && not (is_free (data_entry R o))) true u ≡ (u || (t && is_some o))
  twice_step None true u taken = sym (or_none u)
  twice_step None false u taken = sym (or_none u)
  twice_step (Some b) true u taken = ap (λ t. cond (not t) true u) (taken b refl) ∙ sym (or_one u)
  twice_step (Some b) false u taken = sym (or_none u)

  -- one live root block, position by position
  module _ (r : ℕ) (root : ObjectRoot) (place : root_place r ≡ true) (live : R r ≡ Some (Live root)) (full : length root.blocks ≡ 64) where
    holds_here : (p : ℕ) → p < 64 → holds_at (64 * r + p) ≡ eqb (get_or root.blocks p 0) (32 * c + s)
    holds_here p h =
        let at : (64 * r + p) / 64 ≡ r = omega arith in
        let position : (64 * r + p) % 64 ≡ p = omega arith in
        ap₂ (λ a b. holds R a b (32 * c + s)) at position ∙ ap₂ ◌&&◌ place (ap (λ o. block_holds o p (32 * c + s)) live)

    entry_here : (p : ℕ) → p < 64 → data_entry R (Some (64 * r + p)) ≡ Data data_state.Allocated p root.id
    entry_here p h =
        let at : (64 * r + p) / 64 ≡ r = omega arith in
        let position : (64 * r + p) % 64 ≡ p = omega arith in
        ap₂ (λ a b. held_entry (R a) b) at position ∙ ap (λ o. held_entry o p) live

    one_address : (p : ℕ) → p < 64 → (es : List Entry) (ts : List Bool) → length es ≡ 32 → length ts ≡ 32 → Good (64 * r + p) es ts →
        Good (64 * r + (p + 1)) (held_in c root.id p (get_or root.blocks p 0) es) (twice_in c (get_or root.blocks p 0) es ts)
    one_address p h es ts long many good =
        let k = 64 * r + p in
        let x = get_or root.blocks p 0 in
        let next : 64 * r + (p + 1) ≡ 64 * r + p + 1 = omega arith in (
          held_at c s sh es long root.id p x
              ∙ ap₂ (λ t u. cond (t && (u && is_free (get_or es s Map))) (Data data_state.Allocated p root.id) (get_or es s Map)) (sym (holds_here p h)) is_data
              ∙ ap₂ (λ e d. cond (holds_at k && is_free e) d e) good.0 (sym (entry_here p h))
              ∙ entry_step (lowest holds_at k) (holds_at k) k (found_taken k)
              ∙ sym (ap (data_entry R) (ap (lowest holds_at) next ∙ lowest_more holds_at k)),
          twice_at c s sh es long ts many x
              ∙ ap₂ (λ t u. cond (t && (u && not (is_free (get_or es s Map)))) true (get_or ts s false)) (sym (holds_here p h)) is_data
              ∙ ap₂ (λ e u. cond (holds_at k && not (is_free e)) true u) good.0 good.1
              ∙ twice_step (lowest holds_at k) (holds_at k) (any again_at k) (found_taken k)
              ∙ sym (ap (any again_at) next ∙ any_more again_at k),
        )

    all_addresses : (d p : ℕ) → p + d ≡ 64 → (es : List Entry) (ts : List Bool) → length es ≡ 32 → length ts ≡ 32 → Good (64 * r + p) es ts →
        Good (64 * r + 64) (held_from c root.id p (drop p root.blocks) es) (twice_from c root.id p (drop p root.blocks) es ts)
    all_addresses zero p end es ts long many good =
        let past : length root.blocks ≤ p = omega arith in
        let last : 64 * r + p ≡ 64 * r + 64 = omega arith in (
          ap (λ xs. get_or xs s Map) (all_held c root.id p root.blocks es past) ∙ good.0 ∙ ap (λ k. data_entry R (lowest holds_at k)) last,
          ap (λ xs. get_or xs s false) (all_twice c root.id p root.blocks es ts past) ∙ good.1 ∙ ap (any again_at) last,
        )
    all_addresses (suc d) p end es ts long many good =
        let within : p < length root.blocks = omega arith in
        let x = get_or root.blocks p 0 in
        let rest =
        all_addresses d (p + 1) (omega arith) (held_in c root.id p x es) (twice_in c x es ts) (held_long c root.id p x es ∙ long) (twice_long c x es ts ∙ many)
        (one_address p (omega arith) es ts long many good) in (
          ap (λ xs. get_or xs s Map) (more_held c root.id p root.blocks es within) ∙ rest.0,
          ap (λ xs. get_or xs s false) (more_twice c root.id p root.blocks es ts within) ∙ rest.1,
        )

  -- a search over 64 positions that hold nothing finds nothing new
  nothing_new : (k d : ℕ) → ((p : ℕ) → p < d → holds_at (k + p) ≡ false) → (lowest holds_at (k + d) ≡ lowest holds_at k) × (any again_at (k + d) ≡ any again_at k)
  nothing_new k zero off = (ap (lowest holds_at) (omega arith), ap (any again_at) (omega arith))
  nothing_new k (suc d) off =
      let before = nothing_new k d (λ p h. off p (omega arith)) in
      let next : k + suc d ≡ k + d + 1 = omega arith in
      let here = off d (omega arith) in (
        ap (lowest holds_at) next ∙ lowest_more holds_at (k + d) ∙ ap (λ t. or_else (lowest holds_at (k + d)) (cond t (Some (k + d)) None)) here ∙ no_other (lowest holds_at (k + d)) ∙ before.0,
        ap (any again_at) next ∙ any_more again_at (k + d) ∙ ap (λ t. any again_at (k + d) || (t && is_some (lowest holds_at (k + d)))) here ∙ or_none (any again_at (k + d)) ∙ before.1,
      )
    where
      no_other : (o : Option ℕ) → or_else o None ≡ o
      no_other None = refl
      no_other (Some b) = refl

  quiet_root : (m : ℕ) → Quiet m (R m) → (es : List Entry) (ts : List Bool) → Good (64 * m) es ts → Good (64 * suc m) es ts
  quiet_root m quiet es ts good =
      let next : 64 * suc m ≡ 64 * m + 64 = omega arith in
      let same =
      nothing_new (64 * m) 64
      (λ p h.
      let at : (64 * m + p) / 64 ≡ m = omega arith in
      let position : (64 * m + p) % 64 ≡ p = omega arith in
      ap₂ (λ a b. holds R a b (32 * c + s)) at position ∙ quiet.holds_none p (32 * c + s)) in (
        good.0 ∙ sym (ap (data_entry R) (ap (lowest holds_at) next ∙ same.0)),
        good.1 ∙ sym (ap (any again_at) next ∙ same.1),
      )

  live_root : (m : ℕ) (root : ObjectRoot) → root_place m ≡ true → R m ≡ Some (Live root) → Long (R m) → (es : List Entry) (ts : List Bool) →
      length es ≡ 32 → length ts ≡ 32 → Good (64 * m) es ts →
      Good (64 * suc m) (held_from c root.id 0 root.blocks (root_in_map c m root.kind root.id.tag es))
      (twice_from c root.id 0 root.blocks (root_in_map c m root.kind root.id.tag es) ts)
  live_root m root place live full es ts long many good =
      let first : 64 * m + 0 ≡ 64 * m = omega arith in
      let next : 64 * suc m ≡ 64 * m + 64 = omega arith in
      let low = leb-true (sector_of m) 4 (and_parts (leb 1 (sector_of m)) (leb (sector_of m) 4) place).1 in
      let away : eqb m (32 * c + s) ≡ false = ne_eqb m (32 * c + s) (λ e. omega arith) in
      let kept : get_or (root_in_map c m root.kind root.id.tag es) s Map ≡ get_or es s Map =
      root_at_sector c s sh es long m root.kind root.id.tag
      ∙ ap (λ t. cond t (Root root_state.Allocated root.kind false root.id.tag) (get_or es s Map)) away in
      let all =
      all_addresses m root place live (subst Long live full) 64 0 refl (root_in_map c m root.kind root.id.tag es) ts (root_long c m root es ∙ long) many
      (kept ∙ good.0 ∙ sym (ap (λ k. data_entry R (lowest holds_at k)) first), good.1 ∙ sym (ap (any again_at) first)) in
      (all.0 ∙ sym (ap (λ k. data_entry R (lowest holds_at k)) next), all.1 ∙ sym (ap (any again_at) next))

  -- after the root blocks below m
  pub data_taken : (n : ℕ) → AllLong R n → (m : ℕ) → m ≤ n → Good (64 * m) (taken_to c R m) (twice_to c R m)
  unfolding taken_to twice_to lowest any
  data_taken n full zero h = (empty_free s sh (omega arith), get_or-replicate 32 s false false sh)
  data_taken n full (suc m) h =
      let long = taken_long c R m in
      let good = data_taken n full m (omega arith) in
      each_root c m (R m) (taken_to c R m) (twice_to c R m) (Good (64 * suc m)) (λ quiet. quiet_root m quiet (taken_to c R m) (twice_to c R m) good)
      (λ root at is. live_root m root at is (full m (omega arith)) (taken_to c R m) (twice_to c R m) long.0 long.1 good)
