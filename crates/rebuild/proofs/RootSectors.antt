-- Why the first five sectors of the lost map are the map itself and the root entries, and are never held.
use Rattle.std.proofs.Common.{◌≡◌, ℕ, zero, suc, ◌+◌, ◌*◌, ◌<◌, Bool, true, false, cond, not, ◌&&◌, eqb, leb, List, [], ◌∷◌, length, get_or, Some, sym, refl, ap, ◌∙◌, ⊎_elim, arith}
use Rattle.std.proofs.lemmas.List.{get_or-replicate}
use Rattle.std.proofs.lemmas.Bool.{and_parts, leb-true, eq-eqb, ne_eqb, lt-leb, cases_eq}
use Rattle.map.specs.Addresses.{sector_of, root_place, data_block}
use Rattle.map.specs.declared.entry.DataState.TheVariants as data_state
use Rattle.map.specs.declared.entry.Entry.{Entry}
use Rattle.map.specs.declared.entry.Entry.TheVariants.{Map, Root, Data}
use Rattle.map.specs.declared.entry.RootState.TheVariants as root_state
use Rattle.map.specs.declared.identifier.Identifier.{Identifier}
use Rattle.object.specs.declared.root.Root.{Root as ObjectRoot}
use Rattle.object.specs.declared.root.RootBlock.TheVariants.{Live}
use Rattle.volume.specs.Rebuilding.{RootBlocks}
use Rattle.rebuild.specs.Taking.{empty_map, is_free, held_in, twice_in, held_from, twice_from, root_in_map, taken_to, twice_to}
use Rattle.rebuild.proofs.Sectors.{once_past, not_yet, by_now, passing_by, held_at, twice_at, root_at_sector}
use Rattle.rebuild.proofs.Taken.{Quiet, bare, each_root, held_long, twice_long, root_long, taken_long, empty_free, none}

module _ (c s : ℕ) (sh : s < 32) (low : s < 5) (R : RootBlocks) where
  no_data : data_block (32 * c + s) ≡ false
  no_data = lt-leb 5 (sector_of (32 * c + s)) (omega arith)

  never : (x u : Bool) → (x && (data_block (32 * c + s) && u)) ≡ false
  never x u = ap (λ t. x && (t && u)) no_data ∙ none x

  unheld : (id : Identifier) (p : ℕ) (xs : List ℕ) (es : List Entry) (ts : List Bool) → length es ≡ 32 → length ts ≡ 32 →
      (get_or (held_from c id p xs es) s Map ≡ get_or es s Map) × (get_or (twice_from c id p xs es ts) s false ≡ get_or ts s false)
  unfolding held_from twice_from
  unheld id p [] es ts long many = (refl, refl)
  unheld id p (x ∷ xs) es ts long many =
      let rest = unheld id (p + 1) xs (held_in c id p x es) (twice_in c x es ts) (held_long c id p x es ∙ long) (twice_long c x es ts ∙ many) in (
        rest.0 ∙ held_at c s sh es long id p x
            ∙ ap (λ t. cond t (Data data_state.Allocated p id) (get_or es s Map)) (never (eqb x (32 * c + s)) (is_free (get_or es s Map))),
        rest.1 ∙ twice_at c s sh es long ts many x ∙ ap (λ t. cond t true (get_or ts s false)) (never (eqb x (32 * c + s)) (not (is_free (get_or es s Map)))),
      )

  -- the entry of this sector once all root blocks are seen
  abbrev pub due : Entry
  due = cond (root_place (32 * c + s)) (bare (R (32 * c + s))) (get_or empty_map s Map)

  -- and after the root blocks below m
  abbrev pub after : ℕ → Entry
  after = once_past (32 * c + s) due (get_or empty_map s Map)

  abbrev Good : ℕ → List Entry → List Bool → Type 0
  Good m es ts = (get_or es s Map ≡ after m) × (get_or ts s false ≡ false)

  quiet_root : (m : ℕ) → Quiet m (R m) → (es : List Entry) (ts : List Bool) → Good m es ts → Good (suc m) es ts
  quiet_root m quiet es ts good = (⊎_elim same (λ ne. good.0 ∙ sym (passing_by (32 * c + s) due (get_or empty_map s Map) m ne)) (cases_eq m (32 * c + s)), good.1)
    where
      same : m ≡ 32 * c + s → get_or es s Map ≡ after (suc m)
      same e = good.0 ∙ not_yet (32 * c + s) due (get_or empty_map s Map) m (omega arith) ∙ by (root_place (32 * c + s)) refl ∙ sym (by_now (32 * c + s) due (get_or empty_map s Map) (suc m) (omega arith))
        where
          by : (t : Bool) → root_place (32 * c + s) ≡ t → get_or empty_map s Map ≡ cond t (bare (R (32 * c + s))) (get_or empty_map s Map)
          by true place =
              let at : root_place m ≡ true = ap root_place e ∙ place in
              let first = leb-true 1 (sector_of (32 * c + s)) (and_parts (leb 1 (sector_of (32 * c + s))) (leb (sector_of (32 * c + s)) 4) place).0 in
              empty_free s sh (omega arith) ∙ sym (quiet.no_root at) ∙ ap (λ a. bare (R a)) e
          by false off = refl

  live_root : (m : ℕ) (root : ObjectRoot) → root_place m ≡ true → R m ≡ Some (Live root) → (es : List Entry) (ts : List Bool) →
      length es ≡ 32 → length ts ≡ 32 → Good m es ts →
      Good (suc m) (held_from c root.id 0 root.blocks (root_in_map c m root.kind root.id.tag es))
      (twice_from c root.id 0 root.blocks (root_in_map c m root.kind root.id.tag es) ts)
  live_root m root place live es ts long many good =
      let left = unheld root.id 0 root.blocks (root_in_map c m root.kind root.id.tag es) ts (root_long c m root es ∙ long) many in (
        left.0 ∙ root_at_sector c s sh es long m root.kind root.id.tag ∙ ⊎_elim same other (cases_eq m (32 * c + s)),
        left.1 ∙ good.1,
      )
    where
      same : m ≡ 32 * c + s → cond (eqb m (32 * c + s)) (Root root_state.Allocated root.kind false root.id.tag) (get_or es s Map) ≡ after (suc m)
      same e =
          ap (λ t. cond t (bare (Some (Live root))) (get_or es s Map)) (eq-eqb m (32 * c + s) e)
          ∙ ap bare (sym live ∙ ap R e)
          ∙ sym (ap (λ t. cond t (bare (R (32 * c + s))) (get_or empty_map s Map)) (ap root_place (sym e) ∙ place))
          ∙ sym (by_now (32 * c + s) due (get_or empty_map s Map) (suc m) (omega arith))

      other : (m ≡ 32 * c + s → ⊥) → cond (eqb m (32 * c + s)) (Root root_state.Allocated root.kind false root.id.tag) (get_or es s Map) ≡ after (suc m)
      other ne =
          ap (λ t. cond t (bare (Some (Live root))) (get_or es s Map)) (ne_eqb m (32 * c + s) ne) ∙ good.0 ∙ sym (passing_by (32 * c + s) due (get_or empty_map s Map) m ne)

  pub low_taken : (m : ℕ) → Good m (taken_to c R m) (twice_to c R m)
  unfolding taken_to twice_to
  low_taken zero = (sym (not_yet (32 * c + s) due (get_or empty_map s Map) 0 (omega arith)), get_or-replicate 32 s false false sh)
  low_taken (suc m) =
      let long = taken_long c R m in
      let good = low_taken m in
      each_root c m (R m) (taken_to c R m) (twice_to c R m) (Good (suc m)) (λ quiet. quiet_root m quiet (taken_to c R m) (twice_to c R m) good)
      (λ root at is. live_root m root at is (taken_to c R m) (twice_to c R m) long.0 long.1 good)
