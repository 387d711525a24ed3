-- What the maps and root blocks of formatting say, read back.
use Rattle.std.proofs.Common.{◌≡◌, ℕ, zero, suc, ◌+◌, ◌*◌, ◌^◌, ◌<◌, ◌≤◌, Bool, true, false, cond, ◌&&◌, eqb, ltb, ◌≢◌, List, length, get_or, set, replicate, Some, sym, refl, ap, ◌∙◌, subst, ⊎_elim, arith, lit<}
use Rattle.std.proofs.lemmas.List.{get_or-replicate, get_or_past}
use Rattle.std.proofs.lemmas.Bool.{cond_both, eqb-true, eqb-false, eq-eqb, ne_eqb, lt-ltb, and_from, cases_lt}
use Rattle.formatting.specs.EmptyVolume.{empty_entry}
use Rattle.formatting.specs.Formatting.{index_of, empty_index, first_root, first_entry, empty_map, first_map}
use Rattle.map.specs.Addresses.{cylinder_of, sector_of, root_place}
use Rattle.map.specs.Entries.{fits_entry, Named}
use Rattle.map.specs.Identifiers.{is_tag}
use Rattle.map.specs.MapLaws.{map_entries_return}
use Rattle.map.specs.Maps.{encoded_map, decoded_map}
use Rattle.map.specs.declared.entry.Entry.{Entry}
use Rattle.map.specs.declared.entry.Entry.TheVariants.{Map, Free}
use Rattle.object.proofs.RootLaws.{roots_return}
use Rattle.object.specs.Roots.{encoded_root, decoded_root, all_fit, Formed}
use Rattle.object.specs.declared.root.RootBlock.TheVariants.{Dead}

-- what holds of a map, of the index and of a free entry holds at every address
pub each_entry : (tag a : ℕ) (P : Entry → Type 0) → (sector_of a ≡ 0 → P Map) → (a ≡ 1 → P (first_entry tag)) → (sector_of a ≢ 0 → a ≢ 1 → P Free) → P (empty_entry tag a)
each_entry tag a P map index free =
    cond_both (eqb (sector_of a) 0) Map (cond (eqb a 1) (first_entry tag) Free) P (λ zero. map (eqb-true (sector_of a) 0 zero))
    (λ past. cond_both (eqb a 1) (first_entry tag) Free P (λ one. index (eqb-true a 1 one)) (λ other. free (eqb-false (sector_of a) 0 past) (eqb-false a 1 other)))

module _ (tag : ℕ) where
  -- with and without the entry of the index
  map_by : Bool → List Entry
  map_by t = cond t (set empty_map 1 (first_entry tag)) empty_map

  long : (t : Bool) → length (map_by t) ≡ 32
  unfolding map_by
  long true = refl
  long false = refl

  own : (t : Bool) → get_or (map_by t) 0 Map ≡ Map
  unfolding map_by
  own true = refl
  own false = refl

  first : (t : Bool) → get_or (map_by t) 1 Map ≡ cond t (first_entry tag) Free
  unfolding map_by
  first true = refl
  first false = refl

  others : (t : Bool) (k : ℕ) → k < 30 → get_or (map_by t) (suc (suc k)) Map ≡ Free
  unfolding map_by
  others true k h = get_or-replicate 30 k Free Map h
  others false k h = get_or-replicate 30 k Free Map h

  pub entry_is : (c s : ℕ) → s < 32 → get_or (first_map (index_of tag) c) s Map ≡ empty_entry tag (32 * c + s)
  unfolding map_by
  entry_is c zero h =
      each_entry tag (32 * c + 0) (λ e. get_or (first_map (index_of tag) c) 0 Map ≡ e) (λ zero. own (eqb c 0)) (λ one. absurd (omega arith)) (λ past ne. absurd (past (omega arith)))
  entry_is c (suc zero) h =
      each_entry tag (32 * c + 1) (λ e. get_or (first_map (index_of tag) c) 1 Map ≡ e) (λ zero. absurd (omega arith))
      (λ one. first (eqb c 0) ∙ ap (λ t. cond t (first_entry tag) Free) (eq-eqb c 0 (omega arith)))
      (λ past ne. first (eqb c 0) ∙ ap (λ t. cond t (first_entry tag) Free) (ne_eqb c 0 (λ e. ne (omega arith))))
  entry_is c (suc (suc k)) h =
      each_entry tag (32 * c + suc (suc k)) (λ e. get_or (first_map (index_of tag) c) (suc (suc k)) Map ≡ e) (λ zero. absurd (omega arith)) (λ one. absurd (omega arith))
      (λ past ne. others (eqb c 0) k (omega arith))

module _ (tag : ℕ) (proper : is_tag tag ≡ true) where
  fits : (cylinders a : ℕ) → (fits_entry cylinders a (empty_entry tag a) ≡ true) × Named (empty_entry tag a)
  fits cylinders a =
      each_entry tag a (λ e. (fits_entry cylinders a e ≡ true) × Named e) (λ zero. (eq-eqb (sector_of a) 0 zero, tt))
      (λ one. (and_from (root_place a) (is_tag tag) (ap root_place one) proper, tt))
      (λ past ne. (lt-ltb 0 (sector_of a) (omega arith), tt))

  pub map_back : (cylinders c : ℕ) → decoded_map cylinders c (encoded_map c (first_map (index_of tag) c)) ≡ Some (first_map (index_of tag) c)
  unfolding map_by
  map_back cylinders c =
      let many : length (first_map (index_of tag) c) ≡ 32 = long tag (eqb c 0) in
      map_entries_return cylinders c (first_map (index_of tag) c) many
      (λ s h. subst (λ e. (fits_entry cylinders (32 * c + s) e ≡ true) × Named e) (sym (entry_is tag c s (omega arith))) (fits cylinders (32 * c + s)))

  formed : Formed (empty_index (index_of tag))
  formed = (and_from (is_tag tag && root_place 1) (ltb (cylinder_of 1) 64) (and_from (is_tag tag) (root_place 1) proper refl) refl, refl, small)
    where
      small : (i : ℕ) → get_or (replicate 64 0) i 0 < 2 ^ 16
      small i = ⊎_elim (λ (h : i < 64). rw (get_or-replicate {A = ℕ} 64 i 0 0 h) (lit< tt)) (λ (h : 64 ≤ i). rw (get_or_past {X = ℕ} (replicate 64 0) i 0 h) (lit< tt)) (cases_lt i 64)

  pub root_back : (cylinders a : ℕ) → decoded_root cylinders a (encoded_root (first_root (index_of tag) a)) ≡ Some (first_root (index_of tag) a)
  root_back cylinders a =
      cond_both (eqb a 1) (empty_index (index_of tag)) Dead (λ root. decoded_root cylinders a (encoded_root root) ≡ Some root)
      (λ one. roots_return.roots cylinders a (empty_index (index_of tag)) formed (ap (λ b. eqb 1 b && all_fit cylinders (replicate 64 0)) (eqb-true a 1 one)))
      (λ other. roots_return.roots cylinders a Dead tt refl)
