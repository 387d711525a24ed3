-- Why what is chosen will do, and why every cylinder is tried.
use Rattle.std.proofs.Common.{◌≡◌, ℕ, zero, suc, ◌+◌, ◌-◌, ◌*◌, ◌%◌, ◌<◌, Bool, true, false, List, length, get_or, Some, None, Option, sym, refl, ap, ◌∙◌, ap₂, ⊎_elim, mod-eq_of_lt, arith}
use native.Mathlib.Nat.{mod-add-mod, add-mod-mod, add-mod_right}
use Rattle.std.proofs.lemmas.Nat.{mod_below}
use Rattle.std.proofs.lemmas.Bool.{cases_eq, cases_Bool, true≢false}
use Rattle.std.specs.Option.{option_map}
use Rattle.allocation.specs.Choosing.{tried, first_in, first_of, found_at, chosen}
use Rattle.allocation.specs.ChoosingLaws.{ChosenLaw}
use Rattle.device.specs.Blocks.{Block}
use Rattle.map.specs.Addresses.{cylinder_of, sector_of}
use Rattle.map.specs.declared.entry.Entry.{Entry}
use Rattle.map.specs.declared.entry.Entry.TheVariants.{Map}
use Rattle.volume.proofs.Searching.{lowest_finds, lowest_misses}
use Rattle.volume.specs.Meeting.{Usable}
use Rattle.volume.specs.Search.{lowest, or_else}
use Rattle.volume.specs.Volume.{cylinders_of, map_at, entry_in, entry_at}

-- what is found comes from one of the answers
first_from : (f : ℕ → Option ℕ) (n a : ℕ) → first_of f n ≡ Some a → (k : ℕ) × (k < n) × (f k ≡ Some a)
unfolding first_of
first_from f zero a is = absurd (true≢false cc)
first_from f (suc n) a is = by (first_of f n) refl is (first_from f n a)
  where
    by : (o : Option ℕ) → first_of f n ≡ o → or_else o (f n) ≡ Some a → (first_of f n ≡ Some a → (k : ℕ) × (k < n) × (f k ≡ Some a)) → (k : ℕ) × (k < suc n) × (f k ≡ Some a)
    by None found e below = (n, omega arith, e)
    by (Some d) found e below = let before = below (found ∙ e) in (before.0, omega (arith, before.1), before.2)

-- where none is found, no answer is one
first_misses : (f : ℕ → Option ℕ) (n : ℕ) → first_of f n ≡ None → (k : ℕ) → k < n → f k ≡ None
unfolding first_of
first_misses f zero is k h = absurd (omega arith)
first_misses f (suc n) is k h = by (first_of f n) refl is (first_misses f n)
  where
    by : (o : Option ℕ) → first_of f n ≡ o → or_else o (f n) ≡ None → (first_of f n ≡ None → (j : ℕ) → j < n → f j ≡ None) → f k ≡ None
    by (Some d) found e below = absurd (true≢false cc)
    by None found e below = ⊎_elim (λ (same : k ≡ n). ap f same ∙ e) (λ ne. below found k (omega arith)) (cases_eq k n)

-- every cylinder is tried
tries_all : (n start c : ℕ) → c < n → (k : ℕ) × (k < n) × (tried n start k ≡ c)
tries_all n start c h =
    let s : ℕ = start % n in
    let low : s < n = mod_below start n (omega arith) in
    let total : s + (c + (n - s)) ≡ c + n = omega arith in (
      (c + (n - s)) % n,
      mod_below (c + (n - s)) n (omega arith),
      add-mod-mod start (c + (n - s)) n ∙ sym (mod-add-mod start n (c + (n - s))) ∙ ap (λ x. x % n) total ∙ add-mod_right c n ∙ mod-eq_of_lt h,
    )

module _ (fits : ℕ → Entry → Bool) (c : ℕ) where
  -- the test of a cylinder's sectors
  abbrev test : List Entry → ℕ → Bool
  test entries s = fits (32 * c + s) (get_or entries s Map)

  in_finds : (o : Option (List Entry)) (a : ℕ) → first_in fits c o ≡ Some a → (s : ℕ) × (s < 32) × (a ≡ 32 * c + s) × (fits (32 * c + s) (entry_in o s) ≡ true)
  in_finds None a is = absurd (true≢false cc)
  in_finds (Some entries) a is = by (lowest (test entries) 32) refl is
    where
      by : (o : Option ℕ) → lowest (test entries) 32 ≡ o → option_map (λ s. 32 * c + s) o ≡ Some a → (s : ℕ) × (s < 32) × (a ≡ 32 * c + s) × (fits (32 * c + s) (get_or entries s Map) ≡ true)
      by None found e = absurd (true≢false cc)
      by (Some s) found e =
          let finds = lowest_finds (test entries) 32 s found in
          let same : a ≡ 32 * c + s = cc in
          (s, finds.1, same, finds.0)

  in_misses : (entries : List Entry) → first_in fits c (Some entries) ≡ None → (s : ℕ) → s < 32 → test entries s ≡ false
  in_misses entries is s h = by (lowest (test entries) 32) refl is
    where
      by : (o : Option ℕ) → lowest (test entries) 32 ≡ o → option_map (λ s. 32 * c + s) o ≡ None → test entries s ≡ false
      by (Some d) found e = absurd (true≢false cc)
      by None found e = ⊎_elim (λ (on : test entries s ≡ true). absurd (lowest_misses (test entries) 32 s found h on)) (λ off. off) (cases_Bool (test entries s))

module _ (fits : ℕ → Entry → Bool) (start : ℕ) (blocks : List Block) where
  fit : (a : ℕ) → chosen fits start blocks ≡ Some a → (a < length blocks) × (fits a (entry_at blocks a) ≡ true)
  fit a is =
      let from = first_from (found_at fits start blocks) (cylinders_of blocks) a is in
      let c : ℕ = tried (cylinders_of blocks) start from.0 in
      let inside : c < cylinders_of blocks = mod_below (start + from.0) (cylinders_of blocks) (omega (arith, from.1)) in
      let finds = in_finds fits c (map_at blocks c) a from.2 in
      at a c finds.0 inside finds.1 finds.2 finds.3
    where
      at : (a c s : ℕ) → c < cylinders_of blocks → s < 32 → a ≡ 32 * c + s → fits (32 * c + s) (entry_in (map_at blocks c) s) ≡ true → (a < length blocks) × (fits a (entry_at blocks a) ≡ true)
      at a c s inside low is will =
          let cylinder : cylinder_of a ≡ c = omega arith in
          let sector : sector_of a ≡ s = omega arith in
          (omega arith, ap₂ fits is (ap₂ (λ d t. entry_in (map_at blocks d) t) cylinder sector) ∙ will)

  full : length blocks ≡ 32 * cylinders_of blocks → Usable blocks → chosen fits start blocks ≡ None → (a : ℕ) → a < length blocks → fits a (entry_at blocks a) ≡ false
  full whole usable is a h =
      let inside : cylinder_of a < cylinders_of blocks = omega arith in
      let turn = tries_all (cylinders_of blocks) start (cylinder_of a) inside in
      let none : first_in fits (cylinder_of a) (map_at blocks (cylinder_of a)) ≡ None =
      ap (λ c. first_in fits c (map_at blocks c)) (sym turn.2) ∙ first_misses (found_at fits start blocks) (cylinders_of blocks) is turn.0 turn.1 in
      let map = usable (cylinder_of a) inside in
      let joined : a ≡ 32 * cylinder_of a + sector_of a = omega arith in
      ap₂ fits joined (ap (λ o. entry_in o (sector_of a)) map.1)
      ∙ in_misses fits (cylinder_of a) map.0 (ap (first_in fits (cylinder_of a)) (sym map.1) ∙ none) (sector_of a) (mod_below a 32 (omega arith))

pub chosen_law : ChosenLaw
chosen_law = record { fit = fit; full = full }
