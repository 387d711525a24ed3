-- The volume that formatting leaves, address by address.
use Rattle.std.proofs.Common.{◌≡◌, ℕ, zero, suc, ◌+◌, ◌*◌, ◌/◌, ◌<◌, ◌≤◌, true, false, cond, ◌&&◌, eqb, leb, ◌≢◌, List, map, length, replicate, Some, None, Option, sym, refl, ap, ◌∙◌, subst, ap₂, inl, inr, arith}
use mathlib.Core.Path.{fun_ext}
use Rattle.std.proofs.lemmas.Nat.{mod_below}
use Rattle.std.proofs.lemmas.Bool.{cond_both, eqb-true, eqb-false, eq-eqb, ne_eqb, and_parts, leb-true, true≢false}
use Rattle.std.specs.List.{range_with_len}
use Rattle.device.specs.Blocks.{Block, block_at}
use Rattle.device.specs.PlanLaws.{wrote_length}
use Rattle.device.specs.Plans.{wrote}
use Rattle.formatting.proofs.FirstMaps.{each_entry, entry_is, map_back, root_back}
use Rattle.formatting.proofs.StoredOnce.{Reaches, ByAddress, planned_stored}
use Rattle.formatting.specs.EmptyVolume.{empty_entry, only_index, FormatLaw}
use Rattle.formatting.specs.Formatting.{index_of, first_root, first_map, format_writes, format_plan}
use Rattle.map.specs.Addresses.{cylinder_of, sector_of, root_place}
use Rattle.map.specs.Identifiers.{is_tag}
use Rattle.map.specs.Maps.{encoded_map}
use Rattle.map.specs.declared.kind.Kind.TheVariants as kind
use Rattle.object.specs.Roots.{encoded_root}
use Rattle.volume.proofs.Completing.{shows_own}
use Rattle.volume.proofs.Searching.{lowest_none}
use Rattle.volume.specs.Counting.{Held, held, remains_as, counts, for_position, claims, counted_at, address_or_0, counted_addresses, due_for}
use Rattle.volume.specs.Meeting.{Usable, Quiet}
use Rattle.volume.specs.Rebuilding.{Agree, SingleClaims}
use Rattle.volume.specs.Recoverable.{Complete}
use Rattle.volume.specs.Volume.{cylinders_of, map_in, map_at, entry_in, entry_at, root_in, root_at, content, object_of, counted}

-- the bytes that are due at an address that formatting stores
module _ (tag : ℕ) where
  due_bytes : ℕ → List ℕ
  due_bytes a = cond (eqb (sector_of a) 0) (encoded_map (cylinder_of a) (first_map (index_of tag) (cylinder_of a))) (encoded_root (first_root (index_of tag) a))

  map_due : (c : ℕ) → encoded_map c (first_map (index_of tag) c) ≡ due_bytes (32 * c)
  unfolding due_bytes
  map_due c =
      let at : c ≡ cylinder_of (32 * c) = omega arith in
      ap (λ d. encoded_map d (first_map (index_of tag) d)) at
      ∙ sym (ap (λ t. cond t (encoded_map (cylinder_of (32 * c)) (first_map (index_of tag) (cylinder_of (32 * c)))) (encoded_root (first_root (index_of tag) (32 * c)))) (eq-eqb (sector_of (32 * c)) 0 (omega arith)))

  root_due : (a : ℕ) → sector_of a ≢ 0 → encoded_root (first_root (index_of tag) a) ≡ due_bytes a
  unfolding due_bytes
  root_due a past =
      sym (ap (λ t. cond t (encoded_map (cylinder_of a) (first_map (index_of tag) (cylinder_of a))) (encoded_root (first_root (index_of tag) a))) (ne_eqb (sector_of a) 0 past))

  by_address : (c : ℕ) → ByAddress due_bytes (format_writes (index_of tag) c)
  by_address c =
      (root_due (32 * c + 1) (λ e. omega arith), (root_due (32 * c + 2) (λ e. omega arith), (root_due (32 * c + 3) (λ e. omega arith), (root_due (32 * c + 4) (λ e. omega arith), (map_due c, tt)))))

  root_reached : (c s : ℕ) → 1 ≤ s → s ≤ 4 → Reaches (32 * c + s) (format_writes (index_of tag) c)
  root_reached c zero low high = absurd (omega arith)
  root_reached c (suc zero) low high = inl refl
  root_reached c (suc (suc zero)) low high = inr (inl refl)
  root_reached c (suc (suc (suc zero))) low high = inr (inr (inl refl))
  root_reached c (suc (suc (suc (suc zero)))) low high = inr (inr (inr (inl refl)))
  root_reached c (suc (suc (suc (suc (suc s))))) low high = absurd (omega arith)

module _ (tag cylinders : ℕ) (blocks : List Block) (proper : is_tag tag ≡ true) (long : length blocks ≡ 32 * cylinders) where
  abbrev after : List Block
  after = wrote blocks (format_plan (index_of tag) cylinders)

  map_stored : (c : ℕ) → c < cylinders → block_at after (32 * c) ≡ Block.readable (encoded_map c (first_map (index_of tag) c))
  map_stored c h =
      planned_stored (due_bytes tag) (format_writes (index_of tag)) blocks cylinders c (32 * c) (by_address tag) (omega arith) h (inr (inr (inr (inr (inl refl)))))
      ∙ ap Block.readable (sym (map_due tag c))

  root_stored : (a : ℕ) → a < 32 * cylinders → root_place a ≡ true → block_at after a ≡ Block.readable (encoded_root (first_root (index_of tag) a))
  root_stored a h place =
      let sides = and_parts (leb 1 (sector_of a)) (leb (sector_of a) 4) place in
      let low = leb-true 1 (sector_of a) sides.0 in
      let high = leb-true (sector_of a) 4 sides.1 in
      let joined : 32 * cylinder_of a + sector_of a ≡ a = omega arith in
      planned_stored (due_bytes tag) (format_writes (index_of tag)) blocks cylinders (cylinder_of a) a (by_address tag) (omega arith) (omega arith)
      (subst (λ b. Reaches b (format_writes (index_of tag) (cylinder_of a))) joined (root_reached tag (cylinder_of a) (sector_of a) low high))
      ∙ ap Block.readable (sym (root_due tag a (λ e. omega arith)))

  size : cylinders_of after ≡ cylinders
  size = ap (λ n. n / 32) (wrote_length blocks (format_plan (index_of tag) cylinders) ∙ long) ∙ omega arith

  map_is : (c : ℕ) → c < cylinders_of after → map_at after c ≡ Some (first_map (index_of tag) c)
  map_is c h = ap (map_in (cylinders_of after) c) (map_stored c (omega (arith, size))) ∙ map_back tag proper (cylinders_of after) c

  entries_are : (a : ℕ) → a < 32 * cylinders_of after → entry_at after a ≡ empty_entry tag a
  entries_are a h =
      let joined : 32 * cylinder_of a + sector_of a ≡ a = omega arith in
      ap (λ o. entry_in o (sector_of a)) (map_is (cylinder_of a) (omega arith)) ∙ entry_is tag (cylinder_of a) (sector_of a) (mod_below a 32 (omega arith))
      ∙ ap (empty_entry tag) joined

  root_is : (r : ℕ) → r < 32 * cylinders_of after → root_place r ≡ true → root_at after r ≡ Some (first_root (index_of tag) r)
  root_is r h place =
      ap (λ t. cond t (root_in (cylinders_of after) r (block_at after r)) None) place
      ∙ ap (root_in (cylinders_of after) r) (root_stored r (omega (arith, size)) place)
      ∙ root_back tag proper (cylinders_of after) r

  -- no entry counts for a position
  no_claim : (r p a : ℕ) → a < 32 * cylinders_of after → claims (entry_at after) r p a ≡ false
  no_claim r p a h =
      ap (λ e. for_position r p e && counts (entry_at after) e) (entries_are a h)
      ∙ each_entry tag a (λ e. (for_position r p e && counts (entry_at after) e) ≡ false) (λ zero. refl) (λ one. refl) (λ past ne. refl)

  none_counted : (r p : ℕ) → counted_at (entry_at after) (32 * cylinders_of after) r p ≡ None
  none_counted r p = lowest_none (claims (entry_at after) r p) (32 * cylinders_of after) (no_claim r p)

  no_addresses : (r : ℕ) → counted_addresses (entry_at after) (32 * cylinders_of after) r ≡ replicate 64 0
  unfolding counted_addresses
  no_addresses r = ap (λ f. map f (range_with_len 0 64)) (fun_ext (λ p. ap address_or_0 (none_counted r p)))

  usable : Usable after
  usable c h = (first_map (index_of tag) c, map_is c h)

  single : SingleClaims (entry_at after) (32 * cylinders_of after)
  single r p a b ah bh claim other = absurd (true≢false (sym claim ∙ no_claim r p a ah))

  quiet : (a : ℕ) → a < 32 * cylinders_of after → Quiet (entry_at after) (entry_at after a)
  quiet a h = subst (Quiet (entry_at after)) (sym (entries_are a h)) (each_entry tag a (Quiet (entry_at after)) (λ zero. tt) (λ one. refl) (λ past ne. tt))

  -- what the entries of an empty volume make of the index and of no object, by address
  remaining : {X : Type 0} (f : ℕ → Option Held → X) (r : ℕ) → f r (remains_as (empty_entry tag r)) ≡ cond (eqb r 1) (f 1 (Some (held kind.Index tag))) (f r None)
  remaining f r =
      cond_both (eqb r 1) (f 1 (Some (held kind.Index tag))) (f r None) (λ x. f r (remains_as (empty_entry tag r)) ≡ x)
      (λ one. ap (λ a. f a (remains_as (empty_entry tag a))) (eqb-true r 1 one))
      (λ other. each_entry tag r (λ e. f r (remains_as e) ≡ f r None) (λ zero. refl) (λ one. absurd (eqb-false r 1 other one)) (λ past ne. refl))

  agree : Agree (entry_at after) (root_at after) (32 * cylinders_of after)
  agree r h place =
      root_is r h place
      ∙ ap Some (sym (
      ap₂ (due_for r) (no_addresses r) (ap remains_as (entries_are r h)) ∙ remaining (λ a. due_for a (replicate 64 0)) r
      ))

  complete : 1 ≤ cylinders → Complete after
  complete some = record {
    usable = usable;
    single = single;
    indexes = λ r p a object h is kinds found. absurd (let no : None ≡ Some a = sym (none_counted r p) ∙ found in true≢false cc);
    root_index = (held kind.Index tag, ap remains_as (entries_are 1 (omega (arith, size))), refl);
  }

  shows : 1 ≤ cylinders → (r : ℕ) → r < 32 * cylinders_of after → counted after r ≡ only_index tag r
  shows some r h =
      shows_own after (complete some) r
      ∙ ap₂ object_of (fun_ext (λ p. ap (content after) (none_counted r p))) (ap remains_as (entries_are r h))
      ∙ remaining (λ a. object_of (λ p. Some (replicate 256 0))) r

pub format_law : FormatLaw
format_law tag cylinders blocks proper long some = record {
  rest = record { usable = usable tag cylinders blocks proper long; quiet = quiet tag cylinders blocks proper long; single = single tag cylinders blocks proper long; agree = agree tag cylinders blocks proper long };
  complete = complete tag cylinders blocks proper long some;
  entries = entries_are tag cylinders blocks proper long;
  shows = shows tag cylinders blocks proper long some;
}
