-- The volume at rest: what its blocks decode to, and the premises of the laws about blocks.
use Rattle.std.proofs.Common.{◌≡◌, ℕ, ◌*◌, ◌/◌, ◌<◌, Bool, true, false, cond, not, ◌&&◌, eqb, ◌≢◌, List, length, get_or, Some, None, Option, sym, refl, ap, ◌∙◌, subst, ⊎_elim, arith, lit≤}
use mathlib.Core.Path.{fun_ext}
use Rattle.std.proofs.lemmas.List.{get_or_past, get_or-set_other}
use Rattle.std.proofs.lemmas.Bool.{and_parts, eqb-true, eqb-false, cases_eq, cond_both, not-true, true≢false}
use Rattle.device.specs.Blocks.{Block, block_at}
use Rattle.device.specs.Gathers.{gathered}
use Rattle.map.specs.Addresses.{cylinder_of, sector_of}
use Rattle.map.specs.Bytes.{placed}
use Rattle.map.specs.Maps.{encoded_from, encoded_map, decoded_map}
use Rattle.map.specs.declared.entry.DataState.TheVariants as data_state
use Rattle.map.specs.declared.entry.Entry.{Entry}
use Rattle.map.specs.declared.entry.Entry.TheVariants.{Map, Free, Data}
use Rattle.map.specs.declared.kind.Kind.TheVariants as kind
use Rattle.object.specs.Roots.{zeros, encoded_root, addresses_in, decoded_root}
use Rattle.object.specs.declared.root.RootBlock.TheVariants.{Dead}
use Rattle.volume.specs.Choosing.{unsettled}
use Rattle.volume.specs.Counting.{Entries, Held, held, remains_as, bit, claims, counted_at, counted_addresses}
use Rattle.volume.specs.Laws.{Intends, Same}
use Rattle.volume.specs.MapStores.{map_changed}
use Rattle.volume.specs.Meeting.{Usable, Quiet}
use Rattle.volume.specs.Rebuilding.{Agree, SingleClaims}
use Rattle.volume.specs.Recoverable.{Complete, Recoverable}
use Rattle.volume.specs.Search.{lowest, all}
use Rattle.volume.specs.Volume.{cylinders_of, map_in, map_at, entry_in, entry_at, root_at, is_unreadable, entries_with, restart_entries}
use Rattle.volume.specs.Worked.{file}
use Rattle.volume.specs.WorkedVolume.{first_map, second_map, second_marked, index_root, file_root, resting, BlockPremises}
use Rattle.volume.proofs.Choosing.{quiet_already}
use Rattle.volume.proofs.Reading.{usable_none_lost}
use Rattle.volume.proofs.Sameness.{intention_law}
use Rattle.volume.proofs.Searching.{lowest_finds}
use Rattle.volume.proofs.Tested.{from_all, alike, single_test, single_from, is_place, places_test, agree_from}

-- what was encoded decodes, by computing
first_back : decoded_map 2 0 (encoded_map 0 first_map) ≡ Some first_map
unfolding gathered encoded_from
first_back = refl

second_back : decoded_map 2 1 (encoded_map 1 second_map) ≡ Some second_map
unfolding gathered encoded_from
second_back = refl

marked_back : decoded_map 2 1 (encoded_map 1 second_marked) ≡ Some second_marked
unfolding gathered encoded_from
marked_back = refl

index_back : decoded_root 2 1 (encoded_root index_root) ≡ Some index_root
unfolding zeros placed addresses_in
index_back = refl

file_back : decoded_root 2 2 (encoded_root file_root) ≡ Some file_root
unfolding zeros placed addresses_in
file_back = refl

dead_back : (a : ℕ) → decoded_root 2 a zeros ≡ Some Dead
unfolding zeros
dead_back a = refl

long : length resting ≡ 64
unfolding resting
long = refl

few : cylinders_of resting ≡ 2
few = ap (λ n. n / 32) long

size : 32 * cylinders_of resting ≡ 64
size = ap (λ n. 32 * n) few

-- the entries of the volume
maps : ℕ → Option (List Entry)
maps c = cond (eqb c 0) (Some first_map) (cond (eqb c 1) (Some second_map) None)

entries : Entries
entries a = entry_in (maps (cylinder_of a)) (sector_of a)

map_0 : map_at resting 0 ≡ Some first_map
unfolding resting
map_0 = first_back

map_1 : map_at resting 1 ≡ Some second_map
unfolding resting
map_1 = second_back

map_is : (c : ℕ) → map_at resting c ≡ maps c
unfolding maps
map_is c =
    cond_both (eqb c 0) (Some first_map) (cond (eqb c 1) (Some second_map) None) (λ o. map_at resting c ≡ o)
    (λ zero. ap (map_at resting) (eqb-true c 0 zero) ∙ map_0)
    (λ not_zero.
    cond_both (eqb c 1) (Some second_map) None (λ o. map_at resting c ≡ o)
    (λ one. ap (map_at resting) (eqb-true c 1 one) ∙ map_1)
    (λ not_one.
    let low : c ≢ 0 = eqb-false c 0 not_zero in
    let next : c ≢ 1 = eqb-false c 1 not_one in
    ap (map_in (cylinders_of resting) c) (get_or_past resting (32 * c) Block.unreadable (omega (arith, long)))))

entries_are : entry_at resting ≡ entries
unfolding entries
entries_are = fun_ext (λ a. ap (λ o. entry_in o (sector_of a)) (map_is (cylinder_of a)))

-- what holds of those entries holds of the volume
moved : (P : Entries → ℕ → Type 0) → P entries 64 → P (entry_at resting) (32 * cylinders_of resting)
moved P holds = subst (λ E. P E (32 * cylinders_of resting)) (sym entries_are) (subst (P entries) (sym size) holds)

usable : Usable resting
usable c h =
    ⊎_elim (λ (zero : c ≡ 0). (first_map, ap (map_at resting) zero ∙ map_0))
    (λ (low : c ≢ 0). let one : c ≡ 1 = omega (arith, few) in (second_map, ap (map_at resting) one ∙ map_1))
    (cases_eq c 0)

-- no entry is under an intention, stray or committed
quiet_test : ℕ → Bool
quiet_test a = not (unsettled entries (entries a)) && not (bit (entries a))

quiet_from : all quiet_test 64 ≡ true → (a : ℕ) → a < 64 → Quiet entries (entries a)
unfolding quiet_test
quiet_from tested a h =
    let parts = and_parts (not (unsettled entries (entries a))) (not (bit (entries a))) (from_all quiet_test 64 tested a h) in
    quiet_already entries (entries a) (not-true (unsettled entries (entries a)) parts.0) (not-true (bit (entries a)) parts.1)

quiet : (a : ℕ) → a < 32 * cylinders_of resting → Quiet (entry_at resting) (entry_at resting a)
unfolding all quiet_test entries maps
quiet = moved (λ E n. (a : ℕ) → a < n → Quiet E (E a)) (quiet_from refl)

single : SingleClaims (entry_at resting) (32 * cylinders_of resting)
unfolding all alike single_test entries maps
single = moved SingleClaims (single_from entries refl)

agree : Agree (entry_at resting) (root_at resting) (32 * cylinders_of resting)
unfolding all lowest places_test is_place counted_addresses entries maps resting
agree =
    moved (λ E n. Agree E (root_at resting) n)
    (agree_from entries (root_at resting) index_back file_back (dead_back 3) (dead_back 4) (dead_back 33) (dead_back 34) (dead_back 35) (dead_back 36) refl)

readable_test : ℕ → Bool
readable_test a = not (is_unreadable (block_at resting a))

readable : (a : ℕ) → a < 64 → is_unreadable (block_at resting a) ≡ false
unfolding all readable_test resting
readable a h = not-true (is_unreadable (block_at resting a)) (from_all readable_test 64 refl a h)

complete : Complete resting
unfolding entries maps
complete = record {
  usable = usable;
  single = single;
  indexes =
      moved
      (λ E n. (r p a : ℕ) (object : Held) → r < n → remains_as (E r) ≡ Some object → object.kind ≡ kind.Index → counted_at E n r p ≡ Some a → is_unreadable (block_at resting a) ≡ false)
      (λ r p a object h remains index found. readable a (lowest_finds (claims entries r p) 64 a found).1);
  root_index = moved (λ E n. (object : Held) × (remains_as (E 1) ≡ Some object) × (object.kind ≡ kind.Index)) (held kind.Index 9, refl, refl);
}

by_maps : restart_entries resting ≡ entry_at resting
by_maps = ap (entries_with resting) (usable_none_lost resting usable)

-- block 38 is marked, and every other entry stays
marks : (s : ℕ) → Intends entries (get_or second_map s Map) (get_or second_marked s Map)
unfolding entries maps
marks s =
    ⊎_elim
    (λ (six : s ≡ 6). subst (λ k. Intends entries (get_or second_map k Map) (get_or second_marked k Map)) (sym six) (Intends.allocates 2 file refl))
    (λ (ne : s ≢ 6).
    subst (Intends entries (get_or second_map s Map)) (sym (get_or-set_other second_map 6 s (Data data_state.IntendingToAllocate 2 file) Map ne)) Intends.stays)
    (cases_eq s 6)

intends : (a : ℕ) → Intends entries (entries a) (map_changed 1 second_marked entries a)
unfolding entries maps
intends a =
    cond_both (eqb (cylinder_of a) 1) (get_or second_marked (sector_of a) Map) (entries a) (Intends entries (entries a))
    (λ one. subst (λ c. Intends entries (entry_in (maps c) (sector_of a)) (get_or second_marked (sector_of a) Map)) (sym (eqb-true (cylinder_of a) 1 one)) (marks (sector_of a)))
    (λ other. Intends.stays)

pub block_premises : BlockPremises
unfolding lowest entries maps
block_premises = record {
  two_cylinders = long;
  rest = record { usable = usable; quiet = quiet; single = single; agree = agree };
  sound = record { usable = usable; single = single; agree = agree };
  complete = complete;
  meaning = record { recoverable = Recoverable.complete complete; shows = λ r h. refl };
  none_lost = usable_none_lost resting usable;
  place = refl;
  data_blocks = (lit≤ tt, lit≤ tt);
  counting_block = ap (λ E. counted_at E (32 * cylinders_of resting) 2 0) by_maps ∙ moved (λ E n. counted_at E n 2 0 ≡ Some 6) refl;
  free_block = λ r p found.
      moved (λ E n. counted_at E n r p ≡ Some 7 → ⊥) (λ is. true≢false (sym (lowest_finds (claims entries r p) 64 7 is).0))
      (ap (λ E. counted_at E (32 * cylinders_of resting) r p) (sym by_maps) ∙ found);
  written = ap (λ n. decoded_map n 1 (encoded_map 1 second_marked)) few ∙ marked_back;
  marked = moved (λ E n. E 38 ≡ Free) refl;
  same = moved (λ E n. Same n E (map_changed 1 second_marked E)) (intention_law 64 entries (map_changed 1 second_marked entries) intends);
}
