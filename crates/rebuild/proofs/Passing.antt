-- Why one pass over the root places takes every root block, and one pass over the maps notes every bit.
use Rattle.std.proofs.Common.{◌≡◌, ℕ, zero, suc, ◌+◌, ◌-◌, ◌*◌, ◌<◌, ◌≤◌, Bool, false, cond, not, ◌&&◌, eqb, leb, List, [], ◌∷◌, length, get_or, set, Some, None, Option, sym, refl, ap, ◌∙◌, subst, add-one, arith}
use Rattle.std.proofs.lemmas.Bool.{and_left, and_right, eq-eqb, lt-leb}
use Rattle.map.specs.Addresses.{cylinder_of, sector_of, root_place}
use Rattle.map.specs.declared.entry.Entry.{Entry}
use Rattle.map.specs.declared.entry.Entry.TheVariants.{Map}
use Rattle.object.specs.declared.root.RootBlock.{RootBlock}
use Rattle.object.specs.declared.root.RootBlock.TheVariants.{Dead, Live}
use Rattle.volume.specs.Committing.{marked}
use Rattle.volume.specs.Counting.{Entries}
use Rattle.volume.specs.Rebuilding.{RootBlocks}
use Rattle.rebuild.specs.Laws.{SameSoFar, Takes, PassLaw}
use Rattle.rebuild.specs.Noting.{place_kept, places_to, place_of, shown_by, owner_root, bit_noted, bits_noted, noted_to}
use Rattle.rebuild.specs.Taking.{held_from, twice_from, root_in_map, root_taken, root_twice, taken_to, twice_to}

takes : (c : ℕ) (R : RootBlocks) (r : ℕ) → Takes c R r
unfolding taken_to twice_to places_to
takes c R r = record { entries = ap (taken_to c R) (add-one r); twice = ap (twice_to c R) (add-one r); places = ap (places_to c R) (add-one r) }

-- what stands at no root place is not taken
module _ (c r : ℕ) (off : root_place r ≡ false) where
  not_taken : (o : Option RootBlock) (es : List Entry) → root_taken c r o es ≡ es
  not_taken None es = refl
  not_taken (Some Dead) es = refl
  not_taken (Some (Live root)) es =
      ap (λ t. cond t (held_from c root.id 0 root.blocks (root_in_map c r root.kind root.id.tag es)) es) off

  not_twice : (o : Option RootBlock) (es : List Entry) (ts : List Bool) → root_twice c r o es ts ≡ ts
  not_twice None es ts = refl
  not_twice (Some Dead) es ts = refl
  not_twice (Some (Live root)) es ts =
      ap (λ t. cond t (twice_from c root.id 0 root.blocks (root_in_map c r root.kind root.id.tag es) ts) ts) off

  not_kept : (o : Option RootBlock) (bs : List RootBlock) → place_kept c r o bs ≡ bs
  not_kept None bs = refl
  not_kept (Some root) bs = ap (λ t. cond t (set bs (sector_of r - 1) root) bs) (and_right (eqb (cylinder_of r) c) (root_place r) off)

-- over k addresses that are no root places
between : (c : ℕ) (R : RootBlocks) (m k : ℕ) → ((i : ℕ) → i < k → root_place (m + i) ≡ false) → SameSoFar c R (m + k) m
between c R m zero off =
    let none : m + 0 ≡ m = omega arith in
    record { entries = ap (taken_to c R) none; twice = ap (twice_to c R) none; places = ap (places_to c R) none }
between c R m (suc k) off =
    let before = between c R m k (λ i h. off i (omega arith)) in
    let here = off k (omega arith) in
    let taken = takes c R (m + k) in
    let next : m + suc k ≡ m + k + 1 = omega arith in
    record {
      entries = ap (taken_to c R) next ∙ taken.entries ∙ not_taken c (m + k) here (R (m + k)) (taken_to c R (m + k)) ∙ before.entries;
      twice =
          ap (twice_to c R) next ∙ taken.twice
          ∙ not_twice c (m + k) here (R (m + k)) (taken_to c R (m + k)) (twice_to c R (m + k))
          ∙ before.twice;
      places = ap (places_to c R) next ∙ taken.places ∙ not_kept c (m + k) here (R (m + k)) (places_to c R (m + k)) ∙ before.places;
    }

map_sector : (a : ℕ) → sector_of a < 1 → root_place a ≡ false
map_sector a low = and_left (leb 1 (sector_of a)) (leb (sector_of a) 4) (lt-leb 1 (sector_of a) low)

data_sector : (a : ℕ) → 4 < sector_of a → root_place a ≡ false
data_sector a high = and_right (leb 1 (sector_of a)) (leb (sector_of a) 4) (lt-leb (sector_of a) 4 high)

-- the entries of one map, which are those of its addresses
one_map : (c : ℕ) (bs : List RootBlock) (E : Entries) (b : ℕ) (others es : List Entry) → ((s : ℕ) → s < length others → get_or others s Map ≡ E (b + s)) →
    noted_to c bs E (b + length others) es ≡ bits_noted c bs b others (noted_to c bs E b es)
unfolding bits_noted noted_to
one_map c bs E b [] es are = ap (λ m. noted_to c bs E m es) (omega arith)
one_map c bs E b (e ∷ others) es are =
    let next : b + suc (length others) ≡ b + 1 + length others = omega arith in
    let here : e ≡ E b = are 0 (omega arith) ∙ ap E (omega arith) in
    ap (λ m. noted_to c bs E m es) next
    ∙ one_map c bs E (b + 1) others es (λ s h. are (suc s) (omega arith) ∙ ap E (omega arith))
    ∙ ap (bits_noted c bs (b + 1) others) (ap (λ m. noted_to c bs E m es) (add-one b) ∙ ap (λ x. bit_noted c bs b x (noted_to c bs E b es)) (sym here))

-- the lost map's own entries show nothing
own_map : (c : ℕ) (bs : List RootBlock) (E : Entries) (es : List Entry) (k : ℕ) → k ≤ 32 → noted_to c bs E (32 * c + k) es ≡ noted_to c bs E (32 * c) es
unfolding noted_to
own_map c bs E es zero h = ap (λ m. noted_to c bs E m es) (omega arith)
own_map c bs E es (suc k) h =
    let b = 32 * c + k in
    let next : 32 * c + suc k ≡ suc (32 * c + k) = omega arith in
    let own : cylinder_of (32 * c + k) ≡ c = omega arith in
    let now = noted_to c bs E (32 * c + k) es in
    ap (λ m. noted_to c bs E m es) next
    ∙ ap
    (λ t. cond (not t && shown_by (place_of c bs (owner_root (E b))) (owner_root (E b)) b (E b)) (set now (sector_of (owner_root (E b))) (marked (get_or now (sector_of (owner_root (E b))) Map))) now)
    (eq-eqb (cylinder_of b) c own)
    ∙ own_map c bs E es k (omega arith)

pub pass_law : PassLaw
pass_law = record {
  root = takes;
  first = λ c R d. between c R (32 * d) 1 (λ i h. map_sector (32 * d + i) (omega arith));
  last = λ c R d.
      let next : 32 * d + 5 + 27 ≡ 32 * (d + 1) = omega arith in
      subst (λ m. SameSoFar c R m (32 * d + 5)) next (between c R (32 * d + 5) 27 (λ i h. data_sector (32 * d + 5 + i) (omega arith)));
  map = λ c bs E d others es long are.
      let next : 32 * (d + 1) ≡ 32 * d + length others = omega arith in
      ap (λ m. noted_to c bs E m es) next ∙ one_map c bs E (32 * d) others es (λ s h. are s (omega arith));
  lost = λ c bs E es. let next : 32 * (c + 1) ≡ 32 * c + 32 = omega arith in ap (λ m. noted_to c bs E m es) next ∙ own_map c bs E es 32 (omega arith);
}
