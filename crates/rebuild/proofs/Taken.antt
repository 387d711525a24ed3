-- Why the lost map, taken from all root blocks, has at each sector what the root blocks give back.
use Rattle.std.proofs.Common.{◌≡◌, ℕ, zero, suc, ◌+◌, ◌<◌, ◌≤◌, Bool, true, false, cond, not, ◌&&◌, ◌||◌, eqb, List, [], ◌∷◌, length, get_or, replicate, Some, None, Option, sym, refl, ap, ◌∙◌, add-one, arith}
use Rattle.std.proofs.lemmas.List.{get_or-set_other, get_or-replicate}
use Rattle.std.proofs.lemmas.Bool.{true≢false}
use Rattle.map.specs.Addresses.{cylinder_of, sector_of, root_place}
use Rattle.map.specs.declared.entry.DataState.TheVariants as data_state
use Rattle.map.specs.declared.entry.Entry.{Entry}
use Rattle.map.specs.declared.entry.Entry.TheVariants.{Map, Free, Root, Data}
use Rattle.map.specs.declared.entry.RootState.TheVariants as root_state
use Rattle.map.specs.declared.identifier.Identifier.{Identifier}
use Rattle.object.specs.declared.root.Root.{Root as ObjectRoot}
use Rattle.object.specs.declared.root.RootBlock.{RootBlock}
use Rattle.object.specs.declared.root.RootBlock.TheVariants.{Dead, Live}
use Rattle.volume.specs.Rebuilding.{RootBlocks, block_holds}
use Rattle.volume.specs.Search.{lowest, any, or_else}
use Rattle.rebuild.specs.Taking.{empty_map, is_free, of_lost, held_in, twice_in, held_from, twice_from, root_in_map, root_taken, root_twice, taken_to, twice_to}
use Rattle.rebuild.proofs.Sectors.{changed_long}

pub none : (x : Bool) → (x && false) ≡ false
none true = refl
none false = refl

-- every table keeps its length
pub held_long : (c : ℕ) (id : Identifier) (p x : ℕ) (es : List Entry) → length (held_in c id p x es) ≡ length es
held_long c id p x es = changed_long es (λ k. Data data_state.Allocated p id) Map (sector_of x) (of_lost c x && is_free (get_or es (sector_of x) Map))

pub twice_long : (c x : ℕ) (es : List Entry) (ts : List Bool) → length (twice_in c x es ts) ≡ length ts
twice_long c x es ts = changed_long ts (λ k. true) false (sector_of x) (of_lost c x && not (is_free (get_or es (sector_of x) Map)))

held_all_long : (c : ℕ) (id : Identifier) (p : ℕ) (xs : List ℕ) (es : List Entry) → length (held_from c id p xs es) ≡ length es
unfolding held_from
held_all_long c id p [] es = refl
held_all_long c id p (x ∷ xs) es = held_all_long c id (p + 1) xs (held_in c id p x es) ∙ held_long c id p x es

twice_all_long : (c : ℕ) (id : Identifier) (p : ℕ) (xs : List ℕ) (es : List Entry) (ts : List Bool) → length (twice_from c id p xs es ts) ≡ length ts
unfolding twice_from
twice_all_long c id p [] es ts = refl
twice_all_long c id p (x ∷ xs) es ts = twice_all_long c id (p + 1) xs (held_in c id p x es) (twice_in c x es ts) ∙ twice_long c x es ts

pub root_long : (c r : ℕ) (root : ObjectRoot) (es : List Entry) → length (root_in_map c r root.kind root.id.tag es) ≡ length es
root_long c r root es = changed_long es (λ k. Root root_state.Allocated root.kind false root.id.tag) Map (sector_of r) (eqb (cylinder_of r) c)

-- the entry of a root place, its commit bit not noted yet
abbrev pub bare : Option RootBlock → Entry
bare None = Free
bare (Some Dead) = Free
bare (Some (Live root)) = Root root_state.Allocated root.kind false root.id.tag

-- a root block that is not live, or stands at no root place, holds nothing
pub record Quiet (r : ℕ) (o : Option RootBlock) : Type 0 where
  pub holds_none : (p a : ℕ) → (root_place r && block_holds o p a) ≡ false
  pub no_root : root_place r ≡ true → bare o ≡ Free

-- either a root block changes nothing, or it is a live one at a root place
pub each_root : (c r : ℕ) (o : Option RootBlock) (es : List Entry) (ts : List Bool) (P : List Entry → List Bool → Type 0) →
    (Quiet r o → P es ts) →
    ((root : ObjectRoot) → root_place r ≡ true → o ≡ Some (Live root) →
    P (held_from c root.id 0 root.blocks (root_in_map c r root.kind root.id.tag es))
    (twice_from c root.id 0 root.blocks (root_in_map c r root.kind root.id.tag es) ts)) →
    P (root_taken c r o es) (root_twice c r o es ts)
each_root c r None es ts P quiet live = quiet (record { holds_none = λ p a. none (root_place r); no_root = λ at. refl })
each_root c r (Some Dead) es ts P quiet live = quiet (record { holds_none = λ p a. none (root_place r); no_root = λ at. refl })
each_root c r (Some (Live root)) es ts P quiet live = by (root_place r) refl
  where
    by : (t : Bool) → root_place r ≡ t →
        P (cond t (held_from c root.id 0 root.blocks (root_in_map c r root.kind root.id.tag es)) es)
        (cond t (twice_from c root.id 0 root.blocks (root_in_map c r root.kind root.id.tag es) ts) ts)
    by true at = live root at refl
    by false off =
        quiet
        (record {
          holds_none = λ p a. ap (λ t. t && block_holds (Some (Live root)) p a) off;
          no_root = λ at. absurd (true≢false (sym at ∙ off));
        })

pub taken_long : (c : ℕ) (R : RootBlocks) (m : ℕ) → (length (taken_to c R m) ≡ 32) × (length (twice_to c R m) ≡ 32)
unfolding taken_to twice_to
taken_long c R zero = (refl, refl)
taken_long c R (suc m) =
    let long = taken_long c R m in
    each_root c m (R m) (taken_to c R m) (twice_to c R m) (λ es ts. (length es ≡ 32) × (length ts ≡ 32)) (λ quiet. long)
    (λ root at is. (
      held_all_long c root.id 0 root.blocks (root_in_map c m root.kind root.id.tag (taken_to c R m)) ∙ root_long c m root (taken_to c R m) ∙ long.0,
      twice_all_long c root.id 0 root.blocks (root_in_map c m root.kind root.id.tag (taken_to c R m)) (twice_to c R m) ∙ long.1,
    ))

-- a map that holds nothing is free but for its first sector
pub empty_free : (s : ℕ) → s < 32 → 1 ≤ s → get_or empty_map s Map ≡ Free
empty_free s h low = get_or-set_other (replicate 32 Free) 0 s Map Map (λ e. omega arith) ∙ get_or-replicate 32 s Free Map h

pub lowest_more : (f : ℕ → Bool) (k : ℕ) → lowest f (k + 1) ≡ or_else (lowest f k) (cond (f k) (Some k) None)
unfolding lowest
lowest_more f k = ap (lowest f) (add-one k)

pub any_more : (f : ℕ → Bool) (k : ℕ) → any f (k + 1) ≡ (any f k || f k)
unfolding any
any_more f k = ap (any f) (add-one k)
