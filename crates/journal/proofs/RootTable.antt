-- The table of root entries, filled cylinder by cylinder.
--   Tabled   the table once the cylinders below c are noted
use Rattle.std.proofs.Common.{◌≡◌, ℕ, ◌+◌, ◌-◌, ◌*◌, ◌/◌, ◌%◌, ◌<◌, ◌≤◌, Bool, true, false, cond, eqb, ltb, leb, ◌≢◌, List, length, get_or, set, replicate, Some, None, Option, sym, refl, ap, ◌∙◌, ap₂, ⊎_elim, arith}
use mathlib.Core.Path.{fun_ext}
use Rattle.std.proofs.lemmas.List.{length-set, length-replicate, get_or-replicate, get_or-set_same, get_or-set_other, get_or_past}
use Rattle.std.proofs.lemmas.List.Edits.{paste_none, paste_more, length-between, get_or-between}
use Rattle.std.proofs.lemmas.Slice.{put_mid-paste}
use Rattle.std.specs.List.{between}
use borrow.Rule.Slice.PartMut.{put_mid}
use lib.Seq.{paste}
use Rattle.std.proofs.lemmas.Bool.{and_parts, leb-true, lt-ltb, le-ltb, eq-eqb, ne_eqb, cases_eq, cases_lt}
use Rattle.device.specs.Blocks.{Block}
use Rattle.map.specs.Addresses.{cylinder_of, sector_of, root_place}
use Rattle.map.specs.declared.entry.Entry.{Entry}
use Rattle.map.specs.declared.entry.Entry.TheVariants.{Map, Free}
use Rattle.journal.specs.Carried.{Ready}
use Rattle.journal.specs.Finishing.{roots_of, noted, settle_rule, settle_plan}
use Rattle.journal.specs.Passes.{pass_plan}
use Rattle.volume.specs.Counting.{Entries}
use Rattle.volume.specs.Tables.{root_slot, table_entries}
use Rattle.volume.specs.Volume.{cylinders_of, map_in, map_at, entry_in, entry_at}

-- the slot of a root entry, and the address that a slot is for
abbrev pub slot_address : ℕ → ℕ
slot_address k = 32 * (k / 4) + (k % 4 + 1)

abbrev pub Tabled : Entries → ℕ → List Entry → Type 0
Tabled E c table = (length table ≡ 256) × ((k : ℕ) → k < 256 → get_or table k Free ≡ cond (ltb (k / 4) c) (E (slot_address k)) Free)

pub tabled_start : (E : Entries) → Tabled E 0 (replicate 256 Free)
tabled_start E = (
  length-replicate 256 Free,
  λ k h. get_or-replicate 256 k Free Free h ∙ sym (ap (λ t. cond t (E (slot_address k)) Free) (le-ltb (k / 4) 0 (omega arith))),
)

-- a slot that is set, or another
set_slot : (table : List Entry) (i k : ℕ) (e : Entry) → i < length table → get_or (set table i e) k Free ≡ cond (eqb k i) e (get_or table k Free)
set_slot table i k e h =
    ⊎_elim
    (λ (is : k ≡ i). ap (λ n. get_or (set table i e) n Free) is ∙ get_or-set_same table i e Free h ∙ sym (ap (λ t. cond t e (get_or table k Free)) (eq-eqb k i is)))
    (λ ne. get_or-set_other table i k e Free ne ∙ sym (ap (λ t. cond t e (get_or table k Free)) (ne_eqb k i ne)))
    (cases_eq k i)

module _ (k c : ℕ) (f : ℕ → Entry) (old : Entry) where
  -- slot k, if it is one of cylinder c
  abbrev of_cylinder : Entry
  of_cylinder = cond (eqb (k / 4) c) (f (k % 4 + 1)) old

  slot : (i j : ℕ) (rest : Entry) → j < 4 → i ≡ 4 * c + j → (k ≢ i → rest ≡ of_cylinder) → cond (eqb k i) (f (j + 1)) rest ≡ of_cylinder
  slot i j rest h at other =
      ⊎_elim
      (λ (is : k ≡ i).
      let sector : j + 1 ≡ k % 4 + 1 = omega arith in
      ap (λ t. cond t (f (j + 1)) rest) (eq-eqb k i is) ∙ ap f sector ∙ sym (ap (λ t. cond t (f (k % 4 + 1)) old) (eq-eqb (k / 4) c (omega arith))))
      (λ ne. ap (λ t. cond t (f (j + 1)) rest) (ne_eqb k i ne) ∙ other ne)
      (cases_eq k i)

  slots : cond (eqb k (4 * c + 3)) (f 4) (cond (eqb k (4 * c + 2)) (f 3) (cond (eqb k (4 * c + 1)) (f 2) (cond (eqb k (4 * c)) (f 1) old))) ≡ of_cylinder
  slots =
      slot (4 * c + 3) 3 _ (omega arith) refl
      (λ n3. slot (4 * c + 2) 2 _ (omega arith) refl
      (λ n2. slot (4 * c + 1) 1 _ (omega arith) refl
      (λ n1. slot (4 * c) 0 _ (omega arith) (omega arith)
      (λ n0. sym (ap (λ t. cond t (f (k % 4 + 1)) old) (ne_eqb (k / 4) c (λ e. omega arith)))))))

-- the four entries copied at once are those that are set one after another
module _ (table entries : List Entry) (c : ℕ) (long : length table ≡ 256) (full : length entries ≡ 32) (few : c < 64) where
  abbrev four : List Entry
  four = between 1 5 entries

  copied : (i k : ℕ) (now : List Entry) → i < 4 → k ≡ 4 * c + i → now ≡ paste table (4 * c) four i → set now k (get_or entries (1 + i) Map) ≡ paste table (4 * c) four (i + 1)
  copied i k now h at is =
      ap₂ (λ xs e. set xs k e) is (sym (get_or-between entries 1 5 i Map (omega arith))) ∙ ap (λ n. set (paste table (4 * c) four i) n (get_or four i Map)) at
      ∙ paste_more table (4 * c) four i Map (omega arith) (omega (arith, length-between entries 1 5 (omega arith)))

  pub noted_at_once : (new : List Entry) (d : ℕ) → d ≡ c → new ≡ four → put_mid (4 * d) (4 * d + 4 - 4 * d) table new ≡ noted table c entries
  noted_at_once new d same is =
      ap (λ n. put_mid (4 * n) (4 * n + 4 - 4 * n) table new) same
      ∙ put_mid-paste (4 * c) (4 * c + 4 - 4 * c) table new four 4 is (omega arith) (omega (arith, length-between entries 1 5 (omega arith)))
      ∙ sym (copied 3 (4 * c + 3) _ (omega arith) refl (copied 2 (4 * c + 2) _ (omega arith) refl (copied 1 (4 * c + 1) _ (omega arith) refl (copied 0 (4 * c) table (omega arith) (omega arith) (paste_none table (4 * c) four)))))

noted_slot : (table entries : List Entry) (c k : ℕ) → length table ≡ 256 → c < 64 → get_or (noted table c entries) k Free ≡ cond (eqb (k / 4) c) (get_or entries (k % 4 + 1) Map) (get_or table k Free)
noted_slot table entries c k long few =
    let e = λ (s : ℕ). get_or entries s Map in
    let one = set table (4 * c) (e 1) in
    let two = set one (4 * c + 1) (e 2) in
    let three = set two (4 * c + 2) (e 3) in
    let long1 : length one ≡ 256 = length-set table (4 * c) (e 1) ∙ long in
    let long2 : length two ≡ 256 = length-set one (4 * c + 1) (e 2) ∙ long1 in
    let long3 : length three ≡ 256 = length-set two (4 * c + 2) (e 3) ∙ long2 in
    set_slot three (4 * c + 3) k (e 4) (omega arith)
    ∙ ap (λ x. cond (eqb k (4 * c + 3)) (e 4) x)
    (set_slot two (4 * c + 2) k (e 3) (omega arith)
    ∙ ap (λ x. cond (eqb k (4 * c + 2)) (e 3) x)
    (set_slot one (4 * c + 1) k (e 2) (omega arith) ∙ ap (λ x. cond (eqb k (4 * c + 1)) (e 2) x) (set_slot table (4 * c) k (e 1) (omega arith))))
    ∙ slots k c e (get_or table k Free)

-- one cylinder more: what is seen of it decides its slots
module _ (E : Entries) (c : ℕ) (table : List Entry) (so_far : Tabled E c table) where
  next_slot : (k : ℕ) (e : Entry) → (k / 4 ≡ c → e ≡ E (slot_address k)) → (k / 4 ≢ c → e ≡ get_or table k Free) → k < 256 → e ≡ cond (ltb (k / 4) (c + 1)) (E (slot_address k)) Free
  next_slot k e here there h =
      ⊎_elim
      (λ (is : k / 4 ≡ c). here is ∙ sym (ap (λ t. cond t (E (slot_address k)) Free) (lt-ltb (k / 4) (c + 1) (omega arith))))
      (λ (ne : k / 4 ≢ c). there ne ∙ so_far.1 k h ∙ ap (λ t. cond t (E (slot_address k)) Free) (same_side (k / 4) ne))
      (cases_eq (k / 4) c)
    where
      same_side : (n : ℕ) → n ≢ c → ltb n c ≡ ltb n (c + 1)
      same_side n ne =
          ⊎_elim
          (λ (low : n < c). lt-ltb n c low ∙ sym (lt-ltb n (c + 1) (omega arith)))
          (λ high. le-ltb n c high ∙ sym (le-ltb n (c + 1) (omega arith)))
          (cases_lt n c)

  pub noted_more : (entries : List Entry) → c < 64 → ((s : ℕ) → s < 32 → get_or entries s Map ≡ E (32 * c + s)) → Tabled E (c + 1) (noted table c entries)
  noted_more entries few says = (
    length-set _ _ _ ∙ length-set _ _ _ ∙ length-set _ _ _ ∙ length-set _ _ _ ∙ so_far.0,
    λ k h.
        let at = noted_slot table entries c k so_far.0 few in
        next_slot k (get_or (noted table c entries) k Free)
        (λ (is : k / 4 ≡ c).
        at ∙ ap (λ t. cond t (get_or entries (k % 4 + 1) Map) (get_or table k Free)) (eq-eqb (k / 4) c is) ∙ says (k % 4 + 1) (omega arith)
        ∙ ap (λ n. E (32 * n + (k % 4 + 1))) (sym is))
        (λ (ne : k / 4 ≢ c). at ∙ ap (λ t. cond t (get_or entries (k % 4 + 1) Map) (get_or table k Free)) (ne_eqb (k / 4) c ne)) h,
  )

  pub passed_more : ((s : ℕ) → s < 32 → E (32 * c + s) ≡ Free) → Tabled E (c + 1) table
  passed_more free = (
    so_far.0,
    λ k h.
        next_slot k (get_or table k Free)
        (λ (is : k / 4 ≡ c).
        so_far.1 k h ∙ ap (λ t. cond t (E (slot_address k)) Free) (le-ltb (k / 4) c (omega arith)) ∙ sym (free (k % 4 + 1) (omega arith)) ∙ ap (λ n. E (32 * n + (k % 4 + 1))) (sym is))
        (λ ne. refl) h,
  )

-- what a map says of its own cylinder, and what stands past the last one
read_entries : (blocks : List Block) (c s : ℕ) (o : Option (List Entry)) → map_at blocks c ≡ o → s < 32 → entry_at blocks (32 * c + s) ≡ entry_in o s
read_entries blocks c s o is h =
    let cylinder : (32 * c + s) / 32 ≡ c = omega arith in
    let sector : (32 * c + s) % 32 ≡ s = omega arith in
    ap₂ (λ d t. entry_in (map_at blocks d) t) cylinder sector ∙ ap (λ x. entry_in x s) is

module _ {blocks : List Block} {lit : Bool} (ready : Ready blocks lit (cylinders_of blocks)) where
  past_entries : (a : ℕ) → 32 * cylinders_of blocks ≤ a → entry_at blocks a ≡ Free
  past_entries a h =
      ap (λ b. entry_in (map_in (cylinders_of blocks) (cylinder_of a) b) (sector_of a)) (get_or_past blocks (32 * cylinder_of a) Block.unreadable (omega (arith, ready.long)))

  -- a map was read, and its root entries noted if it can be used
  pub tabled_some : (c : ℕ) (table entries : List Entry) → c < cylinders_of blocks → Tabled (entry_at blocks) c table → map_at blocks c ≡ Some entries →
      Tabled (entry_at blocks) (c + 1) (noted table c entries)
  tabled_some c table entries h so_far is =
      noted_more (entry_at blocks) c table so_far entries (omega (arith, ready.few))
      (λ s below. sym (read_entries blocks c s (Some entries) is below))

  pub tabled_none : (c : ℕ) (table : List Entry) → Tabled (entry_at blocks) c table → map_at blocks c ≡ None → Tabled (entry_at blocks) (c + 1) table
  tabled_none c table so_far is =
      passed_more (entry_at blocks) c table so_far (λ s below. read_entries blocks c s None is below)

  -- once every cylinder is noted, the table gives every root entry
  pub tabled_all : (c : ℕ) (table : List Entry) → cylinders_of blocks ≤ c → Tabled (entry_at blocks) c table → (a : ℕ) → table_entries table a ≡ roots_of (entry_at blocks) a
  tabled_all c table past so_far a = by (root_place a) refl
    where
      slot_of : leb 1 (sector_of a) ≡ true → leb (sector_of a) 4 ≡ true → cylinder_of a < 64 → get_or table (root_slot a) Free ≡ cond (ltb (root_slot a / 4) c) (entry_at blocks a) Free
      slot_of one four few =
          let low = leb-true 1 (sector_of a) one in
          let high = leb-true (sector_of a) 4 four in
          let same : slot_address (root_slot a) ≡ a = omega arith in
          so_far.1 (root_slot a) (omega arith) ∙ ap (λ b. cond (ltb (root_slot a / 4) c) (entry_at blocks b) Free) same

      by : (t : Bool) → root_place a ≡ t → cond t (get_or table (root_slot a) Free) Free ≡ cond t (entry_at blocks a) Free
      by false place = refl
      by true place =
          let sides = and_parts (leb 1 (sector_of a)) (leb (sector_of a) 4) place in
          let low = leb-true 1 (sector_of a) sides.0 in
          let high = leb-true (sector_of a) 4 sides.1 in
          ⊎_elim
          (λ (inside : cylinder_of a < cylinders_of blocks).
          slot_of sides.0 sides.1 (omega (arith, ready.few)) ∙ ap (λ t. cond t (entry_at blocks a) Free) (lt-ltb (root_slot a / 4) c (omega arith)))
          (λ (outside : cylinders_of blocks ≤ cylinder_of a).
          let none = past_entries a (omega arith) in
          ⊎_elim
          (λ (few : cylinder_of a < 64). slot_of sides.0 sides.1 few ∙ ap (λ e. cond (ltb (root_slot a / 4) c) e Free) none ∙ same_both (ltb (root_slot a / 4) c) Free ∙ sym none)
          (λ (far : 64 ≤ cylinder_of a). get_or_past table (root_slot a) Free (omega (arith, so_far.0)) ∙ sym none)
          (cases_lt (cylinder_of a) 64))
          (cases_lt (cylinder_of a) (cylinders_of blocks))
        where
          same_both : (t : Bool) (e : Entry) → cond t e e ≡ e
          same_both true e = refl
          same_both false e = refl

-- maps settled by the table are those settled by the root entries
pub by_table : (blocks : List Block) (table : List Entry) → ((a : ℕ) → table_entries table a ≡ roots_of (entry_at blocks) a) → pass_plan (settle_rule (table_entries table)) blocks ≡ settle_plan blocks
by_table blocks table same = ap (λ E. pass_plan (settle_rule E) blocks) (fun_ext same)
