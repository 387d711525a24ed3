-- A pass that changes the maps entry by entry.
use Rattle.std.proofs.Common.{◌≡◌, ℕ, zero, suc, ◌+◌, ◌*◌, ◌<◌, ◌≤◌, Bool, true, false, cond, ◌||◌, eqb, ltb, ◌≢◌, List, [], ◌∷◌, map, length, get_or, Some, None, sym, refl, ap, ◌∙◌, subst, ap₂, ⊎_elim, arith}
use mathlib.Core.Path.{fun_ext}
use Rattle.std.proofs.lemmas.Nat.{mod_below}
use Rattle.std.proofs.lemmas.Bool.{or_parts, lt-ltb, le-ltb, eq-eqb, ne_eqb, cases_eq, cases_lt, true≢false}
use Rattle.device.specs.Blocks.{Block, block_at}
use Rattle.device.specs.Gathers.{gathered_each}
use Rattle.journal.proofs.EachAt.{each_length, each_entry}
use Rattle.journal.specs.Passes.{Rule}
use Rattle.journal.specs.Rules.{each_at, any_at, pointwise}
use Rattle.map.specs.Addresses.{cylinder_of, sector_of}
use Rattle.map.specs.Entries.{fits_entry, Named}
use Rattle.map.specs.MapLaws.{map_entries_return}
use Rattle.map.specs.Maps.{decoded_sector, decoded_map, encoded_map}
use Rattle.map.specs.declared.entry.Entry.{Entry}
use Rattle.map.specs.declared.entry.Entry.TheVariants.{Map}
use Rattle.recovery.proofs.Passing.{Steps}
use Rattle.volume.specs.Choosing.{any_of}
use Rattle.volume.specs.Counting.{Entries}
use Rattle.volume.specs.Laws.{Same}
use Rattle.volume.specs.MapStores.{map_changed}
use Rattle.volume.specs.Volume.{cylinders_of, map_in, map_at, entry_in, entry_at}

-- a map has 32 entries
pub map_long : (blocks : List Block) (c : ℕ) (entries : List Entry) → map_at blocks c ≡ Some entries → length entries ≡ 32
map_long blocks c entries is = by (block_at blocks (32 * c)) is
  where
    by : (b : Block) → map_in (cylinders_of blocks) c b ≡ Some entries → length entries ≡ 32
    by Block.unreadable f = absurd (true≢false cc)
    by (Block.readable bytes) f = (gathered_each (decoded_sector (cylinders_of blocks) c bytes) 32 0 entries f).long

-- where no entry passes, each fails
none_at : (t : ℕ → Entry → Bool) (a : ℕ) (es : List Entry) → any_at t a es ≡ false → (k : ℕ) → k < length es → t (a + k) (get_or es k Map) ≡ false
unfolding any_at
none_at t a [] none k h = absurd (omega arith)
none_at t a (e ∷ es) none zero h = ap (λ b. t b e) (omega arith) ∙ (or_parts (t a e) (any_at t (a + 1) es) none).0
none_at t a (e ∷ es) none (suc k) h = ap (λ b. t b (get_or es k Map)) (omega arith) ∙ none_at t (a + 1) es (or_parts (t a e) (any_at t (a + 1) es) none).1 k (omega arith)

-- a rule that looks at no address
any_anywhere : (test : Entry → Bool) (a : ℕ) (es : List Entry) → any_at (λ b. test) a es ≡ any_of test es
unfolding any_at
any_anywhere test a [] = refl
any_anywhere test a (e ∷ es) = ap (λ t. test e || t) (any_anywhere test (a + 1) es)

each_anywhere : (f : Entry → Entry) (a : ℕ) (es : List Entry) → each_at (λ b. f) a es ≡ map f es
unfolding each_at
each_anywhere f a [] = refl
each_anywhere f a (e ∷ es) = ap (λ rest. f e ∷ rest) (each_anywhere f (a + 1) es)

abbrev pub anywhere : (Entry → Bool) → (Entry → Entry) → Rule
anywhere test f c entries = cond (any_of test entries) (Some (map f entries)) None

pub pointwise_anywhere : (test : Entry → Bool) (f : Entry → Entry) → pointwise (λ a. test) (λ a. f) ≡ anywhere test f
pointwise_anywhere test f =
    fun_ext (λ c. fun_ext (λ es. ap₂ (λ t new. cond t (Some new) None) (any_anywhere test (32 * c) es) (each_anywhere f (32 * c) es)))

-- the entries of some addresses changed
abbrev pub changed_at : (ℕ → Bool) → (ℕ → Entry → Entry) → Entries → Entries
changed_at on f E a = cond (on a) (f a (E a)) (E a)

-- the addresses below cylinder c
abbrev pub below : ℕ → ℕ → Bool
below c a = ltb (cylinder_of a) c

-- a test and a change of entries: what does not pass stays, what is changed fits, and any part of the change
-- counts the same
pub record Harmless (t : ℕ → Entry → Bool) (f : ℕ → Entry → Entry) (blocks : List Block) : Type 0 where
  pub idle : (a : ℕ) → t a (entry_at blocks a) ≡ false → f a (entry_at blocks a) ≡ entry_at blocks a
  pub fits : (a : ℕ) → a < 32 * cylinders_of blocks → (fits_entry (cylinders_of blocks) a (f a (entry_at blocks a)) ≡ true) × Named (f a (entry_at blocks a))
  pub same : (on : ℕ → Bool) → Same (32 * cylinders_of blocks) (entry_at blocks) (changed_at on f (entry_at blocks))

module _ (t : ℕ → Entry → Bool) (f : ℕ → Entry → Entry) (blocks : List Block) (harmless : Harmless t f blocks) where
  abbrev E : Entries
  E = entry_at blocks

  module _ (c : ℕ) (entries : List Entry) (inside : c < cylinders_of blocks) (is : map_at blocks c ≡ Some entries) where
    long : length entries ≡ 32
    long = map_long blocks c entries is

    -- the entry of an address of this cylinder
    read : (a : ℕ) → cylinder_of a ≡ c → E a ≡ get_or entries (sector_of a) Map
    read a here = ap (λ o. entry_in o (sector_of a)) (ap (map_at blocks) here ∙ is)

    -- one cylinder more changes that cylinder's entries
    more : (new : Entries) → ((a : ℕ) → cylinder_of a ≡ c → f a (E a) ≡ new a) → (a : ℕ) →
        changed_at (below (suc c)) f E a ≡ cond (eqb (cylinder_of a) c) (new a) (changed_at (below c) f E a)
    more new says a =
        ⊎_elim
        (λ (here : cylinder_of a ≡ c).
        ap (λ u. cond u (f a (E a)) (E a)) (lt-ltb (cylinder_of a) (suc c) (omega arith)) ∙ says a here
        ∙ sym (ap (λ u. cond u (new a) (changed_at (below c) f E a)) (eq-eqb (cylinder_of a) c here)))
        (λ (ne : cylinder_of a ≢ c).
        ⊎_elim
        (λ (low : cylinder_of a < c).
        ap (λ u. cond u (f a (E a)) (E a)) (lt-ltb (cylinder_of a) (suc c) (omega arith) ∙ sym (lt-ltb (cylinder_of a) c low)))
        (λ (high : c ≤ cylinder_of a).
        ap (λ u. cond u (f a (E a)) (E a)) (le-ltb (cylinder_of a) (suc c) (omega arith) ∙ sym (le-ltb (cylinder_of a) c high)))
        (cases_lt (cylinder_of a) c)
        ∙ sym (ap (λ u. cond u (new a) (changed_at (below c) f E a)) (ne_eqb (cylinder_of a) c ne)))
        (cases_eq (cylinder_of a) c)

    joined : (a : ℕ) → cylinder_of a ≡ c → 32 * c + sector_of a ≡ a
    joined a here = omega arith

    idle_here : any_at t (32 * c) entries ≡ false → (a : ℕ) → cylinder_of a ≡ c → f a (E a) ≡ E a
    idle_here none a here =
        let low = mod_below a 32 (omega arith) in
        harmless.idle a (ap₂ t (sym (joined a here)) (read a here) ∙ none_at t (32 * c) entries none (sector_of a) (omega (arith, long)))

    rejoin : (a : ℕ) → cond (eqb (cylinder_of a) c) (E a) (changed_at (below c) f E a) ≡ changed_at (below c) f E a
    rejoin a =
        ⊎_elim
        (λ (here : cylinder_of a ≡ c).
        ap (λ u. cond u (E a) (changed_at (below c) f E a)) (eq-eqb (cylinder_of a) c here)
        ∙ sym (ap (λ u. cond u (f a (E a)) (E a)) (le-ltb (cylinder_of a) c (omega arith))))
        (λ ne. ap (λ u. cond u (E a) (changed_at (below c) f E a)) (ne_eqb (cylinder_of a) c ne))
        (cases_eq (cylinder_of a) c)

    stays : (u : Bool) → any_at t (32 * c) entries ≡ u → cond u (Some (each_at f (32 * c) entries)) None ≡ None → changed_at (below (suc c)) f E ≡ changed_at (below c) f E
    stays true some rules = absurd (true≢false cc)
    stays false none rules = fun_ext (λ a. more E (idle_here none) a ∙ rejoin a)

    -- entry k of the changed map
    entry : (new : List Entry) → each_at f (32 * c) entries ≡ new → (k : ℕ) → k < 32 → get_or new k Map ≡ f (32 * c + k) (E (32 * c + k))
    entry new same k h =
        let place : sector_of (32 * c + k) ≡ k = omega arith in
        ap (λ xs. get_or xs k Map) (sym same) ∙ each_entry f (32 * c) k entries (omega (arith, long))
        ∙ ap (f (32 * c + k)) (sym (read (32 * c + k) (omega arith) ∙ ap (λ s. get_or entries s Map) place))

    written_back : (new : List Entry) → each_at f (32 * c) entries ≡ new → decoded_map (cylinders_of blocks) c (encoded_map c new) ≡ Some new
    written_back new same =
        let many : length new ≡ 32 = ap length (sym same) ∙ each_length f (32 * c) entries ∙ long in
        map_entries_return (cylinders_of blocks) c new many
        (λ s h.
        let is_entry = entry new same s (omega (arith, many)) in
        let fit = harmless.fits (32 * c + s) (omega (arith, many)) in
        (ap (fits_entry (cylinders_of blocks) (32 * c + s)) is_entry ∙ fit.0, subst Named (sym is_entry) fit.1))

    writes : (new : List Entry) (u : Bool) → any_at t (32 * c) entries ≡ u → cond u (Some (each_at f (32 * c) entries)) None ≡ Some new →
        (decoded_map (cylinders_of blocks) c (encoded_map c new) ≡ Some new) × (changed_at (below (suc c)) f E ≡ map_changed c new (changed_at (below c) f E))
    writes new true some rules =
        let same : each_at f (32 * c) entries ≡ new = cc in (
          written_back new same,
          fun_ext (more (λ b. get_or new (sector_of b) Map)
              (λ b here. sym (entry new same (sector_of b) (mod_below b 32 (omega arith)) ∙ ap (λ x. f x (E x)) (joined b here)))),
        )
    writes new false none rules = absurd (true≢false cc)

  pub pointwise_steps : Steps (pointwise t f) blocks (λ c. changed_at (below c) f (entry_at blocks))
  pointwise_steps = record {
    start = fun_ext (λ a. ap (λ u. cond u (f a (E a)) (E a)) (le-ltb (cylinder_of a) 0 (omega arith)));
    stays = λ c entries inside is rules. stays c entries inside is (any_at t (32 * c) entries) refl rules;
    writes = λ c entries new inside is rules. writes c entries inside is new (any_at t (32 * c) entries) refl rules;
    same = λ c. harmless.same (below c);
  }

-- the same of a rule that looks at no address
pub anywhere_steps : (test : Entry → Bool) (f : Entry → Entry) (blocks : List Block) → Harmless (λ a. test) (λ a. f) blocks →
    Steps (anywhere test f) blocks (λ c. changed_at (below c) (λ a. f) (entry_at blocks))
anywhere_steps test f blocks harmless =
    subst (λ rule. Steps rule blocks (λ c. changed_at (below c) (λ a. f) (entry_at blocks))) (pointwise_anywhere test f)
    (pointwise_steps (λ a. test) (λ a. f) blocks harmless)
