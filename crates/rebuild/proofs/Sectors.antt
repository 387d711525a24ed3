-- What one sector of the lost map has after one change.
use Rattle.std.proofs.Common.{◌≡◌, ℕ, suc, ◌+◌, ◌*◌, ◌<◌, ◌≤◌, Bool, true, false, cond, not, ◌&&◌, eqb, ltb, List, length, get_or, set, sym, refl, ap, ◌∙◌, ap₂, ⊎_elim, arith}
use Rattle.std.proofs.lemmas.List.{length-set, get_or-set_same, get_or-set_other}
use Rattle.std.proofs.lemmas.Bool.{and_parts, eqb-true, eq-eqb, ne_eqb, lt-ltb, le-ltb, cases_eq, cases_lt}
use Rattle.map.specs.Addresses.{cylinder_of, sector_of, data_block}
use Rattle.map.specs.declared.entry.DataState.TheVariants as data_state
use Rattle.map.specs.declared.entry.Entry.{Entry}
use Rattle.map.specs.declared.entry.Entry.TheVariants.{Map, Root, Data}
use Rattle.map.specs.declared.entry.RootState.TheVariants as root_state
use Rattle.map.specs.declared.identifier.Identifier.{Identifier}
use Rattle.map.specs.declared.kind.Kind.{Kind}
use Rattle.rebuild.specs.Taking.{is_free, of_lost, held_in, twice_in, root_in_map}

-- a change under a test, at any place of a list
module _ {X : Type 0} (xs : List X) (v : ℕ → X) (d : X) (k : ℕ) where
  pub changed_long : (t : Bool) → length (cond t (set xs k (v k)) xs) ≡ length xs
  changed_long true = length-set xs k (v k)
  changed_long false = refl

  pub changed_at : (s : ℕ) → s < length xs → (t : Bool) → get_or (cond t (set xs k (v k)) xs) s d ≡ cond (t && eqb k s) (v s) (get_or xs s d)
  changed_at s h false = refl
  changed_at s h true =
      ⊎_elim
      (λ (same : k ≡ s).
      ap (λ j. get_or (set xs j (v j)) s d) same ∙ get_or-set_same xs s (v s) d h ∙ sym (ap (λ t. cond t (v s) (get_or xs s d)) (eq-eqb k s same)))
      (λ (ne : k ≡ s → ⊥).
      get_or-set_other xs k s (v k) d (λ e. ne (sym e)) ∙ sym (ap (λ t. cond t (v s) (get_or xs s d)) (ne_eqb k s ne)))
      (cases_eq k s)

pub and_one : (x : Bool) → (x && true) ≡ x
and_one true = refl
and_one false = refl

-- not true is false
pub is_false : (t : Bool) → (t ≡ true → ⊥) → t ≡ false
is_false true never = absurd (never refl)
is_false false never = refl

-- one value from the time that q is passed, another until then
module _ {X : Type 0} (q : ℕ) (x d : X) where
  abbrev pub once_past : ℕ → X
  once_past m = cond (ltb q m) x d

  pub not_yet : (m : ℕ) → m ≤ q → once_past m ≡ d
  not_yet m h = ap (λ t. cond t x d) (le-ltb q m h)

  pub by_now : (m : ℕ) → q < m → once_past m ≡ x
  by_now m h = ap (λ t. cond t x d) (lt-ltb q m h)

  pub passing_by : (m : ℕ) → (m ≡ q → ⊥) → once_past (suc m) ≡ once_past m
  passing_by m ne =
      ⊎_elim
      (λ (h : q < m). by_now (suc m) (omega arith) ∙ sym (by_now m h))
      (λ (h : m ≤ q). not_yet (suc m) (omega arith) ∙ sym (not_yet m h))
      (cases_lt q m)

module _ (c s : ℕ) (sh : s < 32) where
  pub own_cylinder : cylinder_of (32 * c + s) ≡ c
  own_cylinder = omega arith

  pub own_sector : sector_of (32 * c + s) ≡ s
  own_sector = omega arith

  pub whole_address : (x : ℕ) → (eqb (cylinder_of x) c && eqb (sector_of x) s) ≡ eqb x (32 * c + s)
  whole_address x =
      ⊎_elim
      (λ (e : x ≡ 32 * c + s). ap₂ ◌&&◌ (eq-eqb (cylinder_of x) c (omega arith)) (eq-eqb (sector_of x) s (omega arith)) ∙ sym (eq-eqb x (32 * c + s) e))
      (λ (ne : x ≡ 32 * c + s → ⊥).
      is_false (eqb (cylinder_of x) c && eqb (sector_of x) s)
      (λ on.
      let parts = and_parts (eqb (cylinder_of x) c) (eqb (sector_of x) s) on in
      let cylinder = eqb-true (cylinder_of x) c parts.0 in
      let sector = eqb-true (sector_of x) s parts.1 in
      ne (omega arith))
      ∙ sym (ne_eqb x (32 * c + s) ne))
      (cases_eq x (32 * c + s))

  -- an address of cylinder c that passes two tests, at this sector
  pub at_sector : (P g : ℕ → Bool) (x : ℕ) →
      (((eqb (cylinder_of x) c && P x) && g (sector_of x)) && eqb (sector_of x) s) ≡ (eqb x (32 * c + s) && (P (32 * c + s) && g s))
  at_sector P g x = ⊎_elim same other (cases_eq x (32 * c + s))
    where
      trailing : (u w : Bool) → ((u && w) && true) ≡ (u && w)
      trailing true true = refl
      trailing true false = refl
      trailing false w = refl

      same : x ≡ 32 * c + s → (((eqb (cylinder_of x) c && P x) && g (sector_of x)) && eqb (sector_of x) s) ≡ (eqb x (32 * c + s) && (P (32 * c + s) && g s))
      same e =
          let cylinder : cylinder_of x ≡ c = omega arith in
          let sector : sector_of x ≡ s = omega arith in
          ap₂ ◌&&◌ (ap₂ ◌&&◌ (ap₂ ◌&&◌ (eq-eqb (cylinder_of x) c cylinder) (ap P e)) (ap g sector)) (eq-eqb (sector_of x) s sector)
          ∙ trailing (P (32 * c + s)) (g s)
          ∙ sym (ap (λ t. t && (P (32 * c + s) && g s)) (eq-eqb x (32 * c + s) e))

      other : (x ≡ 32 * c + s → ⊥) → (((eqb (cylinder_of x) c && P x) && g (sector_of x)) && eqb (sector_of x) s) ≡ (eqb x (32 * c + s) && (P (32 * c + s) && g s))
      other ne =
          is_false (((eqb (cylinder_of x) c && P x) && g (sector_of x)) && eqb (sector_of x) s)
          (λ on.
          let parts = and_parts ((eqb (cylinder_of x) c && P x) && g (sector_of x)) (eqb (sector_of x) s) on in
          let tests = and_parts (eqb (cylinder_of x) c && P x) (g (sector_of x)) parts.0 in
          let sector = eqb-true (sector_of x) s parts.1 in
          let cylinder = eqb-true (cylinder_of x) c (and_parts (eqb (cylinder_of x) c) (P x) tests.0).0 in
          ne (omega arith))
          ∙ sym (ap (λ t. t && (P (32 * c + s) && g s)) (ne_eqb x (32 * c + s) ne))

  module _ (es : List Entry) (long : length es ≡ 32) where
    -- a data block that is held goes to the first that holds it
    pub held_at : (id : Identifier) (p x : ℕ) →
        get_or (held_in c id p x es) s Map
        ≡ cond (eqb x (32 * c + s) && (data_block (32 * c + s) && is_free (get_or es s Map))) (Data data_state.Allocated p id) (get_or es s Map)
    held_at id p x =
        changed_at es (λ k. Data data_state.Allocated p id) Map (sector_of x) s (omega arith) (of_lost c x && is_free (get_or es (sector_of x) Map))
        ∙ ap (λ t. cond t (Data data_state.Allocated p id) (get_or es s Map)) (at_sector data_block (λ k. is_free (get_or es k Map)) x)

    pub twice_at : (ts : List Bool) → length ts ≡ 32 → (x : ℕ) →
        get_or (twice_in c x es ts) s false ≡ cond (eqb x (32 * c + s) && (data_block (32 * c + s) && not (is_free (get_or es s Map)))) true (get_or ts s false)
    twice_at ts many x =
        changed_at ts (λ k. true) false (sector_of x) s (omega arith) (of_lost c x && not (is_free (get_or es (sector_of x) Map)))
        ∙ ap (λ t. cond t true (get_or ts s false)) (at_sector data_block (λ k. not (is_free (get_or es k Map))) x)

    -- a root entry stands at its own sector
    pub root_at_sector : (r : ℕ) (kind : Kind) (tag : ℕ) →
        get_or (root_in_map c r kind tag es) s Map ≡ cond (eqb r (32 * c + s)) (Root root_state.Allocated kind false tag) (get_or es s Map)
    root_at_sector r kind tag =
        changed_at es (λ k. Root root_state.Allocated kind false tag) Map (sector_of r) s (omega arith) (eqb (cylinder_of r) c)
        ∙ ap (λ t. cond t (Root root_state.Allocated kind false tag) (get_or es s Map)) (whole_address r)
