-- Facts about the entries of a volume of two cylinders, by tests that are computed.
use Rattle.std.proofs.Common.{◌≡◌, ℕ, zero, suc, ◌<◌, Bool, true, false, not, ◌&&◌, ◌||◌, eqb, Some, sym, ap, ◌∙◌, subst, ap₂, ⊎_elim, arith}
use Rattle.std.proofs.lemmas.Bool.{and_parts, and_from, or_cases, eqb-true, cases_eq, true≢false, not-true}
use Rattle.map.specs.Addresses.{root_place}
use Rattle.map.specs.Entries.{fits_entry, Named}
use Rattle.map.specs.Identifiers.{is_identifier}
use Rattle.map.specs.declared.entry.Entry.{Entry}
use Rattle.map.specs.declared.entry.Entry.TheVariants.{Map, Free, Root, Data}
use Rattle.volume.specs.Counting.{Entries, counts, for_position, due}
use Rattle.volume.specs.Rebuilding.{RootBlocks, FitVolume, SingleClaims, Agree}
use Rattle.volume.specs.Search.{all}

-- a test that holds of each number below n
pub from_all : (f : ℕ → Bool) (n : ℕ) → all f n ≡ true → (a : ℕ) → a < n → f a ≡ true
unfolding all
from_all f zero e a h = absurd (omega arith)
from_all f (suc n) e a h =
    let parts = and_parts (all f n) (f n) e in
    ⊎_elim (λ (same : a ≡ n). ap f same ∙ parts.1) (λ ne. from_all f n parts.0 a (omega arith)) (cases_eq a n)

-- an owner is named by an identifier, as a test
unfoldable pub named : Entry → Bool
named Map = true
named Free = true
named (Root state kind commit tag) = true
named (Data state position owner) = is_identifier owner.tag owner.root

from_named : (e : Entry) → named e ≡ true → Named e
unfolding named
from_named Map h = tt
from_named Free h = tt
from_named (Root state kind commit tag) h = tt
from_named (Data state position owner) h = h

-- each entry fits its address
unfoldable pub fits_test : Entries → ℕ → Bool
fits_test E a = fits_entry 2 a (E a) && named (E a)

pub fits_from : (E : Entries) → all (fits_test E) 64 ≡ true → FitVolume E 2
unfolding fits_test
fits_from E tested a h =
    let parts = and_parts (fits_entry 2 a (E a)) (named (E a)) (from_all (fits_test E) 64 tested a h) in
    (parts.0, from_named (E a) parts.1)

-- two data entries for one position of one object
unfoldable pub alike : Entry → Entry → Bool
alike Map e = false
alike Free e = false
alike (Root state kind commit tag) e = false
alike (Data state position owner) e = for_position owner.root position e

-- no two entries that count are alike
unfoldable pub single_test : Entries → ℕ → ℕ → Bool
single_test E a b = eqb a b || not (alike (E a) (E b) && (counts E (E a) && counts E (E b)))

from_alike : (r p : ℕ) (e f : Entry) → for_position r p e ≡ true → for_position r p f ≡ true → alike e f ≡ true
unfolding alike
from_alike r p Map f first second = absurd (true≢false (sym first))
from_alike r p Free f first second = absurd (true≢false (sym first))
from_alike r p (Root state kind commit tag) f first second = absurd (true≢false (sym first))
from_alike r p (Data state position owner) f first second =
    let parts = and_parts (eqb owner.root r) (eqb position p) first in
    ap₂ (λ q s. for_position q s f) (eqb-true owner.root r parts.0) (eqb-true position p parts.1) ∙ second

pub single_from : (E : Entries) → all (λ a. all (single_test E a) 64) 64 ≡ true → SingleClaims E 64
unfolding single_test
single_from E tested r p x y xh yh first second =
    let one = and_parts (for_position r p (E x)) (counts E (E x)) first in
    let two = and_parts (for_position r p (E y)) (counts E (E y)) second in
    let both = and_from (alike (E x) (E y)) (counts E (E x) && counts E (E y)) (from_alike r p (E x) (E y) one.0 two.0) (and_from (counts E (E x)) (counts E (E y)) one.1 two.1) in
    ⊎_elim
    (λ (e : eqb x y ≡ true). eqb-true x y e)
    (λ (off : not (alike (E x) (E y) && (counts E (E x) && counts E (E y))) ≡ true).
    absurd (true≢false (sym both ∙ not-true (alike (E x) (E y) && (counts E (E x) && counts E (E y))) off)))
    (or_cases (eqb x y) (not (alike (E x) (E y) && (counts E (E x) && counts E (E y)))) (from_all (single_test E x) 64 (from_all (λ a. all (single_test E a) 64) 64 tested x xh) y yh))

-- the eight root places
unfoldable pub is_place : ℕ → Bool
is_place r = eqb r 1 || (eqb r 2 || (eqb r 3 || (eqb r 4 || (eqb r 33 || (eqb r 34 || (eqb r 35 || eqb r 36))))))

unfoldable pub places_test : ℕ → Bool
places_test r = not (root_place r) || is_place r

module _ (E : Entries) (R : RootBlocks) (one : R 1 ≡ Some (due E 64 1)) (two : R 2 ≡ Some (due E 64 2)) (three : R 3 ≡ Some (due E 64 3)) (four : R 4 ≡ Some (due E 64 4))
    (five : R 33 ≡ Some (due E 64 33)) (six : R 34 ≡ Some (due E 64 34)) (seven : R 35 ≡ Some (due E 64 35)) (eight : R 36 ≡ Some (due E 64 36)) (tested : all places_test 64 ≡ true) where
  at : (r k : ℕ) → eqb r k ≡ true → R k ≡ Some (due E 64 k) → R r ≡ Some (due E 64 r)
  at r k e is = subst (λ q. R q ≡ Some (due E 64 q)) (sym (eqb-true r k e)) is

  pub agree_from : Agree E R 64
  unfolding places_test is_place
  agree_from r h place =
      ⊎_elim
      (λ (off : not (root_place r) ≡ true). absurd (true≢false (sym place ∙ not-true (root_place r) off)))
      (λ on. or r 1 _ on one (λ on2. or r 2 _ on2 two (λ on3. or r 3 _ on3 three (λ on4. or r 4 _ on4 four (λ on5. or r 33 _ on5 five (λ on6. or r 34 _ on6 six (λ on7. or r 35 _ on7 seven (λ on8. at r 36 on8 eight))))))))
      (or_cases (not (root_place r)) (is_place r) (from_all places_test 64 tested r h))
    where
      or : (q k : ℕ) (rest : Bool) → (eqb q k || rest) ≡ true → R k ≡ Some (due E 64 k) → (rest ≡ true → R q ≡ Some (due E 64 q)) → R q ≡ Some (due E 64 q)
      or q k rest on is more = ⊎_elim (λ (e : eqb q k ≡ true). at q k e is) more (or_cases (eqb q k) rest on)
