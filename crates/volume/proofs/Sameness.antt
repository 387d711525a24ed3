-- What makes two states of the maps count the same, and the laws that follow.
use Rattle.std.proofs.Common.{◌≡◌, ℕ, ◌<◌, Bool, true, false, cond, not, ◌&&◌, List, map, None, sym, refl, ap, ◌∙◌, ap₂}
use Rattle.std.proofs.lemmas.Bool.{and_parts}
use Rattle.std.specs.List.{range_with_len}
use Rattle.map.specs.declared.entry.DataState.TheVariants as data_state
use Rattle.map.specs.declared.entry.Entry.{Entry}
use Rattle.map.specs.declared.entry.Entry.TheVariants.{Map, Free, Root, Data}
use Rattle.map.specs.declared.entry.RootState.TheVariants as root_state
use Rattle.volume.specs.Counting.{Entries, remains_as, bit, has_tag, state_counts, counts, for_position, claims, counted_at, address_or_0, counted_addresses, due_for, due}
use Rattle.volume.specs.Laws.{Same, changed, SettlingLaw, AtRest, ClearingLaw, Intends, IntentionLaw}
use Rattle.volume.specs.Settling.{settled, cleared}
use Rattle.volume.proofs.Searching.{lowest_below}

map_same : {X : Type 0} (f g : ℕ → X) → ((k : ℕ) → f k ≡ g k) → (ks : List ℕ) → map f ks ≡ map g ks
map_same f g e List.[] = refl
map_same f g e (List.◌∷◌ k ks) = ap₂ List.◌∷◌ (e k) (map_same f g e ks)

-- the root block that is due goes by the object that remains and the blocks that count for it
pub owed_same : (n : ℕ) (E E' : Entries) (r : ℕ) → remains_as (E' r) ≡ remains_as (E r) → ((p : ℕ) → counted_at E' n r p ≡ counted_at E n r p) → due E' n r ≡ due E n r
unfolding counted_addresses
owed_same n E E' r remains counted =
    ap₂ (due_for r) (map_same (λ p. address_or_0 (counted_at E' n r p)) (λ p. address_or_0 (counted_at E n r p)) (λ p. ap address_or_0 (counted p)) (range_with_len 0 64)) remains

-- the same objects and the same claims are all there is
pub same_from_claims : (n : ℕ) (E E' : Entries) → ((r : ℕ) → r < n → remains_as (E' r) ≡ remains_as (E r)) →
    ((r p a : ℕ) → a < n → claims E' r p a ≡ claims E r p a) → Same n E E'
same_from_claims n E E' remains claim =
    let counted = λ (r p : ℕ). lowest_below (claims E' r p) (claims E r p) n (claim r p) in
    record { remains = remains; counted = counted; claim = claim; owed = λ r h. owed_same n E E' r (remains r h) (counted r) }

-- an entry counts the same where every object and every bit is the same
counts_same : (E E' : Entries) → ((r : ℕ) → remains_as (E' r) ≡ remains_as (E r)) → ((r : ℕ) → bit (E' r) ≡ bit (E r)) → (e : Entry) → counts E' e ≡ counts E e
counts_same E E' remains bits Map = refl
counts_same E E' remains bits Free = refl
counts_same E E' remains bits (Root state kind commit tag) = refl
counts_same E E' remains bits (Data state position owner) =
    ap₂ (λ o t. has_tag owner.tag o && state_counts state t) (remains owner.root) (bits owner.root)

and_false : (x : Bool) → (x && false) ≡ false
and_false true = refl
and_false false = refl

settled_objects : (E : Entries) (e : Entry) → remains_as (settled E e) ≡ remains_as e
settled_objects E Map = refl
settled_objects E Free = refl
settled_objects E (Root root_state.Allocated kind commit tag) = refl
settled_objects E (Root root_state.IntendingToDeallocate kind true tag) = refl
settled_objects E (Root root_state.IntendingToDeallocate kind false tag) = refl
settled_objects E (Data state position owner) = go (counts E (Data state position owner))
  where
    go : (t : Bool) → remains_as (cond t (Data data_state.Allocated position owner) Free) ≡ None
    go true = refl
    go false = refl

settled_bits : (E : Entries) (e : Entry) → bit (settled E e) ≡ bit e
settled_bits E Map = refl
settled_bits E Free = refl
settled_bits E (Root root_state.Allocated kind commit tag) = refl
settled_bits E (Root root_state.IntendingToDeallocate kind true tag) = refl
settled_bits E (Root root_state.IntendingToDeallocate kind false tag) = refl
settled_bits E (Data state position owner) = go (counts E (Data state position owner))
  where
    go : (t : Bool) → bit (cond t (Data data_state.Allocated position owner) Free) ≡ false
    go true = refl
    go false = refl

-- a settled entry claims what it claimed
settled_claims : (E : Entries) (r p : ℕ) (e : Entry) → (for_position r p (settled E e) && counts E (settled E e)) ≡ (for_position r p e && counts E e)
settled_claims E r p Map = refl
settled_claims E r p Free = refl
settled_claims E r p (Root root_state.Allocated kind commit tag) = refl
settled_claims E r p (Root root_state.IntendingToDeallocate kind true tag) = refl
settled_claims E r p (Root root_state.IntendingToDeallocate kind false tag) = refl
settled_claims E r p (Data state position owner) = go (counts E (Data state position owner)) refl
  where
    fp : Bool
    fp = for_position r p (Data state position owner)

    named : Bool
    named = has_tag owner.tag (remains_as (E owner.root))

    go : (t : Bool) → counts E (Data state position owner) ≡ t →
        (for_position r p (cond t (Data data_state.Allocated position owner) Free) && counts E (cond t (Data data_state.Allocated position owner) Free)) ≡ (fp && t)
    go true h = ap (λ t. fp && (t && true)) (and_parts named (state_counts state (bit (E owner.root))) h).0
    go false h = sym (and_false fp)

-- a change that keeps objects and bits, and what each entry claims, keeps everything
same_from_entries : (n : ℕ) (E : Entries) (on : ℕ → Bool) (f : Entry → Entry) → ((e : Entry) → remains_as (f e) ≡ remains_as e) → ((e : Entry) → bit (f e) ≡ bit e) →
    ((r p : ℕ) (e : Entry) → (for_position r p (f e) && counts E (f e)) ≡ (for_position r p e && counts E e)) → Same n E (changed on f E)
same_from_entries n E on f objects bits claim =
    same_from_claims n E (changed on f E) (λ r h. remains r)
    (λ r p a h. ap (λ t. for_position r p (changed on f E a) && t) (counts_same E (changed on f E) remains same_bits (changed on f E a)) ∙ at r p a (on a))
  where
    remains : (r : ℕ) → remains_as (changed on f E r) ≡ remains_as (E r)
    remains r = go (on r)
      where
        go : (t : Bool) → remains_as (cond t (f (E r)) (E r)) ≡ remains_as (E r)
        go true = objects (E r)
        go false = refl

    same_bits : (r : ℕ) → bit (changed on f E r) ≡ bit (E r)
    same_bits r = go (on r)
      where
        go : (t : Bool) → bit (cond t (f (E r)) (E r)) ≡ bit (E r)
        go true = bits (E r)
        go false = refl

    at : (r p a : ℕ) (t : Bool) → (for_position r p (cond t (f (E a)) (E a)) && counts E (cond t (f (E a)) (E a))) ≡ (for_position r p (E a) && counts E (E a))
    at r p a true = claim r p (E a)
    at r p a false = refl

pub settling_law : SettlingLaw
settling_law n E on = same_from_entries n E on (settled E) (settled_objects E) (settled_bits E) (settled_claims E)

cleared_objects : (e : Entry) → remains_as (cleared e) ≡ remains_as e
cleared_objects Map = refl
cleared_objects Free = refl
cleared_objects (Root root_state.Allocated kind commit tag) = refl
cleared_objects (Root root_state.IntendingToDeallocate kind true tag) = refl
cleared_objects (Root root_state.IntendingToDeallocate kind false tag) = refl
cleared_objects (Data state position owner) = refl

-- at rest, only the object decides
rest_counts : (E E' : Entries) → ((r : ℕ) → remains_as (E' r) ≡ remains_as (E r)) → (e : Entry) → AtRest e → counts E' e ≡ counts E e
rest_counts E E' remains Map rest = refl
rest_counts E E' remains Free rest = refl
rest_counts E E' remains (Root state kind commit tag) rest = refl
rest_counts E E' remains (Data data_state.Allocated position owner) rest = ap (λ o. has_tag owner.tag o && true) (remains owner.root)
rest_counts E E' remains (Data data_state.IntendingToAllocate position owner) rest = absurd rest
rest_counts E E' remains (Data data_state.IntendingToDeallocate position owner) rest = absurd rest

-- clearing leaves data entries, and what it changes claims nothing
cleared_claims : (E E' : Entries) (r p : ℕ) (e : Entry) → counts E' e ≡ counts E e → (for_position r p (cleared e) && counts E' (cleared e)) ≡ (for_position r p e && counts E e)
cleared_claims E E' r p Map same = refl
cleared_claims E E' r p Free same = refl
cleared_claims E E' r p (Root root_state.Allocated kind commit tag) same = refl
cleared_claims E E' r p (Root root_state.IntendingToDeallocate kind true tag) same = refl
cleared_claims E E' r p (Root root_state.IntendingToDeallocate kind false tag) same = refl
cleared_claims E E' r p (Data state position owner) same = ap (λ t. for_position r p (Data state position owner) && t) same

pub clearing_law : ClearingLaw
clearing_law n E on rest = same_from_claims n E (changed on cleared E) (λ r h. remains r) (λ r p a h. at r p a (on a))
  where
    remains : (r : ℕ) → remains_as (changed on cleared E r) ≡ remains_as (E r)
    remains r = go (on r)
      where
        go : (t : Bool) → remains_as (cond t (cleared (E r)) (E r)) ≡ remains_as (E r)
        go true = cleared_objects (E r)
        go false = refl

    same : (a : ℕ) → counts (changed on cleared E) (E a) ≡ counts E (E a)
    same a = rest_counts E (changed on cleared E) remains (E a) (rest a)

    at : (r p a : ℕ) (t : Bool) → (for_position r p (cond t (cleared (E a)) (E a)) && counts (changed on cleared E) (cond t (cleared (E a)) (E a))) ≡ (for_position r p (E a) && counts E (E a))
    at r p a true = cleared_claims E (changed on cleared E) r p (E a) (same a)
    at r p a false = ap (λ t. for_position r p (E a) && t) (same a)

intends_remains : (E : Entries) {e e' : Entry} → Intends E e e' → remains_as e' ≡ remains_as e
intends_remains E Intends.stays = refl
intends_remains E (Intends.allocates position owner h) = refl
intends_remains E (Intends.deallocates position owner h) = refl

intends_bit : (E : Entries) {e e' : Entry} → Intends E e e' → bit e' ≡ bit e
intends_bit E Intends.stays = refl
intends_bit E (Intends.allocates position owner h) = refl
intends_bit E (Intends.deallocates position owner h) = refl

intends_claims : (E : Entries) (r p : ℕ) {e e' : Entry} → Intends E e e' → (for_position r p e' && counts E e') ≡ (for_position r p e && counts E e)
intends_claims E r p Intends.stays = refl
intends_claims E r p (Intends.allocates position owner h) =
    let fp = for_position r p (Data data_state.IntendingToAllocate position owner) in
    let named = has_tag owner.tag (remains_as (E owner.root)) in
    ap (λ t. fp && (named && t)) h ∙ ap (λ t. fp && t) (and_false named) ∙ and_false fp
intends_claims E r p (Intends.deallocates position owner h) =
    let fp = for_position r p (Data data_state.Allocated position owner) in
    let named = has_tag owner.tag (remains_as (E owner.root)) in
    ap (λ t. fp && (named && not t)) h

pub intention_law : IntentionLaw
intention_law n E E' intends =
    let remains = λ (r : ℕ). intends_remains E (intends r) in
    let bits = λ (r : ℕ). intends_bit E (intends r) in
    same_from_claims n E E' (λ r h. remains r) (λ r p a h. ap (λ t. for_position r p (E' a) && t) (counts_same E E' remains bits (E' a)) ∙ intends_claims E r p (intends a))
