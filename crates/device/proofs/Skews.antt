-- Why the skew permutes the blocks of a cylinder, and what a store below does to what it shows.
use Rattle.std.proofs.Common.{◌≡◌, ℕ, zero, suc, ◌+◌, ◌*◌, ◌/◌, ◌%◌, ◌^◌, ◌<◌, Bool, true, cond, ◌&&◌, eqb, List, length, Ok, Err, Result, set, sym, refl, ap, ◌∙◌, ap₂, ⊎_elim, arith}
use Rattle.std.proofs.lemmas.Nat.{mod_below}
use Rattle.std.proofs.lemmas.List.{length-set, get_or-set_same, get_or-set_other, ext_get_or}
use Rattle.std.proofs.lemmas.Bool.{eqb-true, and_parts, cases_eq}
use Rattle.device.specs.Blocks.{Block, block_at, left_by, Reads, Stores}
use Rattle.device.specs.declared.answers.Manner.{Manner}
use Rattle.device.specs.declared.answers.Manner.TheVariants as manner
use Rattle.device.specs.declared.answers.ReadError.{ReadError}
use Rattle.device.specs.declared.answers.ReadError.TheVariants as reading
use Rattle.device.specs.declared.answers.StoreError.{StoreError}
use Rattle.device.specs.declared.answers.StoreError.TheVariants as storing
use Rattle.device.specs.SkewLaws.{skewed_size, skewed_at}
use Rattle.device.specs.Skews.{Allowed, place, skewed, Permutes}

-- a test that holds of every number below n
all_below : (ℕ → Bool) → ℕ → Bool
all_below p zero = true
all_below p (suc n) = p n && all_below p n

from_all_below : (p : ℕ → Bool) (n : ℕ) → all_below p n ≡ true → (k : ℕ) → k < n → p k ≡ true
unfolding all_below
from_all_below p zero e k h = absurd (omega arith)
from_all_below p (suc n) e k h =
    let parts = and_parts (p n) (all_below p n) e in
    ⊎_elim (λ (q : k ≡ n). ap p q ∙ parts.0) (λ ne. from_all_below p n parts.1 k (omega arith)) (cases_eq k n)

-- the seventh power of an odd number is its inverse modulo 32
undoes : ℕ → ℕ → Bool
undoes k s = cond (eqb (k % 2) 1) (eqb (k ^ 7 * (k * s % 32) % 32) s && eqb (k * (k ^ 7 * s % 32) % 32) s) true

computed : all_below (λ k. all_below (undoes k) 32) 32 ≡ true
unfolding all_below undoes
computed = refl

joined_sector : (q s : ℕ) → s < 32 → (32 * q + s) % 32 ≡ s
joined_sector q s h = omega arith

joined_cylinder : (q s : ℕ) → s < 32 → (32 * q + s) / 32 ≡ q
joined_cylinder q s h = omega arith

split_whole : (n : ℕ) → 32 * (n / 32) + n % 32 ≡ n
split_whole n = omega arith

module _ (k : ℕ) (allowed : Allowed k) where
  both : (s : ℕ) → s < 32 → (k ^ 7 * (k * s % 32) % 32 ≡ s) × (k * (k ^ 7 * s % 32) % 32 ≡ s)
  unfolding undoes
  both s h =
      let t = from_all_below (undoes k) 32 (from_all_below (λ j. all_below (undoes j) 32) 32 computed k (omega arith)) s h in
      let odd : eqb (k % 2) 1 ≡ true = ap (λ n. eqb n 1) allowed.0 in
      let u : (eqb (k ^ 7 * (k * s % 32) % 32) s && eqb (k * (k ^ 7 * s % 32) % 32) s) ≡ true = rw odd at t in
      let v = and_parts _ _ u in
      (eqb-true _ _ v.0, eqb-true _ _ v.1)

  low : (b : ℕ) → b % 32 < 32
  low b = mod_below b 32 (omega arith)

  placed_sector : (b : ℕ) → place k b % 32 ≡ k * (b % 32) % 32
  placed_sector b = joined_sector (b / 32) (k * (b % 32) % 32) (mod_below (k * (b % 32)) 32 (omega arith))

  placed_cylinder : (b : ℕ) → place k b / 32 ≡ b / 32
  placed_cylinder b = joined_cylinder (b / 32) (k * (b % 32) % 32) (mod_below (k * (b % 32)) 32 (omega arith))

  pub place_apart : (b c : ℕ) → place k b ≡ place k c → b ≡ c
  place_apart b c e =
      let moved : k * (b % 32) % 32 ≡ k * (c % 32) % 32 = sym (placed_sector b) ∙ ap (λ n. n % 32) e ∙ placed_sector c in
      let sector : b % 32 ≡ c % 32 = sym (both (b % 32) (low b)).0 ∙ ap (λ n. k ^ 7 * n % 32) moved ∙ (both (c % 32) (low c)).0 in
      let cylinder : b / 32 ≡ c / 32 = sym (placed_cylinder b) ∙ ap (λ n. n / 32) e ∙ placed_cylinder c in
      omega (arith, sector, cylinder)

  place_onto : (p : ℕ) → (b : ℕ) × (place k b ≡ p)
  place_onto p =
      let s : ℕ = k ^ 7 * (p % 32) % 32 in
      let few : s < 32 = mod_below (k ^ 7 * (p % 32)) 32 (omega arith) in
      let b : ℕ = 32 * (p / 32) + s in
      let sector : b % 32 ≡ s = joined_sector (p / 32) s few in
      let cylinder : b / 32 ≡ p / 32 = joined_cylinder (p / 32) s few in
      let back : k * (b % 32) % 32 ≡ p % 32 = ap (λ n. k * n % 32) sector ∙ (both (p % 32) (low p)).1 in
      (b, ap₂ (λ m n. 32 * m + n) cylinder back ∙ split_whole p)

  pub permutes : Permutes k
  permutes = record { apart = place_apart; onto = place_onto; stays = placed_cylinder }

  -- a place of a whole cylinder stands in that cylinder
  pub place_within : (b n : ℕ) → b < 32 * (n / 32) → place k b < n
  place_within b n h = let c = placed_cylinder b in omega (arith, c)

module _ (k : ℕ) (allowed : Allowed k) (blocks : List Block) (b : ℕ) (within : b < 32 * (length blocks / 32)) where
  -- a block that changes below changes above, where the skew shows it, and no other does
  pub skewed_set : (x : Block) → skewed k (set blocks (place k b) x) ≡ set (skewed k blocks) b x
  skewed_set x = ext_get_or Block.unreadable (skewed k below) (set (skewed k blocks) b x) sizes each
    where
      below : List Block
      below = set blocks (place k b) x

      long : length below ≡ length blocks
      long = length-set blocks (place k b) x

      sizes : length (skewed k below) ≡ length (set (skewed k blocks) b x)
      sizes = skewed_size k below ∙ ap (λ n. 32 * (n / 32)) long ∙ sym (skewed_size k blocks) ∙ sym (length-set (skewed k blocks) b x)

      each : (i : ℕ) → i < length (skewed k below) → block_at (skewed k below) i ≡ block_at (set (skewed k blocks) b x) i
      each i h =
          let size = skewed_size k below in
          let in_new : i < 32 * (length below / 32) = omega (arith, size) in
          let in_old : i < 32 * (length blocks / 32) = rw (← long) in_new in
          ⊎_elim
          (λ (e : i ≡ b).
          let here : b < length (skewed k blocks) = omega (arith, skewed_size k blocks) in
          skewed_at k below i in_new ∙ ap (λ j. block_at below (place k j)) e
          ∙ get_or-set_same blocks (place k b) x Block.unreadable (place_within k allowed b (length blocks) within)
          ∙ sym (ap (block_at (set (skewed k blocks) b x)) e ∙ get_or-set_same (skewed k blocks) b x Block.unreadable here))
          (λ ne.
          skewed_at k below i in_new
          ∙ get_or-set_other blocks (place k b) (place k i) x Block.unreadable (λ e. ne (place_apart k allowed i b e))
          ∙ sym (skewed_at k blocks i in_old)
          ∙ sym (get_or-set_other (skewed k blocks) b i x Block.unreadable ne))
          (cases_eq i b)

  skewed_within : b < length (skewed k blocks)
  skewed_within = omega (arith, skewed_size k blocks)

  -- a read at the block's place below is a read of the block above
  pub read_skewed : (lit : Bool) (r : Result (Unit {0}) ReadError) (old new : List ℕ) → Reads blocks lit (place k b) r old new → Reads (skewed k blocks) lit b r old new
  read_skewed lit (Err reading.Outside) old new s = absurd (omega (arith, place_within k allowed b (length blocks) within))
  read_skewed lit (Err reading.Dark) old new s = (skewed_within, s.1, s.2)
  read_skewed lit (Err reading.Unreadable) old new s = (skewed_within, s.1, skewed_at k blocks b within ∙ s.2, s.3)
  read_skewed lit (Ok _) old new s = (skewed_within, s.1, skewed_at k blocks b within ∙ s.2)

  left_skewed : (m : Manner) (bytes : List ℕ) → skewed k (left_by m blocks (place k b) bytes) ≡ left_by m (skewed k blocks) b bytes
  left_skewed manner.Old bytes = refl
  left_skewed manner.New bytes = skewed_set (Block.readable bytes)
  left_skewed manner.Unreadable bytes = skewed_set Block.unreadable

  -- a store at the block's place below is a store of the block above
  pub store_skewed : (lit : Bool) (bytes : List ℕ) (r : Result (Unit {0}) StoreError) (blocks' : List Block) (lit' : Bool) → Stores blocks lit (place k b) bytes r blocks' lit' → Stores (skewed k blocks) lit b bytes r (skewed k blocks') lit'
  store_skewed lit bytes (Err storing.Outside) blocks' lit' s = absurd (omega (arith, place_within k allowed b (length blocks) within))
  store_skewed lit bytes (Err storing.Dark) blocks' lit' s =
      (skewed_within, s.1, λ off. ap (skewed k) (s.2 off), (s.3.0, ap (skewed k) s.3.1 ∙ left_skewed s.3.0 bytes))
  store_skewed lit bytes (Ok _) blocks' lit' s = (skewed_within, s.1, s.2, ap (skewed k) s.3 ∙ skewed_set (Block.readable bytes))
