-- A reading, position by position.
use Rattle.std.proofs.Common.{◌≡◌, ℕ, ◌+◌, ◌*◌, ◌/◌, ◌%◌, ◌<◌, ◌≤◌, Bool, true, false, not, List, length, get_or, is_some, Some, None, Option, sym, ap, ◌∙◌, ap₂, arith, below_more}
use Rattle.std.proofs.lemmas.List.FromFn.{fill_by_all}
use Rattle.std.proofs.lemmas.Bool.{and_from, and_left, and_right}
use Rattle.std.specs.Option.{option_map}
use Rattle.device.specs.Blocks.{Block}
use Rattle.volume.proofs.Searching.{lowest_none, lowest_first}
use Rattle.lookup.specs.Reading.{position_words, word_of, word_shown, words_shown, has_word, is_in_the_way, unreadable_in, Filled}
use Rattle.lookup.proofs.Filling.{filled_to, filled_past}

module _ (blocks : List Block) (addresses : List ℕ) (offset n : ℕ) where
  abbrev held_at : ℕ → Option (List ℕ)
  held_at p = position_words blocks (get_or addresses p 0)

  abbrev stops : ℕ → Bool
  stops = is_in_the_way blocks addresses offset n

  -- the positions below p were read, and the buffer holds their words
  abbrev pub SoFar : ℕ → List ℕ → Type 0
  SoFar p buffer = Filled (word_shown blocks addresses) offset (256 * p) buffer × ((q : ℕ) → q < p → stops q ≡ false)

  -- the test, asked with the buffer's own length
  pub asked : (p : ℕ) (buffer : List ℕ) (answer : Bool) → length buffer ≡ n → answer ≡ has_word offset (length buffer) p → has_word offset n p ≡ answer
  asked p buffer answer long is = ap (λ m. has_word offset m p) (sym long) ∙ sym is

  -- a position that has none of the words is passed
  pub passed : (p : ℕ) (buffer : List ℕ) → length buffer ≡ n → has_word offset n p ≡ false → SoFar p buffer → SoFar (p + 1) buffer
  passed p buffer long none far = (
    filled_past (word_shown blocks addresses) offset buffer p (ap (λ m. has_word offset m p) long ∙ none) far.0,
    below_more (λ q. stops q ≡ false) p far.1 (and_left (has_word offset n p) (not (is_some (held_at p))) none),
  )

  -- a position's words are those that are shown
  pub words_are : (p : ℕ) (words : List ℕ) → held_at p ≡ Some words → (i : ℕ) → i < 256 → get_or words i 0 ≡ word_shown blocks addresses (256 * p + i)
  words_are p words is i h =
      let position : (256 * p + i) / 256 ≡ p = omega arith in
      let place : (256 * p + i) % 256 ≡ i = omega arith in
      sym (ap₂ (λ q j. word_of (held_at q) j) position place ∙ ap (λ o. word_of o i) is)

  -- a position that can be read is put
  pub put_on : (p : ℕ) (words buffer : List ℕ) → held_at p ≡ Some words → Filled (word_shown blocks addresses) offset (256 * p + 256) buffer →
      ((q : ℕ) → q < p → stops q ≡ false) → SoFar (p + 1) buffer
  put_on p words buffer is filled below = (
    filled_to (word_shown blocks addresses) offset buffer (256 * p + 256) (256 * (p + 1)) (λ i h k. omega arith) filled,
    below_more (λ q. stops q ≡ false) p below (and_right (has_word offset n p) (not (is_some (held_at p))) (ap (λ o. not (is_some o)) is)),
  )

  -- a position that cannot be read is the first such
  pub stopped : (p : ℕ) → p < 64 → has_word offset n p ≡ true → held_at p ≡ None → ((q : ℕ) → q < p → stops q ≡ false) →
      unreadable_in blocks addresses offset n ≡ Some (get_or addresses p 0)
  stopped p few has is below =
      let here : stops p ≡ true = and_from (has_word offset n p) (not (is_some (held_at p))) has (ap (λ o. not (is_some o)) is) in
      ap (option_map (λ q. get_or addresses q 0)) (lowest_first stops 64 p few here below)

  pub none_stops : ((q : ℕ) → q < 64 → stops q ≡ false) → unreadable_in blocks addresses offset n ≡ None
  none_stops none = ap (option_map (λ q. get_or addresses q 0)) (lowest_none stops 64 none)

  -- after the last position the buffer holds every word
  pub all_read : (buffer : List ℕ) → length buffer ≡ n → offset + n ≤ 16384 → Filled (word_shown blocks addresses) offset 16384 buffer →
      buffer ≡ words_shown blocks addresses offset n
  unfolding words_shown
  all_read buffer long within filled = fill_by_all (λ i. word_shown blocks addresses (offset + i)) buffer n 0 long (λ k h. filled k (omega arith) (omega arith))
