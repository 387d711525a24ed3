-- What stands in a block after bytes were put into it, byte by byte.
use Rattle.std.proofs.Common.{◌≡◌, ℕ, ◌+◌, ◌-◌, ◌*◌, ◌<◌, ◌≤◌, List, [], ◌++◌, length, get_or, take, drop, sym, refl, ap, ◌∙◌, ap₂, arith}
use borrow.Rule.Slice.PartMut.{put_mid}
use Rattle.std.proofs.lemmas.List.{length-append, length-take, length-take-le, length-drop, get_or_append_left, get_or-append_right, get_or-take, get_or-drop, take_at, append_assoc, drop_at, drop-drop, take-append-drop, append-nil, drop_all}
use Rattle.map.specs.Bytes.{number4, placed}

-- as the checker writes a write to a part
pub placed_from_part : (at k : ℕ) (block bytes : List ℕ) → k ≡ length bytes → put_mid at k block bytes ≡ placed at bytes block
unfolding placed
placed_from_part at k block bytes e = ap (λ tail. take at block ++ (bytes ++ tail)) (drop-drop k at block ∙ ap (λ n. drop (at + n) block) e)

pub placed_nothing : (at : ℕ) (block : List ℕ) → placed at [] block ≡ block
unfolding placed
placed_nothing at block = ap (λ n. take at block ++ drop n block) (omega arith) ∙ take-append-drop at block

pub placed_whole : (bytes block : List ℕ) → length bytes ≡ length block → placed 0 bytes block ≡ bytes
unfolding placed
placed_whole bytes block e = ap (λ rest. bytes ++ rest) (drop_all (0 + length bytes) block (omega arith)) ∙ append-nil bytes

module _ (at : ℕ) (bytes block : List ℕ) (within : at + length bytes ≤ length block) where
  front : length (take at block) ≡ at
  front = length-take-le at block (omega arith)

  pub placed_length : length (placed at bytes block) ≡ length block
  unfolding placed
  placed_length = simp (length-append, length-take, length-drop) (omega arith)

  pub placed_below : (k : ℕ) → k < at → get_or (placed at bytes block) k 0 ≡ get_or block k 0
  unfolding placed
  placed_below k h =
      let far : k < length (take at block) = omega (arith, front) in
      get_or_append_left (take at block) (bytes ++ drop (at + length bytes) block) 0 k far ∙ get_or-take at block k 0 h

  pub placed_inside : (k : ℕ) → k < length bytes → get_or (placed at bytes block) (at + k) 0 ≡ get_or bytes k 0
  unfolding placed
  placed_inside k h =
      get_or-append_right (take at block) (bytes ++ drop (at + length bytes) block) at (at + k) 0 front (omega arith)
      ∙ ap (λ n. get_or (bytes ++ drop (at + length bytes) block) n 0) (omega arith)
      ∙ get_or_append_left bytes (drop (at + length bytes) block) 0 k h

  pub placed_above : (k : ℕ) → at + length bytes ≤ k → get_or (placed at bytes block) k 0 ≡ get_or block k 0
  unfolding placed
  placed_above k h =
      get_or-append_right (take at block) (bytes ++ drop (at + length bytes) block) at k 0 front (omega arith)
      ∙ get_or-append_right bytes (drop (at + length bytes) block) (length bytes) (k - at) 0 refl (omega arith)
      ∙ get_or-drop (at + length bytes) block (k - at - length bytes) 0
      ∙ ap (λ n. get_or block n 0) (omega arith)

  pub take_placed : take (at + length bytes) (placed at bytes block) ≡ take at block ++ bytes
  unfolding placed
  take_placed =
      ap (take (at + length bytes)) (sym (append_assoc (take at block) bytes (drop (at + length bytes) block)))
      ∙ take_at (take at block ++ bytes) (drop (at + length bytes) block) (at + length bytes) (length-append (take at block) bytes ∙ omega (arith, front))

  pub number_inside : (k : ℕ) → k + 4 ≤ length bytes → number4 (placed at bytes block) (at + k) ≡ number4 bytes k
  number_inside k h =
      let byte : (j : ℕ) → j < 4 → get_or (placed at bytes block) (at + k + j) 0 ≡ get_or bytes (k + j) 0 =
      λ j l. ap (λ n. get_or (placed at bytes block) n 0) (omega arith) ∙ placed_inside (k + j) (omega arith) in
      let first : get_or (placed at bytes block) (at + k) 0 ≡ get_or bytes k 0 = placed_inside k (omega arith) in
      ap₂ ◌+◌ (ap₂ ◌+◌ (ap₂ ◌+◌ first (ap (λ x. x * 256) (byte 1 (omega arith)))) (ap (λ x. x * 65536) (byte 2 (omega arith)))) (ap (λ x. x * 16777216) (byte 3 (omega arith)))

  -- bytes that do not meet the place
  same_number : (j : ℕ) → ((i : ℕ) → i < 4 → get_or (placed at bytes block) (j + i) 0 ≡ get_or block (j + i) 0) → number4 (placed at bytes block) j ≡ number4 block j
  same_number j byte =
      let first : get_or (placed at bytes block) j 0 ≡ get_or block j 0 =
      ap (λ n. get_or (placed at bytes block) n 0) (omega arith) ∙ byte 0 (omega arith) ∙ ap (λ n. get_or block n 0) (omega arith) in
      ap₂ ◌+◌ (ap₂ ◌+◌ (ap₂ ◌+◌ first (ap (λ x. x * 256) (byte 1 (omega arith)))) (ap (λ x. x * 65536) (byte 2 (omega arith)))) (ap (λ x. x * 16777216) (byte 3 (omega arith)))

  pub number_below : (j : ℕ) → j + 4 ≤ at → number4 (placed at bytes block) j ≡ number4 block j
  number_below j h = same_number j (λ i l. placed_below (j + i) (omega arith))

  pub number_above : (j : ℕ) → at + length bytes ≤ j → number4 (placed at bytes block) j ≡ number4 block j
  number_above j h = same_number j (λ i l. placed_above (j + i) (omega arith))

  drop_placed : (m : ℕ) → drop (at + length bytes + m) (placed at bytes block) ≡ drop (at + length bytes + m) block
  unfolding placed
  drop_placed m =
      let rest = drop (at + length bytes) block in
      let past : drop (at + length bytes) (take at block ++ (bytes ++ rest)) ≡ rest =
      ap (drop (at + length bytes)) (sym (append_assoc (take at block) bytes rest))
      ∙ drop_at (take at block ++ bytes) rest (at + length bytes) (length-append (take at block) bytes ∙ omega (arith, front)) in
      sym (drop-drop m (at + length bytes) (take at block ++ (bytes ++ rest))) ∙ ap (drop m) past ∙ drop-drop m (at + length bytes) block

  -- more bytes, right behind those that were put
  pub placed_on : (more : List ℕ) → placed (at + length bytes) more (placed at bytes block) ≡ placed at (bytes ++ more) block
  unfolding placed
  placed_on more =
      ap₂ (λ xs ys. xs ++ (more ++ ys)) take_placed (drop_placed (length more))
      ∙ append_assoc (take at block) bytes (more ++ drop (at + length bytes + length more) block)
      ∙ ap (λ xs. take at block ++ xs) (sym (append_assoc bytes more (drop (at + length bytes + length more) block)))
      ∙ ap (λ n. take at block ++ (bytes ++ more ++ drop n block)) (sum_of at (length bytes) (length more) (length (bytes ++ more)) (length-append bytes more))
    where
      sum_of : (a b c d : ℕ) → d ≡ b + c → a + b + c ≡ a + d
      sum_of a b c d e = omega arith
