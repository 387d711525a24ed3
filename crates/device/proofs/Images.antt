-- What a store does to an image: block b changes, and nothing else.
use Rattle.std.proofs.Common.{◌≡◌, ℕ, ◌+◌, ◌-◌, ◌*◌, ◌/◌, ◌<◌, ◌≤◌, ◌≢◌, List, ◌++◌, length, take, drop, set, sym, ap, ◌∙◌, ⊎_elim, arith}
use borrow.Rule.Slice.PartMut.{put_mid}
use Rattle.std.proofs.lemmas.List.{length-take, length-take-le, length-drop, length-append, length-set, append_assoc, get_or-set_same, get_or-set_other, ext_get_or, take_at, drop_at, take-append-le, drop-append-le, drop-drop, take-append-drop}
use Rattle.std.proofs.lemmas.Bool.{cases_order}
use Rattle.device.specs.Blocks.{Block, block_at}
use Rattle.device.specs.Images.{image_blocks, part, overwritten}
use Rattle.device.specs.ImageLaws.{image_size, image_block}

-- a block within the front of a joined list
part_front : (front back : List ℕ) (i : ℕ) → 512 * i + 512 ≤ length front → part (front ++ back) i ≡ part front i
part_front front back i h =
    let low : 512 * i ≤ length front = omega arith in
    let far : 512 ≤ length (drop (512 * i) front) = rw length-drop (omega arith) in
    ap (take 512) (drop-append-le (512 * i) front back low) ∙ take-append-le 512 (drop (512 * i) front) back far

-- two lists that agree from `from` on agree on the blocks there
part_back : (xs ys : List ℕ) (from i : ℕ) → from ≤ 512 * i → drop from xs ≡ drop from ys → part xs i ≡ part ys i
part_back xs ys from i h same =
    let n : from + (512 * i - from) ≡ 512 * i = omega arith in
    let x : drop (512 * i) xs ≡ drop (512 * i - from) (drop from xs) = ap (λ k. drop k xs) (sym n) ∙ sym (drop-drop (512 * i - from) from xs) in
    let y : drop (512 * i) ys ≡ drop (512 * i - from) (drop from ys) = ap (λ k. drop k ys) (sym n) ∙ sym (drop-drop (512 * i - from) from ys) in
    ap (take 512) (x ∙ ap (drop (512 * i - from)) same ∙ sym y)

module _ (bytes new : List ℕ) (b : ℕ) (within : b < length bytes / 512) (full : length new ≡ 512) where
  front_length : length (take (512 * b) bytes) ≡ 512 * b
  front_length = length-take-le (512 * b) bytes (omega arith)

  pub overwritten_length : length (overwritten bytes b new) ≡ length bytes
  unfolding overwritten
  overwritten_length = simp (length-append, length-take, length-drop) (omega arith)

  part_same : part (overwritten bytes b new) b ≡ new
  unfolding overwritten
  part_same = ap (take 512) (drop_at (take (512 * b) bytes) (new ++ drop (512 * b + 512) bytes) (512 * b) front_length) ∙ take_at new (drop (512 * b + 512) bytes) 512 full

  part_below : (i : ℕ) → i < b → part (overwritten bytes b new) i ≡ part bytes i
  unfolding overwritten
  part_below i h =
      let fits : 512 * i + 512 ≤ length (take (512 * b) bytes) = omega (arith, front_length) in
      part_front (take (512 * b) bytes) (new ++ drop (512 * b + 512) bytes) i fits
      ∙ sym (part_front (take (512 * b) bytes) (drop (512 * b) bytes) i fits)
      ∙ ap (λ xs. part xs i) (take-append-drop (512 * b) bytes)

  part_above : (i : ℕ) → b < i → part (overwritten bytes b new) i ≡ part bytes i
  unfolding overwritten
  part_above i h =
      let n : length (take (512 * b) bytes ++ new) ≡ 512 * b + 512 = rw length-append (omega (arith, front_length)) in
      let rest = drop (512 * b + 512) bytes in
      let same : drop (512 * b + 512) (take (512 * b) bytes ++ (new ++ rest)) ≡ rest =
      ap (drop (512 * b + 512)) (sym (append_assoc (take (512 * b) bytes) new rest)) ∙ drop_at (take (512 * b) bytes ++ new) rest (512 * b + 512) n in
      part_back (take (512 * b) bytes ++ (new ++ rest)) bytes (512 * b + 512) i (omega arith) same

  -- a store at block b changes that block and nothing else
  pub image_stored : image_blocks (overwritten bytes b new) ≡ set (image_blocks bytes) b (Block.readable new)
  image_stored = ext_get_or Block.unreadable (image_blocks (overwritten bytes b new)) (set (image_blocks bytes) b (Block.readable new)) sizes each
    where
      sizes : length (image_blocks (overwritten bytes b new)) ≡ length (set (image_blocks bytes) b (Block.readable new))
      sizes = image_size (overwritten bytes b new) ∙ ap (λ n. n / 512) overwritten_length ∙ sym (image_size bytes) ∙ sym (length-set (image_blocks bytes) b (Block.readable new))

      each : (i : ℕ) → i < length (image_blocks (overwritten bytes b new)) → block_at (image_blocks (overwritten bytes b new)) i ≡ block_at (set (image_blocks bytes) b (Block.readable new)) i
      each i h =
          let size = image_size (overwritten bytes b new) in
          let long = overwritten_length in
          let in_new : i < length (overwritten bytes b new) / 512 = omega (arith, size) in
          let in_old : i < length bytes / 512 = rw (← long) in_new in
          let got = image_block (overwritten bytes b new) i in_new in
          let other : (i ≢ b) → part (overwritten bytes b new) i ≡ part bytes i → block_at (image_blocks (overwritten bytes b new)) i ≡ block_at (set (image_blocks bytes) b (Block.readable new)) i =
          λ ne e. got ∙ ap Block.readable e ∙ sym (image_block bytes i in_old) ∙ sym (get_or-set_other (image_blocks bytes) b i (Block.readable new) Block.unreadable ne) in
          ⊎_elim
          (λ (e : i ≡ b). let here : b < length (image_blocks bytes) = omega (arith, image_size bytes) in
          got ∙ ap Block.readable (ap (part (overwritten bytes b new)) e ∙ part_same) ∙ sym (ap (block_at (set (image_blocks bytes) b (Block.readable new))) e ∙ get_or-set_same (image_blocks bytes) b (Block.readable new) Block.unreadable here))
          (⊎_elim
          (λ (l : i < b). other (omega arith) (part_below i l))
          (λ (g : b < i). other (omega arith) (part_above i g)))
          (cases_order i b)

  put_part : (k : ℕ) → k ≡ 512 → put_mid (512 * b) k bytes new ≡ overwritten bytes b new
  unfolding overwritten
  put_part k size = ap (λ tail. take (512 * b) bytes ++ (new ++ tail)) (drop-drop k (512 * b) bytes ∙ ap (λ j. drop (512 * b + j) bytes) size)

  -- as the checker writes a Vec after `v[512 * b..512 * b + 512].copy_from_slice(new)`
  pub written : (n k : ℕ) → n ≡ length bytes → k ≡ 512 → take n (put_mid (512 * b) k bytes new ++ drop (length (put_mid (512 * b) k bytes new)) bytes) ≡ overwritten bytes b new
  written n k long size =
      let put = put_part k size in
      let same : length (put_mid (512 * b) k bytes new) ≡ n = ap length put ∙ overwritten_length ∙ sym long in
      take_at (put_mid (512 * b) k bytes new) (drop (length (put_mid (512 * b) k bytes new)) bytes) n same ∙ put
