-- Both round trips of a root block.
use Rattle.std.proofs.Common.{◌≡◌, ℕ, ◌+◌, ◌*◌, ◌/◌, ◌%◌, ◌^◌, ◌<◌, ◌≤◌, true, false, cond, ◌&&◌, eqb, ltb, List, [], ◌∷◌, length, get_or, Some, sym, refl, ap, ◌∙◌, ap₂, arith}
use Rattle.std.proofs.lemmas.List.FromFn.{fill_by_all}
use Rattle.std.proofs.lemmas.Bool.{and_parts, ltb-true, ne_eqb}
use Rattle.map.specs.Addresses.{cylinder_of, root_place}
use Rattle.map.specs.ByteLaws.{number_of_le4, identified_again}
use Rattle.map.specs.Bytes.{le4, number4, placed}
use Rattle.map.specs.Checked.{checked_bytes, checked_back}
use Rattle.map.specs.Entries.{kind_number, kind_of}
use Rattle.map.specs.EntryLaws.{kind_back}
use Rattle.map.specs.Identifiers.{is_tag, is_identifier, identified}
use Rattle.object.specs.Roots.{zeros, encoded_root, fits_root, addresses_in, read_live, read_root_block, decoded_root, Formed, RootsReturn}
use Rattle.object.specs.Words.{word_at, bytes_of}
use Rattle.object.specs.declared.root.Root.{Root}
use Rattle.object.specs.declared.root.RootBlock.{RootBlock}
use Rattle.object.specs.declared.root.RootBlock.TheVariants.{Dead, Live}
use Rattle.object.proofs.Placing.{placed_length, placed_below, placed_inside, number_inside, number_below}
use Rattle.object.proofs.WordLaws.{bytes_long, low_byte, high_byte, word_of_le2}

zeros_long : length zeros ≡ 512
unfolding zeros
zeros_long = refl

-- the layers of a live root block, each put over the one before
module _ (root : Root) (proper : is_identifier root.id.tag root.id.root ≡ true) (many : length root.blocks ≡ 64)
    (short : (i : ℕ) → get_or root.blocks i 0 < 2 ^ 16) where
  tagged : List ℕ
  tagged = placed 0 (le4 root.id.tag) zeros

  rooted : List ℕ
  rooted = placed 4 (le4 root.id.root) tagged

  kinded : List ℕ
  kinded = placed 8 (kind_number root.kind ∷ []) rooted

  pairs : length (bytes_of root.blocks) ≡ 128
  pairs = bytes_long root.blocks ∙ ap (λ n. 2 * n) many

  tagged_long : length tagged ≡ 512
  unfolding tagged
  tagged_long = placed_length 0 (le4 root.id.tag) zeros (omega (arith, zeros_long)) ∙ zeros_long

  rooted_long : length rooted ≡ 512
  unfolding rooted
  rooted_long = placed_length 4 (le4 root.id.root) tagged (omega (arith, tagged_long)) ∙ tagged_long

  kinded_long : length kinded ≡ 512
  unfolding kinded
  kinded_long = placed_length 8 (kind_number root.kind ∷ []) rooted (omega (arith, rooted_long)) ∙ rooted_long

  room : 16 + length (bytes_of root.blocks) ≤ length kinded
  room = omega (arith, pairs, kinded_long)

  block : List ℕ
  block = placed 16 (bytes_of root.blocks) kinded

  tag_number : number4 block 0 ≡ number4 (le4 root.id.tag) 0
  unfolding block kinded rooted tagged
  tag_number =
      number_below 16 (bytes_of root.blocks) kinded room 0 (omega arith)
      ∙ number_below 8 (kind_number root.kind ∷ []) rooted (omega (arith, rooted_long)) 0 (omega arith)
      ∙ number_below 4 (le4 root.id.root) tagged (omega (arith, tagged_long)) 0 (omega arith)
      ∙ number_inside 0 (le4 root.id.tag) zeros (omega (arith, zeros_long)) 0 (omega arith)

  root_number : number4 block 4 ≡ number4 (le4 root.id.root) 0
  unfolding block kinded rooted
  root_number =
      number_below 16 (bytes_of root.blocks) kinded room 4 (omega arith)
      ∙ number_below 8 (kind_number root.kind ∷ []) rooted (omega (arith, rooted_long)) 4 (omega arith)
      ∙ number_inside 4 (le4 root.id.root) tagged (omega (arith, tagged_long)) 0 (omega arith)

  kind_byte : get_or block 8 0 ≡ kind_number root.kind
  unfolding block kinded
  kind_byte =
      placed_below 16 (bytes_of root.blocks) kinded room 8 (omega arith)
      ∙ placed_inside 8 (kind_number root.kind ∷ []) rooted (omega (arith, rooted_long)) 0 (omega arith)

  address_back : (i : ℕ) → i < 64 → get_or root.blocks i 0 ≡ word_at block (8 + i)
  unfolding block
  address_back i h =
      let low : get_or block (2 * (8 + i)) 0 ≡ get_or root.blocks i 0 % 256 =
      ap (λ n. get_or block n 0) (omega arith) ∙ placed_inside 16 (bytes_of root.blocks) kinded room (2 * i) (omega (arith, pairs)) ∙ low_byte root.blocks i (omega arith) in
      let high : get_or block (2 * (8 + i) + 1) 0 ≡ get_or root.blocks i 0 / 256 % 256 =
      ap (λ n. get_or block n 0) (omega arith) ∙ placed_inside 16 (bytes_of root.blocks) kinded room (2 * i + 1) (omega (arith, pairs)) ∙ high_byte root.blocks i (omega arith) in
      sym (ap₂ (λ x y. x + y * 256) low high ∙ word_of_le2 (get_or root.blocks i 0) (short i))

  addresses_back : addresses_in block ≡ root.blocks
  unfolding addresses_in
  addresses_back = sym (fill_by_all (λ i. word_at block (8 + i)) root.blocks 64 0 many address_back)

  tag_there : eqb (number4 block 0) 0 ≡ false
  tag_there =
      let names = and_parts (is_tag root.id.tag && root_place root.id.root) (ltb (cylinder_of root.id.root) 64) proper in
      let tags = and_parts (ltb 0 root.id.tag) (ltb root.id.tag (2 ^ 32)) (and_parts (is_tag root.id.tag) (root_place root.id.root) names.0).0 in
      let same : number4 block 0 ≡ root.id.tag = tag_number ∙ number_of_le4 root.id.tag (ltb-true root.id.tag (2 ^ 32) tags.1) in
      ne_eqb (number4 block 0) 0 (λ e. omega (arith, ltb-true 0 root.id.tag tags.0, same))

  pub live_back : read_root_block (encoded_root (Live root)) ≡ Some (Live root)
  unfolding block kinded rooted tagged
  live_back =
      let named : identified (number4 block 0) (number4 block 4) ≡ Some root.id = ap₂ identified tag_number root_number ∙ identified_again root.id proper in
      let sort : kind_of (get_or block 8 0) ≡ Some root.kind = ap kind_of kind_byte ∙ kind_back root.kind in
      ap (λ t. cond t (Some Dead) (read_live (identified (number4 block 0) (number4 block 4)) (kind_of (get_or block 8 0)) (addresses_in block))) tag_there
      ∙ ap₂ (λ id k. read_live id k (addresses_in block)) named sort
      ∙ ap (λ xs. Some (Live (record { id = root.id; kind = root.kind; blocks = xs }))) addresses_back

dead_back : read_root_block (encoded_root Dead) ≡ Some Dead
unfolding zeros
dead_back = refl

root_back : (cylinders a : ℕ) (root : RootBlock) → Formed root → fits_root cylinders a root ≡ true → decoded_root cylinders a (encoded_root root) ≡ Some root
root_back cylinders a Dead formed fits = checked_back (fits_root cylinders a) encoded_root (read_root_block (encoded_root Dead)) Dead dead_back fits
root_back cylinders a (Live root) formed fits =
    checked_back (fits_root cylinders a) encoded_root (read_root_block (encoded_root (Live root))) (Live root) (live_back root formed.0 formed.1 formed.2) fits

pub roots_return : RootsReturn
roots_return = record {
  bytes = λ cylinders a block root is. checked_bytes (fits_root cylinders a) encoded_root block (read_root_block block) root is;
  roots = root_back;
}
