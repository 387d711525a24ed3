-- One element of a list more, and the end of the list.
use Rattle.std.proofs.Common.{◌≡◌, ℕ, ◌+◌, ◌<◌, ◌≤◌, Bool, List, length, get_or, drop, ap, ◌∙◌, ap₂, arith}
use Rattle.std.proofs.lemmas.List.{at_drop_more, at_drop_all}
use Rattle.map.specs.declared.entry.Entry.{Entry}
use Rattle.map.specs.declared.entry.Entry.TheVariants.{Map}
use Rattle.map.specs.declared.identifier.Identifier.{Identifier}
use Rattle.object.specs.declared.root.RootBlock.{RootBlock}
use Rattle.rebuild.specs.declared.lost_map.LostMap.{LostMap}
use Rattle.rebuild.specs.Noting.{bit_noted, bits_noted}
use Rattle.rebuild.specs.Taking.{held_in, held_from, twice_in, twice_from}

module _ (c : ℕ) (id : Identifier) (i : ℕ) (xs : List ℕ) (es : List Entry) where
  pub more_held : i < length xs → held_from c id i (drop i xs) es ≡ held_from c id (i + 1) (drop (i + 1) xs) (held_in c id i (get_or xs i 0) es)
  unfolding held_from
  more_held within = at_drop_more (λ ys. held_from c id i ys es) xs i 0 within

  pub all_held : length xs ≤ i → held_from c id i (drop i xs) es ≡ es
  unfolding held_from
  all_held past = at_drop_all (λ ys. held_from c id i ys es) xs i past

  pub more_twice : (ts : List Bool) → i < length xs →
      twice_from c id i (drop i xs) es ts ≡ twice_from c id (i + 1) (drop (i + 1) xs) (held_in c id i (get_or xs i 0) es) (twice_in c (get_or xs i 0) es ts)
  unfolding twice_from
  more_twice ts within = at_drop_more (λ ys. twice_from c id i ys es ts) xs i 0 within

  pub all_twice : (ts : List Bool) → length xs ≤ i → twice_from c id i (drop i xs) es ts ≡ ts
  unfolding twice_from
  all_twice ts past = at_drop_all (λ ys. twice_from c id i ys es ts) xs i past

module _ (c : ℕ) (bs : List RootBlock) (b i : ℕ) (others es : List Entry) where
  pub more_noted : i < length others →
      bits_noted c bs (b + i) (drop i others) es ≡ bits_noted c bs (b + (i + 1)) (drop (i + 1) others) (bit_noted c bs (b + i) (get_or others i Map) es)
  unfolding bits_noted
  more_noted within =
      at_drop_more (λ ys. bits_noted c bs (b + i) ys es) others i Map within
      ∙ ap (λ a. bits_noted c bs a (drop (i + 1) others) (bit_noted c bs (b + i) (get_or others i Map) es)) (omega arith)

  pub all_noted : length others ≤ i → bits_noted c bs (b + i) (drop i others) es ≡ es
  unfolding bits_noted
  all_noted past = at_drop_all (λ ys. bits_noted c bs (b + i) ys es) others i past

-- the lost map once the addresses of a list are held, or the entries of a list noted
abbrev pub holding : Identifier → ℕ → List ℕ → LostMap → LostMap
holding id p xs m = record m { entries = held_from m.cylinder id p xs m.entries; twice = twice_from m.cylinder id p xs m.entries m.twice }

abbrev pub noting : ℕ → List Entry → LostMap → LostMap
noting b others m = record m { entries = bits_noted m.cylinder m.places b others m.entries }

module _ (id : Identifier) (i : ℕ) (xs : List ℕ) (m : LostMap) where
  pub more_holding : i < length xs → holding id i (drop i xs) m ≡ holding id (i + 1) (drop (i + 1) xs)
      (record m { entries = held_in m.cylinder id i (get_or xs i 0) m.entries; twice = twice_in m.cylinder (get_or xs i 0) m.entries m.twice })
  more_holding within =
      ap₂ (λ es ts. record m { entries = es; twice = ts }) (more_held m.cylinder id i xs m.entries within) (more_twice m.cylinder id i xs m.entries m.twice within)

  pub all_holding : length xs ≤ i → holding id i (drop i xs) m ≡ m
  all_holding past =
      ap₂ (λ es ts. record m { entries = es; twice = ts }) (all_held m.cylinder id i xs m.entries past) (all_twice m.cylinder id i xs m.entries m.twice past)

module _ (b i : ℕ) (others : List Entry) (m : LostMap) where
  pub more_noting : i < length others → noting (b + i) (drop i others) m ≡ noting (b + (i + 1)) (drop (i + 1) others)
      (record m { entries = bit_noted m.cylinder m.places (b + i) (get_or others i Map) m.entries })
  more_noting within = ap (λ es. record m { entries = es }) (more_noted m.cylinder m.places b i others m.entries within)

  pub all_noting : length others ≤ i → noting (b + i) (drop i others) m ≡ m
  all_noting past = ap (λ es. record m { entries = es }) (all_noted m.cylinder m.places b i others m.entries past)
