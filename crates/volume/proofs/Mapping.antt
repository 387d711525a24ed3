-- A loop that changes the entries of a map one by one.
--   Mapped   the entries once those before i are changed
use Rattle.std.proofs.Common.{◌≡◌, ℕ, ◌+◌, ◌<◌, List, ◌++◌, map, length, get_or, take, drop, set, ap, ◌∙◌, arith}
use Rattle.std.proofs.lemmas.List.Edits.{map_over_more}
use Rattle.std.proofs.lemmas.List.{length-append, length-map, length-take, length-drop, get_or_default}
use Rattle.map.specs.declared.entry.Entry.{Entry}
use Rattle.map.specs.declared.entry.Entry.TheVariants.{Map}

abbrev pub Mapped : (Entry → Entry) → List Entry → ℕ → List Entry → Type 0
Mapped f start i now = now ≡ map f (take i start) ++ drop i start

pub mapped_more : (f : Entry → Entry) (start : List Entry) (i : ℕ) (now : List Entry) (e : Entry) → Mapped f start i now → i < length start → e ≡ f (get_or now i Map) →
    Mapped f start (i + 1) (set now i e)
mapped_more f start i now e so_far within is =
    let long : length (map f (take i start) ++ drop i start) ≡ length start = simp (length-append, length-map, length-take, length-drop) (omega arith) in
    let here : i < length now = omega (arith, ap length so_far, long) in
    ap (set now i) is ∙ map_over_more f start now i (get_or now i Map) within so_far (get_or_default now i Map (get_or now i Map) here)
