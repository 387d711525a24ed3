-- An index entry that is written is read again, and the others stay.
use Rattle.std.proofs.Common.{◌≡◌, ℕ, ◌+◌, ◌%◌, ◌<◌, ◌≤◌, List, length, Some, None, Option, refl, ap, ◌∙◌, ap₂, ⊎_elim, arith}
use Rattle.std.proofs.lemmas.Nat.{mod_below}
use Rattle.std.proofs.lemmas.Bool.{cases_order}
use Rattle.map.specs.ByteLaws.{identified_again}
use Rattle.map.specs.Bytes.{number4}
use Rattle.map.specs.Identifiers.{identified}
use Rattle.map.specs.declared.identifier.Identifier.{Identifier}
use Rattle.object.specs.Indexes.{index_byte, entry_of, identifier_bytes, entered, Proper, EntriesReturn}
use Rattle.object.proofs.Placing.{number_inside, number_below, number_above}

eight : (id : Option Identifier) → length (identifier_bytes id) ≡ 8
eight None = refl
eight (Some id) = refl

-- what eight bytes of an entry name
pub named_again : (id : Option Identifier) → Proper id → identified (number4 (identifier_bytes id) 0) (number4 (identifier_bytes id) 4) ≡ id
named_again None proper = refl
named_again (Some id) proper = identified_again id proper

entry_written : (block : List ℕ) (e : ℕ) (id : Option Identifier) → length block ≡ 512 → Proper id → entry_of (entered block e id) e ≡ id
entry_written block e id long proper =
    let low : e % 64 < 64 = mod_below e 64 (omega arith) in
    let room : index_byte e + length (identifier_bytes id) ≤ length block = omega (arith, eight id) in
    let first : number4 (entered block e id) (index_byte e) ≡ number4 (identifier_bytes id) 0 =
    ap (number4 (entered block e id)) (omega arith) ∙ number_inside (index_byte e) (identifier_bytes id) block room 0 (omega (arith, eight id)) in
    let second : number4 (entered block e id) (index_byte e + 4) ≡ number4 (identifier_bytes id) 4 =
    number_inside (index_byte e) (identifier_bytes id) block room 4 (omega (arith, eight id)) in
    ap₂ identified first second ∙ named_again id proper

entry_other : (block : List ℕ) (e f : ℕ) (id : Option Identifier) → length block ≡ 512 → (f % 64 ≡ e % 64 → ⊥) → entry_of (entered block e id) f ≡ entry_of block f
entry_other block e f id long ne =
    let low : e % 64 < 64 = mod_below e 64 (omega arith) in
    let room : index_byte e + length (identifier_bytes id) ≤ length block = omega (arith, eight id) in
    ⊎_elim
    (λ (same : f % 64 ≡ e % 64). absurd (ne same))
    (⊎_elim
    (λ (l : f % 64 < e % 64). ap₂ identified (number_below (index_byte e) (identifier_bytes id) block room (index_byte f) (omega arith)) (number_below (index_byte e) (identifier_bytes id) block room (index_byte f + 4) (omega arith)))
    (λ (g : e % 64 < f % 64). ap₂ identified (number_above (index_byte e) (identifier_bytes id) block room (index_byte f) (omega (arith, eight id))) (number_above (index_byte e) (identifier_bytes id) block room (index_byte f + 4) (omega (arith, eight id)))))
    (cases_order (f % 64) (e % 64))

pub entries_return : EntriesReturn
entries_return = record { written = entry_written; others = entry_other }
