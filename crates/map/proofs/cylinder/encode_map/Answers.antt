use Rattle.std.proofs.Common.{◌≡◌, ◌+◌, ◌-◌, ◌*◌, ◌<◌, length, get_or, refl, ap, ◌∙◌, arith}
use Rattle.map.specs.Entries.{encoded_entry}
use Rattle.map.specs.Maps.{encoded_from}
use Rattle.map.specs.declared.entry.Entry.TheVariants.{Map}
use Rattle.map.specs.MapLaws.{written_length, written_more}
use Rattle.map.proofs.cylinder.encode_map.Goals as goal

pub loop-s-init : goal.loop-s-init
unfolding encoded_from
loop-s-init c = (refl, refl)

pub loop-s-preserved : goal.loop-s-preserved
loop-s-preserved c =
    let block = c.loop-s.block in
    let entries = c.args.entries.now in
    let a = 32 * c.args.cylinder in
    let s = c.loop-s.s in
    let k = 16 * s + 16 - 16 * s in
    let bytes = c.copy_from_slice.new.self in
    let within : s < length entries = omega (arith, c.told-entries) in
    let bytes_are : bytes ≡ encoded_entry (a + s) (get_or entries s Map) =
    c.copy_from_slice.ensures.after ∙ c.encode-bytes.ensures ∙ ap (λ b. encoded_entry b (get_or entries s Map)) c.address.ensures in (
      written_length block bytes entries a s k c.loop-s.invariant.0 (omega arith) within (omega arith) bytes_are,
      written_more block bytes entries a s k c.loop-s.invariant.0 (omega arith) within (omega arith) bytes_are c.loop-s.invariant.1,
    )
