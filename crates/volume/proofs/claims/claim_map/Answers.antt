use Rattle.std.proofs.Common.{◌≡◌, ◌+◌, ◌*◌, ◌<◌, ◌≤◌, cond, not, length, get_or, drop, Some, None, sym, ap, ◌∙◌, ap₂, arith}
use Rattle.map.specs.declared.entry.Entry.TheVariants.{Map}
use Rattle.volume.specs.ClaimTable.{doubled, claimed, claimed_from, first_doubled}
use Rattle.volume.specs.Search.{or_else}
use Rattle.volume.specs.Tables.{table_entries}
use Rattle.volume.proofs.ClaimTable.{more_claimed, more_doubled, first_of_all, none_doubled, all_claimed, found_all}
use Rattle.volume.proofs.claims.claim_map.Goals as goal

pub loop-s-preserved : goal.loop-s-preserved
loop-s-preserved c =
    let E = table_entries c.args.roots.now in
    let entries = c.args.entries.now in
    let table = c.loop-s.table in
    let first = c.loop-s.first in
    let s = c.loop-s.s in
    let start = 32 * c.args.cylinder in
    let e = get_or entries s Map in
    let next = drop (s + 1) entries in
    let within : s < length entries = omega (arith, c.told-entries) in
    let here : c.join-a.result ≡ start + s = c.join-a.ensures in
    let after : c.claim_entry-fresh.new.table ≡ claimed E (start + s) e table =
    c.claim_entry-fresh.ensures.after ∙ ap (λ b. claimed E b e table) here in
    let rest = first_doubled E (start + (s + 1)) next (claimed E (start + s) e table) in
    let found : c.first_of-first.result ≡ or_else first (cond (not (doubled E e table)) None (Some (start + s))) =
    c.first_of-first.ensures ∙ ap₂ (λ t b. or_else first (cond t None (Some b))) c.claim_entry-fresh.ensures.value here in (
      ap (claimed_from E (start + (s + 1)) next) after ∙ sym (more_claimed E start s entries table within) ∙ c.loop-s.invariant.0,
      ap₂ or_else found (ap (first_doubled E (start + (s + 1)) next) after)
          ∙ first_of_all first (doubled E e table) (start + s) rest
          ∙ ap (or_else first) (sym (more_doubled E start s entries table within))
          ∙ c.loop-s.invariant.1,
    )

pub returns : goal.returns
returns c =
    let E = table_entries c.args.roots.now in
    let entries = c.args.entries.now in
    let a = 32 * c.args.cylinder + c.loop-s.s in
    let past : length entries ≤ c.loop-s.s = omega (arith, c.told-entries) in
    record {
      value = sym (ap (or_else c.loop-s.first) (none_doubled E a c.loop-s.s entries c.loop-s.table past) ∙ found_all c.loop-s.first) ∙ c.loop-s.invariant.1;
      after = sym (all_claimed E a c.loop-s.s entries c.loop-s.table past) ∙ c.loop-s.invariant.0;
    }
