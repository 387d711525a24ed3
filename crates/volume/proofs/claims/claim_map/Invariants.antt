use Rattle.std.proofs.Common.{◌≡◌, ◌+◌, ◌*◌, drop}
use Rattle.volume.specs.ClaimTable.{claimed_from, first_doubled}
use Rattle.volume.specs.Search.{or_else}
use Rattle.volume.specs.Tables.{table_entries}
use Rattle.volume.proofs.claims.claim_map.Given as goal

abbrev pub invariant-loop-s : goal.invariant-loop-s
invariant-loop-s l =
    let E = table_entries l.roots in
    (claimed_from E (32 * l.cylinder + l.s) (drop l.s l.entries) l.table ≡ claimed_from E (32 * l.cylinder) l.entries l.initial.table)
    × (or_else l.first (first_doubled E (32 * l.cylinder + l.s) (drop l.s l.entries) l.table) ≡ first_doubled E (32 * l.cylinder) l.entries l.initial.table)
