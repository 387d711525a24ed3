use Rattle.std.proofs.Common.{◌≡◌, ◌+◌, ◌*◌, sym, ap, ◌∙◌, subst, arith}
use Rattle.device.specs.Blocks.{block_at}
use Rattle.journal.proofs.RootTable.{Tabled, tabled_start, tabled_some, tabled_none, tabled_all}
use Rattle.journal.proofs.finishing.root_entries.Goals as goal
use Rattle.journal.proofs.finishing.root_entries.Goals.{in-Some, in_default}
use Rattle.volume.specs.Volume.{cylinders_of, map_in, map_at, entry_at}

pub loop-cylinder-init : goal.loop-cylinder-init
loop-cylinder-init g c ready = tabled_start (entry_at (g.D.Device.blocks c.args.device.now))

pub loop-cylinder-preserved : goal.loop-cylinder-preserved
loop-cylinder-preserved g c ready =
    let blocks = g.D.Device.blocks c.args.device.now in
    let at = c.loop-cylinder.cylinder in
    let roots = c.loop-cylinder.roots in
    let P = Tabled (entry_at blocks) (at + 1) in
    let read = c.in_ok-entries.ensures ready.on in
    let all : c.cylinders-cylinders.result ≡ cylinders_of blocks = omega (arith, ready.few, c.cylinders-cylinders.ensures) in
    let map : map_at blocks at ≡ c.in_ok-entries.field-0 = ap (λ n. map_in n at (block_at blocks (32 * at))) (sym all) ∙ cc in
    elim c.match-branch-2.branch [
      | in-Some w ↦
          subst P (sym (w.note_roots.ensures (omega (arith, ready.few))) ∙ sym w.roots-is)
          (tabled_some ready at roots w.in-Some.entries (omega arith) (c.loop-cylinder.invariant ready) (map ∙ w.in-Some.is))
      | in_default w ↦ subst P (sym w.roots-is) (tabled_none ready at roots (c.loop-cylinder.invariant ready) (map ∙ w.in_default.is))
    ]

pub returns : goal.returns
returns g c ready = tabled_all ready c.loop-cylinder.cylinder c.loop-cylinder.roots (omega (arith, ready.few)) (c.loop-cylinder.invariant ready)
