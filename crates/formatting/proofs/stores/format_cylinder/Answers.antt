use Rattle.std.proofs.Common.{◌≡◌, ◌-◌, [], ◌∷◌, take, ap, ◌∙◌, arith}
use Rattle.std.proofs.lemmas.Result.{err_from_is_err_and}
use Rattle.device.specs.PlanLaws.{runs_on}
use Rattle.device.specs.Plans.{wrote}
use Rattle.formatting.proofs.Cylinders.{root_cut}
use Rattle.formatting.proofs.stores.format_cylinder.Goals as goal
use Rattle.formatting.specs.Formatting.{map_write, format_writes}

pub returns-in_err-put_root : goal.returns-in_err-put_root
returns-in_err-put_root g c =
    let d = g.D.Device in
    let gone = c.in_err-put_root.ensures in
    let p = err_from_is_err_and c.from_residual.result c.from_residual.ensures.1 in
    rw p.1 (
      root_cut c.args.index c.args.cylinder c.join.result c.loop-sector.sector (d.blocks c.args.device.now) (d.blocks c.loop-sector.device) (d.blocks c.put_root.new.device) (omega arith) (omega arith) c.join.ensures
          c.loop-sector.invariant.0 gone.0,
      gone.1,
    )

pub returns : goal.returns
returns g c =
    let d = g.D.Device in
    let start = c.args.device.now in
    let mid = c.loop-sector.device in
    let end = c.put_map.new.device in
    let writes = format_writes c.args.index c.args.cylinder in
    let roots : c.loop-sector.sector - 1 ≡ 4 = omega arith in
    runs_on (d.blocks start) (d.blocks mid) (d.blocks end) (d.lit start) (d.lit mid) (d.lit end) (take 4 writes) (map_write c.args.index c.args.cylinder ∷ []) c.put_map.result
    (c.loop-sector.invariant.0 ∙ ap (λ n. wrote (d.blocks start) (take n writes)) roots) c.loop-sector.invariant.1 c.put_map.ensures
