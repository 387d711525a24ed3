use Rattle.std.proofs.Common.{◌≡◌, Ok, sym, ap, ◌∙◌, arith}
use Rattle.allocation.specs.Choosing.{first_of, found_at}
use Rattle.volume.specs.Volume.{cylinders_of}
use Rattle.allocation.proofs.Firsts.{first_none, first_more, first_answer, no_answer, same_found}
use Rattle.allocation.proofs.search.choose.Goals as goal

pub loop-k-init : goal.loop-k-init
loop-k-init g c ready = first_none (found_at (g.W.Wanted.passes c.args.wanted.now) c.args.start (g.D.Device.blocks c.args.device.now))

pub returns-then-is_some : goal.returns-then-is_some
returns-then-is_some g c ready =
    let blocks = g.D.Device.blocks c.args.device.now in
    let fits = g.W.Wanted.passes c.args.wanted.now in
    let found = c.in_ok-found.found in
    let all : c.cylinders-n.result ≡ cylinders_of blocks = omega (arith, ready.few, c.cylinders-n.ensures) in
    let is = same_found fits blocks c.args.start c.loop-k.k c.next_cylinder.result c.cylinders-n.result found all c.next_cylinder.ensures (c.in_ok-found.ensures ready) in
    ap Ok (sym (first_answer (found_at fits c.args.start blocks) (cylinders_of blocks) c.loop-k.k found (omega (arith, all)) (c.loop-k.invariant ready) (sym is) (sym c.if-is_some.ensures)))

pub loop-k-preserved : goal.loop-k-preserved
loop-k-preserved g c ready =
    let blocks = g.D.Device.blocks c.args.device.now in
    let fits = g.W.Wanted.passes c.args.wanted.now in
    let found = c.in_ok-found.found in
    let all : c.cylinders-n.result ≡ cylinders_of blocks = omega (arith, ready.few, c.cylinders-n.ensures) in
    let is = same_found fits blocks c.args.start c.loop-k.k c.next_cylinder.result c.cylinders-n.result found all c.next_cylinder.ensures (c.in_ok-found.ensures ready) in
    first_more (found_at fits c.args.start blocks) c.loop-k.k (c.loop-k.invariant ready) (sym is ∙ no_answer found (sym c.if-is_some.ensures))

pub returns : goal.returns
returns g c ready =
    let blocks = g.D.Device.blocks c.args.device.now in
    let f = found_at (g.W.Wanted.passes c.args.wanted.now) c.args.start blocks in
    let all : c.loop-k.k ≡ cylinders_of blocks = omega (arith, ready.few, c.cylinders-n.ensures) in
    ap Ok (sym (c.loop-k.invariant ready) ∙ ap (first_of f) all)
