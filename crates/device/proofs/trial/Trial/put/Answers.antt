use Rattle.std.proofs.Common.{set, vec_items, ap, ◌∙◌}
use Rattle.device.specs.Blocks.{Block}
use Rattle.device.specs.Trials.{masked}
use Rattle.device.specs.Images.{image_blocks}
use Rattle.device.proofs.Trials.{masked_put, stored_below, overwrites_done, has_mark, has_block}
use Rattle.device.proofs.trial.Trial.put.Goals as goal

pub index_mut-requires : goal.index_mut-requires
index_mut-requires c = has_mark c.args.self.now c.args.b c.requires

pub returns-clause-after : goal.returns-clause-after
returns-clause-after c =
    let t = c.args.self.now in
    let b = c.args.b in
    let new = c.args.bytes.now in
    let marks = vec_items t.marks in
    ap (λ xs. masked xs (set marks b 0)) (stored_below (image_blocks (vec_items t.image.bytes)) b new c.store.result _ (has_block t b c.requires) c.store.ensures.stores)
    ∙ masked_put (image_blocks (vec_items t.image.bytes)) marks b (Block.readable new)

pub returns-clause-contents : goal.returns-clause-contents
returns-clause-contents c =
    let t = c.args.self.now in
    let b = c.args.b in
    ap (λ xs. (xs, set (vec_items t.marks) b 0)) (overwrites_done (vec_items t.image.bytes) b c.args.bytes.now c.store.result _ (has_block t b c.requires) c.store.ensures.exact)
