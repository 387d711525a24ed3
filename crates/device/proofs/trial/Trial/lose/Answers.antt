use Rattle.std.proofs.Common.{vec_items}
use Rattle.device.specs.Images.{image_blocks}
use Rattle.device.proofs.Trials.{masked_lost, has_mark}
use Rattle.device.proofs.trial.Trial.lose.Goals as goal

pub index_mut-requires : goal.index_mut-requires
index_mut-requires c = has_mark c.args.self.now c.args.b c.requires

pub returns-clause-after : goal.returns-clause-after
returns-clause-after c =
    let t = c.args.self.now in
    masked_lost (image_blocks (vec_items t.image.bytes)) (vec_items t.marks) c.args.b
