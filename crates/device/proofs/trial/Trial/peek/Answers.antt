use Rattle.std.proofs.Common.{◌<◌, true, length, vec_items, sym, refl, ◌∙◌, arith}
use Rattle.std.proofs.lemmas.List.{get_or_read_under}
use Rattle.device.specs.Images.{image_blocks}
use Rattle.device.specs.Trials.{trial_blocks}
use Rattle.device.proofs.Trials.{has_mark, hidden, read_through}
use Rattle.device.proofs.trial.Trial.peek.Goals as goal

pub index-requires : goal.index-requires
index-requires c = has_mark c.args.self.now c.args.b (omega arith)

pub returns-then-index-ne0 : goal.returns-then-index-ne0
returns-then-index-ne0 c =
    let t = c.args.self.now in
    let b = c.args.b in
    let within : b < length (trial_blocks t) = omega arith in
    let mark = get_or_read_under (vec_items t.marks) b t.marks.len c.index.result.now 0 c.index.ensures (has_mark t b within) t.marks.ok.0 in
    (within, refl, hidden (image_blocks (vec_items t.image.bytes)) (vec_items t.marks) b within (λ e. c.if-index-ne0.true (mark ∙ e)), refl)

pub returns-else-index-ne0 : goal.returns-else-index-ne0
returns-else-index-ne0 c =
    let t = c.args.self.now in
    let b = c.args.b in
    let within : b < length (trial_blocks t) = omega arith in
    let mark = get_or_read_under (vec_items t.marks) b t.marks.len c.index.result.now 0 c.index.ensures (has_mark t b within) t.marks.ok.0 in
    read_through (image_blocks (vec_items t.image.bytes)) (vec_items t.marks) b within true c.read.result c.args.buffer.now c.read.new.buffer refl (sym mark ∙ c.if-index-ne0.false) c.read.ensures
