use Rattle.std.proofs.Common.{ℕ, ◌+◌, ◌-◌, ◌*◌, ◌/◌, ◌<◌, List, ◌++◌, length, take, drop, vec_items, refl, ap, ◌∙◌, ap₂, arith}
use borrow.Rule.Slice.PartMut.{put_mid}
use Rattle.device.specs.Images.{image_blocks}
use Rattle.device.specs.ImageLaws.{image_size}
use Rattle.device.proofs.Images.{written, image_stored}
use Rattle.device.proofs.image.ImageDevice.store.Goals as goal

pub returns : goal.returns
returns c =
    let b = c.args.b in
    let new = c.args.bytes.now in
    let held = c.args.self.now.bytes in
    let bytes = vec_items held in
    let k = 512 * b + 512 - 512 * b in
    let within : b < length bytes / 512 = omega (arith, image_size bytes, c.size.ensures.value) in
    let after = λ (xs ys : List ℕ). take held.len (put_mid (512 * b) k xs ys ++ drop (length (put_mid (512 * b) k xs ys)) bytes) in
    let left = ap₂ after c.deref_mut.ensures.value c.copy_from_slice.ensures.after
    ∙ written bytes new b within c.told-bytes held.len k held.ok.0 (omega arith) in
    record {
      stores = (omega (arith, image_size bytes), refl, refl, ap image_blocks left ∙ image_stored bytes new b within c.told-bytes);
      exact = (within, left);
    }
