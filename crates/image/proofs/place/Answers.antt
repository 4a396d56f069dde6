-- `place`: the parts of the row are the image, and the memory is that image loaded (Loads).
use Rattle.std.proofs.Common.{refl, arith}
use Rattle.image.specs.Rows.{image_of}
use Rattle.image.proofs.Loads.{loaded-is}
use Rattle.image.proofs.place.Goals as goal

pub returns : goal.returns
returns c =
    let r = c.in_ok-parts.parts in
    let o = rw c.in_ok-parts.ensures.ok_part at c.read_row.ensures in
    let l = loaded-is r.body.now r.moved.now _ c.args.memory.now c.args.at r.noughts r.entry _ _ c.write.ensures (omega arith) (omega arith) (omega arith) in
    (image_of r.body.now r.noughts r.entry r.moved.now, o.is_row, o.sound, omega arith, omega arith, l, refl, omega arith)
