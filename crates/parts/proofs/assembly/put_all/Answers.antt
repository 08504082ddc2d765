use Rattle.std.proofs.Common.{◌≡◌, ◌+◌, ◌-◌, length, get_or, arith}
use Rattle.parts.proofs.Gaps.{no_part}
use Rattle.parts.proofs.Filling.{part_fits, part_length, part_put, all_put}
use Rattle.parts.proofs.assembly.put_all.Goals as goal

pub slice_bounds-copy_from_slice-end : goal.slice_bounds-copy_from_slice-end
slice_bounds-copy_from_slice-end c =
    let o = c.loop-part.invariant in
    let fits = part_fits c.args.parts.now c.loop-part.part-index c.loop-part.at c.loop-part.room o.0 o.1 o.2 c.loop-part-test.true in
    fits

pub loop-part-preserved : goal.loop-part-preserved
loop-part-preserved c =
    let o = c.loop-part.invariant in
    let t = (get_or c.args.parts.now c.loop-part.part-index no_part).now in
    let more : c.loop-part.at + length t - c.loop-part.at ≡ length t = omega arith in
    let fits = part_fits c.args.parts.now c.loop-part.part-index c.loop-part.at c.loop-part.room o.0 o.1 o.2 c.loop-part-test.true in
    let same = part_length c.args.parts.now c.loop-part.part-index c.loop-part.at c.loop-part.room o.0 o.1 o.2 c.loop-part-test.true (c.loop-part.at + length t - c.loop-part.at) c.copy_from_slice.new.self more c.copy_from_slice.ensures.after in
    (omega arith, omega arith, part_put c.args.parts.now c.loop-part.part-index c.loop-part.at c.loop-part.room o.0 o.1 o.2 c.loop-part-test.true (c.loop-part.at + length t - c.loop-part.at) c.copy_from_slice.new.self more c.copy_from_slice.ensures.after)

pub returns : goal.returns
returns c =
    let o = c.loop-part.invariant in
    all_put c.args.parts.now c.loop-part.part-index c.loop-part.at c.loop-part.room o.0 o.1 o.2 (omega arith)
