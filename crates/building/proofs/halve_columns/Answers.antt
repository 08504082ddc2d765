use Rattle.std.proofs.Common.{refl, arith}
use Rattle.pairs.proofs.Half.{mean_height, difference_in}
use Rattle.pairs.proofs.Exact.{pair_read, read_height, read_difference}
use Rattle.building.proofs.Columns.{pairs_more}
use Rattle.building.proofs.halve_columns.Goals as goal

pub loop-i-preserved : goal.loop-i-preserved
loop-i-preserved c =
    let i = c.loop-i.i in
    let h = c.requires.heights i (omega arith) in
    let e = pair_read _ _ _ _ _ _ refl (c.loop-i.invariant.rest i (omega arith)) h.0 h.1 c.of-pair.ensures.exact in
    pairs_more c.args.upper.now c.args.lower.now c.loop-i.lower c.loop-i.out i _ _ (omega arith) (omega arith)
    (read_height _ _ e.0 (mean_height _ _ h.0 h.1)) (read_difference _ _ e.1 (difference_in _ _ h.0 h.1)) c.loop-i.invariant
