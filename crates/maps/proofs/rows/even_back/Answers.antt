use Rattle.std.proofs.Common.{◌+◌, ◌-◌, ◌*◌, ◌/◌, length, arith}
use Rattle.maps.proofs.Back.{part_more}
use Rattle.maps.proofs.rows.even_back.Goals as goal

pub loop-i-preserved : goal.loop-i-preserved
loop-i-preserved c u j hu ej =
    let i = c.loop-i.i in
    part_more 0 (8 * i) (4 * i) (4 * i + 4) (4 * i + 4) 8 _ c.args.means.now c.args.differences.now c.loop-i.row c.four_back.new.row
    (omega arith) (omega arith) (omega arith) (omega arith) (omega arith) c.loop-i.invariant c.four_back.ensures u j (omega arith) ej

pub returns : goal.returns
returns c u j hu ej =
    let w = length c.args.row.now in
    let k = w / 8 in
    part_more 0 (8 * k) (4 * k) (length c.args.means.now) (length c.args.differences.now) (w - 8 * k) _ c.args.means.now c.args.differences.now c.loop-i.row c.rest_back.new.row
    (omega arith) (omega arith) (omega arith) (omega arith) (omega arith) (λ v i hv ei. c.loop-i.invariant v i (omega arith) ei) (λ v i hv ei. c.rest_back.ensures v i (omega arith) ei) u j (omega arith) ej
