use Rattle.std.proofs.Common.{◌+◌, ◌*◌, ◌/◌, ◌<◌, ◌≤◌, length, arith, rules}
use Rattle.levels.specs.Numbering.{map_in}
use Rattle.building.proofs.Rows.{row_before, row_within, widths, row_length, row_line, row_put, rows_more}
use Rattle.building.proofs.halve_rows.Goals as goal

pub halve_row-requires-clause-heights : goal.halve_row-requires-clause-heights
unfolding map_in
halve_row-requires-clause-heights c =
    let map = c.args.map.now in
    let w = c.args.size.wide in
    let h = c.args.size.high in
    let y = c.loop-y.y in
    let hy : c.loop-y.y < c.args.size.high = omega arith in
    let a = row_within w h y hy in
    let end : y * w + w ≤ length map = omega arith in
    let l = row_length map w y end in
    λ u hu. let hw : u < w = rw l at hu in rw (row_line map w y end u hw) (c.requires.heights (y * w + u) (omega arith))

pub slice_bounds-halve_row-end-in-loop-y : goal.slice_bounds-halve_row-end-in-loop-y
slice_bounds-halve_row-end-in-loop-y c =
    let w = c.args.size.wide in
    let h = c.args.size.high in
    let y = c.loop-y.y in
    let d = row_before (w / 2) y h (omega arith) in
    let e = widths w h in
    search rules

pub loop-y-preserved : goal.loop-y-preserved
loop-y-preserved c =
    let map = c.args.map.now in
    let w = c.args.size.wide in
    let h = c.args.size.high in
    let y = c.loop-y.y in
    let a = row_within w h y (omega arith) in
    let end : y * w + w ≤ length map = omega arith in
    let b = row_within ((w + 1) / 2) h c.row_to.result c.row_to.ensures.within in
    let d = row_before (w / 2) y h (omega arith) in
    let e = widths w h in
    rows_more map c.args.room.now c.loop-y.room _ w h y c.row_to.result (omega arith) c.row_to.ensures.within c.row_to.ensures.even c.row_to.ensures.odd end
    (row_put map w y end c.loop-y.room _ _ _ _ _ _ _ _ _ _ _ c.halve_row.ensures c.split_at_mut-means.ensures.value c.split_at_mut-means.ensures.front_len (omega arith) (omega arith) (omega arith) (omega arith) (omega arith) (omega arith)) c.loop-y.invariant
