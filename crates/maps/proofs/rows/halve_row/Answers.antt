use Rattle.std.proofs.Common.{◌≡◌, ◌+◌, ◌*◌, ◌/◌, ◌<◌, ◌≤◌, List, get_or, length, ℤ, pos, sym, ◌∙◌, arith}
use Rattle.pairs.proofs.Half.{mean_height, difference_in}
use Rattle.pairs.proofs.Exact.{pair_read, read_height, read_difference}
use Rattle.levels.specs.Maps.{apart}
use Rattle.levels.proofs.Lines.{up_pair, up_last}
use Rattle.maps.specs.Rows.{line}
use Rattle.maps.proofs.Chunks.{chunk_number, left_number}
use Rattle.maps.proofs.Written.{row_more, row_last}
use Rattle.maps.proofs.rows.halve_row.Goals as goal

pub loop-i-preserved : goal.loop-i-preserved
unfolding apart
loop-i-preserved c =
    let i = c.loop-i.i in
    let row = c.args.row.now in
    let hi : c.loop-i.i < length c.args.row.now / 2 = omega arith in
    let left : (d : List ℤ) → line (get_or c.as_chunks.result.0.now c.loop-i.i d) 0 ≡ line c.args.row.now (2 * c.loop-i.i) = λ d. rw c.as_chunks.ensures.front (chunk_number 2 _ row i 0 _ d hi (omega arith) (omega arith)) in
    let right : (d : List ℤ) → line (get_or c.as_chunks.result.0.now c.loop-i.i d) 1 ≡ line c.args.row.now (2 * c.loop-i.i + 1) = λ d. rw c.as_chunks.ensures.front (chunk_number 2 _ row i 1 _ d hi (omega arith) (omega arith)) in
    let ha = c.requires.heights (2 * i) (omega arith) in
    let hb = c.requires.heights (2 * i + 1) (omega arith) in
    let e = pair_read _ _ _ _ _ _ (left _) (right _) ha hb c.of-pair.ensures.exact in
    row_more row _ _ _ _ i _ (omega arith) (read_height _ _ e.0 (mean_height _ _ ha hb) ∙ sym (up_pair (length row) (line row) i (omega arith))) c.loop-i.invariant
    _ (omega arith) (read_difference _ _ e.1 (difference_in _ _ ha hb))

pub returns-in-Some : goal.returns-in-Some
returns-in-Some c =
    let row = c.args.row.now in
    let p = length row / 2 in
    let some = c.in-Some.ensures.item.3 in
    let odd : 1 ≤ length c.as_chunks.result.1.now = some.0 in
    let ei : c.loop-i.i ≡ length c.args.row.now / 2 = omega arith in
    let ef : length c.as_chunks.result.0.now ≡ length c.args.row.now / 2 = omega arith in
    let em : (length c.args.row.now + 1) / 2 ≡ length c.args.row.now / 2 + 1 = omega arith in
    let alone = left_number row _ p _ c.as_chunks.ensures.back (some.1 (pos 0)) in
    let h = c.requires.heights (2 * p) (omega arith) in
    rw (em, ef) (row_last row _ _ _ _ p _ (omega arith) (read_height _ _ alone h ∙ sym (up_last (length row) (line row) p (omega arith))) (rw ei at c.loop-i.invariant))
