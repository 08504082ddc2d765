use Rattle.std.proofs.Common.{◌+◌, ◌*◌, ◌/◌, ◌≤◌, pos, refl, ◌∙◌, mul-le-mul, mul-le-mul_left, arith}
use Rattle.std.proofs.lemmas.List.{get_or-set_same}
use Rattle.pairs.proofs.Exact.{read_height}
use Rattle.maps.specs.Rows.{line}
use Rattle.building.proofs.Rows.{widths}
use Rattle.building.proofs.Columns.{columns_heights, columns_put}
use Rattle.building.proofs.Steps.{heights_part, one_built, out_heights, out_map, downs_there, rest_down, means_heights, rows_built}
use Rattle.building.proofs.+step_across_step_down.Goals as goal

pub step_across-returns-then-size-eq2-clause-holds : goal.step_across-returns-then-size-eq2-clause-holds
step_across-returns-then-size-eq2-clause-holds t c k p ew eh lies =
    let w = c.args.size.wide in
    let h = c.args.size.high in
    let some = c.requires.some in
    let one : 1 ≤ w * h = mul-le-mul {n₁ = 1} {m₁ = 1} (omega arith) (omega arith) in
    let e = read_height (line c.args.scratch.now 0) _ refl (c.requires.heights 0 (omega arith)) in
    one_built k w h c.args.scratch.now _ p (omega arith) (omega arith) (omega arith) lies c.requires.heights (get_or-set_same c.args.room.now 0 _ (pos 0) (omega arith) ∙ e)

pub step_across-returns-then-size-eq2-3-clause-holds : goal.step_across-returns-then-size-eq2-3-clause-holds
step_across-returns-then-size-eq2-3-clause-holds t c = rw (c.if-size-eq2-2.true, c.if-size-eq2-3.true) (λ k p ew eh lies. c.put_quad.ensures.holds k p ew lies)

pub step_across-step_down-requires : goal.step_across-step_down-requires
step_across-step_down-requires t c =
    let some = c.requires.some in
    let e = widths c.args.size.wide c.args.size.high in
    let f = heights_part ((c.args.size.wide + 1) / 2) c.args.size.high in
    (omega arith, ((omega arith, some), ((omega arith, omega arith), means_heights _ _ _ _ _ c.halve_rows.ensures c.requires.heights (omega arith))))

pub step_across-returns-else-size-eq2-2-clause-holds : goal.step_across-returns-else-size-eq2-2-clause-holds
step_across-returns-else-size-eq2-2-clause-holds t c k p ew eh lies =
    let some = c.requires.some in
    rows_built _ _ _ _ _ c.halve_rows.ensures p lies _ c.requires.heights c.step_down.ensures.rest c.step_down.ensures.holds c.step_down.ensures.downs k ew eh (omega arith)

pub step_down-halve_columns-requires-clause-heights : goal.step_down-halve_columns-requires-clause-heights
step_down-halve_columns-requires-clause-heights t c =
    let W = (c.args.size.wide + 1) / 2 in
    let h = c.args.size.high in
    let f = heights_part W h in
    let l : h / 2 ≤ (h + 1) / 2 = omega arith in
    let m = mul-le-mul_left W l in
    let u = c.split_at_mut-upper.ensures in
    columns_heights _ _ _ (W * ((h + 1) / 2)) (W * (h / 2)) u.value u.front_len (omega arith) (omega arith) (W * h) (omega arith) c.requires.heights

pub step_down-step_across-requires : goal.step_down-step_across-requires
step_down-step_across-requires t c =
    let W = (c.args.size.wide + 1) / 2 in
    let h = c.args.size.high in
    let some = c.requires.some in
    let f = heights_part W h in
    let l : h / 2 ≤ (h + 1) / 2 = omega arith in
    let m = mul-le-mul_left W l in
    let long = c.requires.lengths.1 in
    let u = c.split_at_mut-upper.ensures in
    let wide = c.up.ensures.wide in
    let high = c.up.ensures.high in
    (omega arith, ((omega arith, omega arith), ((rw (wide, high) (omega arith), rw (wide, high) (omega arith)), rw (wide, high) (out_heights W h _ _ _ _ (columns_put _ _ _ _ _ u.value u.front_len (omega arith) (omega arith) _ _ _ (omega arith) (omega arith) c.halve_columns.ensures) c.copy_rest.ensures c.requires.heights))))

pub step_down-returns : goal.step_down-returns
step_down-returns t c =
    let W = (c.args.size.wide + 1) / 2 in
    let h = c.args.size.high in
    let f = heights_part W h in
    let l : h / 2 ≤ (h + 1) / 2 = omega arith in
    let m = mul-le-mul_left W l in
    let u = c.split_at_mut-upper.ensures in
    let columns = columns_put _ _ _ (W * ((h + 1) / 2)) (W * (h / 2)) u.value u.front_len (omega arith) (omega arith) _ _ _ (omega arith) (omega arith) c.halve_columns.ensures in
    let built = rw (c.up.ensures.wide, c.up.ensures.high) at c.step_across.ensures in
    record {
      rest = rest_down W h _ _ _ _ columns c.copy_rest.ensures _ built.rest;
      holds = λ k q ew eh parted. built.holds k _ ew eh (out_map W h _ _ _ _ columns c.copy_rest.ensures q parted);
      downs = λ q parted. downs_there W h _ _ _ _ columns c.copy_rest.ensures q parted _ built.rest;
    }
