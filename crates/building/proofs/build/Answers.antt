use Rattle.std.proofs.Common.{◌+◌, ◌*◌, ◌/◌, ◌≤◌, ◌≢◌, pos, refl, ◌∙◌, mul-le-mul, arith}
use Rattle.std.proofs.lemmas.List.{get_or-set_same, get_or-set_other}
use Rattle.pairs.proofs.Exact.{read_height}
use Rattle.levels.specs.Numbering.{map_in}
use Rattle.maps.specs.Rows.{line}
use Rattle.building.proofs.Rows.{widths}
use Rattle.building.proofs.Steps.{one_built, means_heights, rows_built, rest_across}
use Rattle.building.proofs.build.Goals as goal

pub returns-then-map-eq2 : goal.returns-then-map-eq2
returns-then-map-eq2 c =
    let m = c.args.map.now in
    let w = m.size.wide in
    let h = m.size.high in
    let some = c.requires.some in
    let one : 1 ≤ w * h = mul-le-mul {n₁ = 1} {m₁ = 1} (omega arith) (omega arith) in
    let e = read_height (line m.heights.now 0) _ refl (m.right 0 (omega arith)) in
    record {
      rest = λ i hi. let n : i ≢ 0 = omega arith in get_or-set_other c.args.room.now 0 i _ (pos 0) n;
      holds = λ k ew eh. one_built k w h m.heights.now _ (map_in w m.heights.now) (omega arith) (omega arith) (omega arith) (λ x y hx hy. refl) m.right (get_or-set_same c.args.room.now 0 _ (pos 0) (omega arith) ∙ e);
    }

pub step_down-requires : goal.step_down-requires
step_down-requires c =
    let s = c.args.map.now.size in
    let e = widths s.wide s.high in
    let hw : (s.wide + 1) / 2 ≤ 64 = omega arith in
    let hh : (s.high + 1) / 2 ≤ 64 = omega arith in
    let m : (s.wide + 1) / 2 * ((s.high + 1) / 2) ≤ 4096 = mul-le-mul hw hh in
    record { some = (omega arith, c.requires.some); lengths = (omega arith, m); heights = means_heights _ _ _ _ _ c.halve_rows.ensures c.args.map.now.right c.requires.some.0 }

pub returns : goal.returns
returns c =
    let m = c.args.map.now in
    record {
      rest = rest_across _ _ _ _ _ c.halve_rows.ensures _ c.step_down.ensures.rest;
      holds = λ k ew eh. rows_built _ _ _ _ _ c.halve_rows.ensures (map_in m.size.wide m.heights.now) (λ x y hx hy. refl) _ m.right c.step_down.ensures.rest c.step_down.ensures.holds c.step_down.ensures.downs k ew eh (omega arith);
    }
