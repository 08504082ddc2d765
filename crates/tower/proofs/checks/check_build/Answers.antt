use Rattle.std.proofs.Common.{Some, sym, refl, ap, ◌∙◌}
use Rattle.std.proofs.lemmas.Result.{err_from_is_err_and}
use Rattle.tower.proofs.Order.{build_levels, build_number, build_room, build_taken}
use Rattle.tower.proofs.checks.check_build.Goals as goal

pub returns-in_err-side : goal.returns-in_err-side
returns-in_err-side c =
    let p = err_from_is_err_and c.from_residual.result c.from_residual.ensures.1 in
    let o = c.in_err-side.ensures in
    rw (p.1, p.2) (build_levels _ _ _ o.0 ∙ ap Some (sym o.1))

pub returns-in_err-check_map : goal.returns-in_err-check_map
returns-in_err-check_map c =
    let p = err_from_is_err_and c.from_residual-in_err-check_map.result c.from_residual-in_err-check_map.ensures.1 in
    let s = c.in_ok-side.ensures in
    let o = c.in_err-check_map.ensures in
    rw (p.1, p.2) (build_number _ _ _ s.levels _ s.value o.0 o.1 ∙ ap Some (sym o.2))

pub returns-then-room-side : goal.returns-then-room-side
returns-then-room-side c =
    let s = c.in_ok-side.ensures in
    let m = c.in_ok-check_map.ensures in
    build_room _ _ _ s.levels _ s.value m.right c.if-room-side.true

pub returns : goal.returns
returns c =
    let s = c.in_ok-side.ensures in
    let m = c.in_ok-check_map.ensures in
    let q = c.square-size.ensures in
    (build_taken _ _ _ s.levels _ s.value m.right c.if-room-side.false, record { side = rw q.0 s; square = q.1 ∙ sym q.0; heights = refl; whole = rw q.0 m.whole; room = rw q.0 c.if-room-side.false })
