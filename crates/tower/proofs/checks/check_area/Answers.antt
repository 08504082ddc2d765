use Rattle.std.proofs.Common.{refl, sym, ◌∙◌}
use Rattle.std.proofs.lemmas.Result.{err_from_is_err_and}
use Rattle.tower.proofs.Sides.{level_within}
use Rattle.tower.proofs.checks.check_area.Goals as goal

pub returns-in_err-side : goal.returns-in_err-side
returns-in_err-side c =
    let p = err_from_is_err_and c.from_residual.result c.from_residual.ensures.1 in
    rw (p.1, p.2) c.in_err-side.ensures

pub invariant_of-result : goal.invariant_of-result
invariant_of-result c =
    let o = c.in_ok-side.ensures.1 in
    let q = c.square-size.ensures in
    record { room = rw (q.0, q.1) (level_within _ _ _ _ o.level o.side.value o.whole); across = rw q.0 o.across; down = rw q.1 o.down }

pub returns : goal.returns
returns c =
    let o = c.in_ok-side.ensures.1 in
    let q = c.square-size.ensures in (
      c.in_ok-side.ensures.0,
      record { levels = o.levels; level = o.level; side = rw q.0 o.side; square = q.1 ∙ sym q.0; tower = refl; whole = o.whole; from = (refl, refl); extent = (refl, refl); room = o.room },
    )
