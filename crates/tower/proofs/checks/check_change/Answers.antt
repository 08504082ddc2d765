use Rattle.std.proofs.Common.{Some, sym, refl, ap, ◌∙◌, ⊎_elim, arith}
use Rattle.std.proofs.lemmas.Result.{err_from_is_err_and}
use Rattle.tower.proofs.Order.{change_levels, change_number, change_off, change_high, change_taken}
use Rattle.tower.proofs.checks.check_change.Goals as goal

pub returns-in_err-side : goal.returns-in_err-side
returns-in_err-side c =
    let p = err_from_is_err_and c.from_residual.result c.from_residual.ensures.1 in
    let o = c.in_err-side.ensures in
    rw (p.1, p.2) (change_levels _ _ _ _ _ o.0 ∙ ap Some (sym o.1))

pub returns-in_err-check_length : goal.returns-in_err-check_length
returns-in_err-check_length c =
    let p = err_from_is_err_and c.from_residual-in_err-check_length.result c.from_residual-in_err-check_length.ensures.1 in
    let s = c.in_ok-side.ensures in
    let o = c.in_err-check_length.ensures in
    rw (p.1, p.2) (change_number _ _ _ _ _ s.levels _ s.value o.0 ∙ ap Some (sym o.1))

pub returns-then-x-side : goal.returns-then-x-side
returns-then-x-side c =
    let s = c.in_ok-side.ensures in
    let o = c.in_ok-check_length.ensures in
    change_off _ _ _ _ _ s.levels _ s.value o (λ hx hy. ⊎_elim (λ q. omega (arith, q)) (λ q. omega (arith, q.1)) c.then-x-side.either)

pub returns-then-height : goal.returns-then-height
returns-then-height c =
    let s = c.in_ok-side.ensures in
    change_high _ _ _ _ _ s.levels _ s.value c.in_ok-check_length.ensures c.if-x-side.false c.if-y-side.false c.if-height.true

pub returns : goal.returns
returns c =
    let s = c.in_ok-side.ensures in
    let n = c.in_ok-check_length.ensures in
    let q = c.square-size.ensures in (
      change_taken _ _ _ _ _ s.levels _ s.value n c.if-x-side.false c.if-y-side.false c.if-height.false,
      record { side = rw q.0 s; square = q.1 ∙ sym q.0; whole = rw q.0 n; place = (refl, refl); height = c.if-height.false },
    )
