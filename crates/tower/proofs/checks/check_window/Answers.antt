use Rattle.std.proofs.Common.{Some, sym, ap, ◌∙◌, arith}
use Rattle.std.proofs.lemmas.Result.{err_from_is_err_and}
use Rattle.tower.proofs.Order.{window_levels, window_number, window_level, window_off, window_room, window_taken, on_true, both_on, few_places}
use Rattle.tower.proofs.checks.check_window.Goals as goal

pub returns-in_err-whole : goal.returns-in_err-whole
returns-in_err-whole c =
    let p = err_from_is_err_and c.from_residual.result c.from_residual.ensures.1 in
    let o = c.in_err-whole.ensures in
    rw (p.1, p.2) (window_levels _ _ _ _ _ _ _ _ o.0 ∙ ap Some (sym o.1))

pub returns-in_err-check_length : goal.returns-in_err-check_length
returns-in_err-check_length c =
    let p = err_from_is_err_and c.from_residual-in_err-check_length.result c.from_residual-in_err-check_length.ensures.1 in
    let s = c.in_ok-whole.ensures in
    let o = c.in_err-check_length.ensures in
    rw (p.1, p.2) (window_number _ _ _ _ _ _ _ _ s.levels _ s.value o.0 ∙ ap Some (sym o.1))

pub returns-then-level-k : goal.returns-then-level-k
returns-then-level-k c =
    let s = c.in_ok-whole.ensures in
    window_level _ _ _ _ _ _ _ _ s.levels _ s.value c.in_ok-check_length.ensures c.if-level-k.true

pub returns-then-not-on_map : goal.returns-then-not-on_map
returns-then-not-on_map c =
    let t = c.in_ok-whole.ensures in
    let s = c.in_ok-side.ensures in
    window_off _ _ _ _ _ _ _ _ t.levels _ t.value c.in_ok-check_length.ensures c.if-level-k.false _ s.value (sym c.if-not-on_map.ensures)

pub overflow_mul-wide : goal.overflow_mul-wide
overflow_mul-wide c =
    let s = c.in_ok-side.ensures in
    let b = both_on _ _ _ _ _ c.if-not-on_map.ensures in
    let x = on_true _ _ _ b.0 in
    let y = on_true _ _ _ b.1 in
    omega (arith, few_places _ _ _ _ _ s.small x.1 y.1)

pub returns-then-room-wide : goal.returns-then-room-wide
returns-then-room-wide c =
    let t = c.in_ok-whole.ensures in
    let s = c.in_ok-side.ensures in
    let n = c.in_ok-check_length.ensures in
    let b = both_on _ _ _ _ _ c.if-not-on_map.ensures in (
      window_taken _ _ _ _ _ _ _ _ t.levels _ t.value n c.if-level-k.false _ s.value b.0 b.1 c.if-room-wide.true,
      record { levels = t.levels; level = c.if-level-k.false; side = s; whole = rw t.value at n; across = (on_true _ _ _ b.0).1; down = (on_true _ _ _ b.1).1; room = c.if-room-wide.true },
    )

pub returns-else-room-wide : goal.returns-else-room-wide
returns-else-room-wide c =
    let t = c.in_ok-whole.ensures in
    let s = c.in_ok-side.ensures in
    let b = both_on _ _ _ _ _ c.if-not-on_map.ensures in
    window_room _ _ _ _ _ _ _ _ t.levels _ t.value c.in_ok-check_length.ensures c.if-level-k.false _ s.value b.0 b.1 c.if-room-wide.false
