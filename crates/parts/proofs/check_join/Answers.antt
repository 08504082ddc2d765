use Rattle.std.proofs.Common.{◌≡◌, suc, ◌-◌, ◌*◌, Some, sym, ap, ◌∙◌, arith}
use Rattle.std.proofs.lemmas.Result.{err_from_is_err_and}
use Rattle.tower.specs.Checks.{places}
use Rattle.parts.proofs.Counts.{places_less, places_four}
use Rattle.parts.proofs.Order.{join_levels, join_level, join_coarse, join_detail, join_room, join_taken}
use Rattle.parts.proofs.check_join.Goals as goal

pub returns-in_err-whole : goal.returns-in_err-whole
returns-in_err-whole c =
    let p = err_from_is_err_and c.from_residual.result c.from_residual.ensures.1 in
    let o = c.in_err-whole.ensures in
    rw (p.1, p.2) (join_levels _ _ _ _ o.0 ∙ ap Some (sym o.1))

pub returns-then-k-eq0 : goal.returns-then-k-eq0
returns-then-k-eq0 c = join_level _ _ _ _ c.in_ok-whole.ensures.levels c.if-k-eq0.true

pub returns-in_err-check_length : goal.returns-in_err-check_length
returns-in_err-check_length c =
    let p = err_from_is_err_and c.from_residual-in_err-check_length.result c.from_residual-in_err-check_length.ensures.1 in
    let s = c.in_ok-whole.ensures in
    let t = c.in_ok-part.ensures in
    let o = c.in_err-check_length.ensures in
    rw (p.1, p.2) (join_coarse _ _ _ _ s.levels c.if-k-eq0.false _ _ s.value t.value o.0 ∙ ap Some (sym o.1))

pub overflow_sub-whole : goal.overflow_sub-whole
overflow_sub-whole c =
    let v = c.in_ok-whole.ensures.value in
    let u = c.in_ok-part.ensures.value in
    let less = places_less c.args.k 1 (omega arith) in
    omega arith

pub overflow_sub-whole-then-detail-whole : goal.overflow_sub-whole-then-detail-whole
overflow_sub-whole-then-detail-whole c =
    let v = c.in_ok-whole.ensures.value in
    let u = c.in_ok-part.ensures.value in
    let less = places_less c.args.k 1 (omega arith) in
    omega arith

pub returns-then-detail-whole : goal.returns-then-detail-whole
returns-then-detail-whole c =
    let s = c.in_ok-whole.ensures in
    let t = c.in_ok-part.ensures in
    rw c.min.ensures (join_detail _ _ _ _ s.levels c.if-k-eq0.false _ _ s.value t.value c.in_ok-check_length.ensures c.if-detail-whole.true)

pub returns-then-room-whole : goal.returns-then-room-whole
returns-then-room-whole c =
    let s = c.in_ok-whole.ensures in
    let t = c.in_ok-part.ensures in
    let q = c.in_ok-check_length.ensures in
    let ne = c.if-k-eq0.false in
    let next : c.args.k ≡ suc (c.args.k - 1) = omega arith in
    let four : places c.args.k ≡ 4 * places (c.args.k - 1) = ap places next ∙ places_four (c.args.k - 1) in
    let v = s.value in
    let u = t.value in (
      join_taken _ _ _ _ s.levels ne _ _ s.value t.value q c.if-detail-whole.false c.if-room-whole.true,
      record { levels = omega arith; coarse = q; detail = omega arith; room = omega arith; few = omega arith },
    )

pub returns-else-room-whole : goal.returns-else-room-whole
returns-else-room-whole c =
    let s = c.in_ok-whole.ensures in
    let t = c.in_ok-part.ensures in
    join_room _ _ _ _ s.levels c.if-k-eq0.false _ _ s.value t.value c.in_ok-check_length.ensures c.if-detail-whole.false c.if-room-whole.false
