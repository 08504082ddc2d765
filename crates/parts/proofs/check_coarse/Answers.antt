use Rattle.std.proofs.Common.{Some, sym, ap, ◌∙◌, arith}
use Rattle.std.proofs.lemmas.Result.{err_from_is_err_and}
use Rattle.parts.proofs.Counts.{places_less}
use Rattle.parts.proofs.Order.{coarse_levels, coarse_number, coarse_level, coarse_taken}
use Rattle.parts.proofs.check_coarse.Goals as goal

pub returns-in_err-whole : goal.returns-in_err-whole
returns-in_err-whole c =
    let p = err_from_is_err_and c.from_residual.result c.from_residual.ensures.1 in
    let o = c.in_err-whole.ensures in
    rw (p.1, p.2) (coarse_levels _ _ _ o.0 ∙ ap Some (sym o.1))

pub returns-in_err-check_length : goal.returns-in_err-check_length
returns-in_err-check_length c =
    let p = err_from_is_err_and c.from_residual-in_err-check_length.result c.from_residual-in_err-check_length.ensures.1 in
    let s = c.in_ok-whole.ensures in
    let o = c.in_err-check_length.ensures in
    rw (p.1, p.2) (coarse_number _ _ _ s.levels _ s.value o.0 ∙ ap Some (sym o.1))

pub returns-then-level-k : goal.returns-then-level-k
returns-then-level-k c =
    let s = c.in_ok-whole.ensures in
    coarse_level _ _ _ s.levels _ s.value c.in_ok-check_length.ensures c.if-level-k.true

pub returns : goal.returns
returns c =
    let s = c.in_ok-whole.ensures in
    let q = c.in_ok-check_length.ensures in
    let t = c.in_ok-part.ensures in
    let v = t.value in
    let w = s.value in
    let less = places_less c.args.k c.args.level c.if-level-k.false in
    (coarse_taken _ _ _ s.levels _ s.value q c.if-level-k.false, record { levels = s.levels; level = c.if-level-k.false; value = t.value; whole = q ∙ s.value; within = omega arith })
