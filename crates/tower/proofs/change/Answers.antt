use Rattle.std.proofs.Common.{Err, ap, ◌∙◌, arith, w32}
use Rattle.std.proofs.lemmas.Result.{err_from_is_err_and}
use Rattle.std.proofs.lemmas.Int.{to_z_pos}
use Rattle.tower.proofs.Taken.{answer_refused, answer_taken, changed}
use Rattle.tower.proofs.change.Goals as goal

pub returns-in_err-place : goal.returns-in_err-place
returns-in_err-place c =
    let p = err_from_is_err_and c.from_residual.result c.from_residual.ensures.1 in
    answer_refused _ _ _ _ _ _ c.in_err-place.ensures (p.1 ∙ ap Err p.2)

pub returns : goal.returns
returns c =
    let o = c.in_ok-place.ensures in
    let h = o.1.height in
    answer_taken _ _ _ _ _ o.0 (changed _ _ _ _ c.args.height _ _ _ _ (to_z_pos w32 c.args.height (omega arith)) o.1 (omega arith) c.change.ensures.holds c.change.ensures.rest)
