use Rattle.std.proofs.Common.{Err, ap, ◌∙◌, arith}
use Rattle.std.proofs.lemmas.Result.{err_from_is_err_and}
use Rattle.tower.proofs.Taken.{answer_refused, answer_taken, shown}
use Rattle.tower.proofs.window.Goals as goal

pub returns-in_err-area : goal.returns-in_err-area
returns-in_err-area c =
    let p = err_from_is_err_and c.from_residual.result c.from_residual.ensures.1 in
    answer_refused _ _ _ _ _ _ c.in_err-area.ensures (p.1 ∙ ap Err p.2)

pub returns : goal.returns
returns c =
    let o = c.in_ok-area.ensures in
    answer_taken _ _ _ _ _ o.0 (shown _ _ _ _ _ _ _ _ _ _ o.1 (omega arith) c.show.ensures)
