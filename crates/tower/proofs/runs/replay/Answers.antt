use Rattle.std.proofs.Common.{Err, ap, ◌∙◌}
use Rattle.std.proofs.lemmas.Result.{err_from_is_err_and}
use Rattle.levels.specs.Maps.{power}
use Rattle.levels.specs.Numbering.{map_in}
use Rattle.levels.proofs.Squares.{size_end}
use Rattle.tower.proofs.Taken.{answer_refused, answer_taken}
use Rattle.tower.proofs.Replay.{run_map, run_rest, replayed}
use Rattle.tower.proofs.runs.replay.Goals as goal

pub returns-in_err-map : goal.returns-in_err-map
returns-in_err-map c =
    let p = err_from_is_err_and c.from_residual.result c.from_residual.ensures.1 in
    answer_refused _ _ _ _ _ _ (run_map _ _ _ _ _ c.in_err-map.ensures) (p.1 ∙ ap Err p.2)

pub returns-in_err-check_changes : goal.returns-in_err-check_changes
returns-in_err-check_changes c =
    let p = err_from_is_err_and c.from_residual-in_err-check_changes.result c.from_residual-in_err-check_changes.ensures.1 in
    answer_refused _ _ _ _ _ _ (run_rest _ _ _ _ c.in_ok-map.ensures.0 ∙ c.in_err-check_changes.ensures) (p.1 ∙ ap Err p.2)

pub returns : goal.returns
returns c =
    let o = c.in_ok-map.ensures in
    let e = o.1.side.value in
    let k = c.args.k in
    let one = size_end k in
    let q = o.1.square in
    let built = (rw (q, e, o.1.heights) at c.build.ensures.holds) k one one in
    let made = (rw (q, e) at c.change_all.ensures) (map_in (power k) c.args.heights.now) built in
    answer_taken _ _ _ _ _ (run_rest _ _ _ _ o.0 ∙ c.in_ok-check_changes.ensures) (replayed _ _ _ _ made)
