use Rattle.std.proofs.Common.{◌∙◌, arith}
use Rattle.std.proofs.lemmas.Result.{err_from_is_err_and}
use Rattle.tower.proofs.Replay.{refusal_step, refusal_here, refusal_none}
use Rattle.tower.proofs.runs.check_changes.Goals as goal

pub returns-in_err-check_change : goal.returns-in_err-check_change
returns-in_err-check_change c =
    let p = err_from_is_err_and c.from_residual.result c.from_residual.ensures.1 in
    rw (p.1, p.2) (c.loop-change.invariant ∙ refusal_here c.args.k c.args.tower c.args.changes.now c.loop-change.change-index _ _ (omega arith) c.in_err-check_change.ensures)

pub loop-change-preserved : goal.loop-change-preserved
loop-change-preserved c = c.loop-change.invariant ∙ refusal_step c.args.k c.args.tower c.args.changes.now c.loop-change.change-index _ (omega arith) c.in_ok-check_change.ensures.0

pub returns : goal.returns
returns c = c.loop-change.invariant ∙ refusal_none c.args.k c.args.tower c.args.changes.now c.loop-change.change-index (omega arith)
