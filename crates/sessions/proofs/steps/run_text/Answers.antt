use Rattle.sessions.specs.Runs.{session_text}
use Rattle.sessions.proofs.steps.run_text.Goals as goal

pub returns : goal.returns
unfolding session_text
returns c =
    let ran = c.in_ok-run.ensures _ c.new-session.ensures in
    let ended = c.in_ok-end_rows.ensures _ ran.stands in
    rw (ended.says, ran.says, c.new-out.ensures.bytes)
