use Rattle.sessions.proofs.Lines.{line_more, no_more}
use Rattle.sessions.proofs.Session.run.Goals as goal

pub loop-line-preserved : goal.loop-line-preserved
loop-line-preserved c = line_more c.loop-line.invariant c.in-Some.ensures.steps (λ s o. c.in_ok-take_line.ensures s o)

pub returns : goal.returns
returns c = no_more c.loop-line.invariant c.in-None.ensures.steps.0
