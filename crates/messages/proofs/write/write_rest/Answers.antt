use Rattle.messages.proofs.Rows.{rest_more, rest_end}
use Rattle.messages.proofs.write.write_rest.Goals as goal

pub loop-number-preserved : goal.loop-number-preserved
loop-number-preserved c = rest_more _ _ _ _ _ c.loop-number-test.true c.in_ok-write.ensures.bytes c.loop-number.invariant

pub returns : goal.returns
returns c = rest_end c.write-2.result _ _ _ _ _ c.loop-number-test.false c.write-2.ensures.bytes c.loop-number.invariant
