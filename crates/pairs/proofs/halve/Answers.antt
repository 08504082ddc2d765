use Rattle.pairs.proofs.Exact.{shift_bits}
use Rattle.pairs.proofs.halve.Goals as goal

pub returns : goal.returns
returns c = shift_bits c.args.x c.ranges.x
