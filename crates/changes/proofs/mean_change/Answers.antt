use Rattle.changes.proofs.Raising.{mean_bits}
use Rattle.changes.proofs.mean_change.Goals as goal

pub returns : goal.returns
returns c hb a b e = mean_bits a b c.args.difference c.args.by c.ranges.difference c.ranges.by hb e
