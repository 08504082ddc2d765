use Rattle.std.proofs.Common.{rules}
use Rattle.tower.proofs.Sides.{side_told}
use Rattle.tower.proofs.checks.side_of.Goals as goal

pub returns : goal.returns
returns c = side_told _ _ _ (search rules) c.ok_or.ensures.value
