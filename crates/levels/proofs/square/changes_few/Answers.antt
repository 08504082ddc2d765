use Rattle.levels.proofs.SquareLaws.{changes_few_lem}
use Rattle.levels.proofs.square.changes_few.Goals as goal

pub returns : goal.returns
returns c = changes_few_lem
