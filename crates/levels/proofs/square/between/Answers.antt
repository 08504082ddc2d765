use Rattle.levels.proofs.SquareLaws.{between_lem}
use Rattle.levels.proofs.square.between.Goals as goal

pub returns : goal.returns
returns c = between_lem
