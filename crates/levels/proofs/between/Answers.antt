use Rattle.levels.proofs.Bounds.{between_lem}
use Rattle.levels.proofs.between.Goals as goal

pub returns : goal.returns
returns c = between_lem
