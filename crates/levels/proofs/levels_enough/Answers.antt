use Rattle.levels.proofs.Sizes.{levels_enough_lem}
use Rattle.levels.proofs.levels_enough.Goals as goal

pub returns : goal.returns
returns c = levels_enough_lem
