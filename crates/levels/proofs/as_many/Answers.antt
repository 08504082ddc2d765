use Rattle.levels.proofs.Sizes.{as_many_lem}
use Rattle.levels.proofs.as_many.Goals as goal

pub returns : goal.returns
returns c = as_many_lem
