use Rattle.levels.proofs.Touched.{touches_few_lem}
use Rattle.levels.proofs.touches_few.Goals as goal

pub returns : goal.returns
returns c = touches_few_lem
