use Rattle.levels.proofs.Bounds.{keeps_slopes_lem}
use Rattle.levels.proofs.keeps_slopes.Goals as goal

pub returns : goal.returns
returns c = keeps_slopes_lem
