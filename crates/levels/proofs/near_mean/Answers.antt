use Rattle.levels.proofs.Means.{near_mean_lem}
use Rattle.levels.proofs.near_mean.Goals as goal

pub returns : goal.returns
returns c = near_mean_lem
