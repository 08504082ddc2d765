use Rattle.levels.proofs.Levels.{shows_all_lem}
use Rattle.levels.proofs.shows_all.Goals as goal

pub returns : goal.returns
returns c = shows_all_lem
