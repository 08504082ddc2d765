use Rattle.levels.proofs.SquareLaws.{shows_all_lem}
use Rattle.levels.proofs.square.shows_all.Goals as goal

pub returns : goal.returns
returns c = shows_all_lem
