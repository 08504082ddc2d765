use Rattle.levels.proofs.Levels.{shows_held_lem}
use Rattle.levels.proofs.shows_held.Goals as goal

pub returns : goal.returns
returns c = shows_held_lem
