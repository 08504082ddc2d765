use Rattle.levels.proofs.SquareLaws.{shows_held_lem}
use Rattle.levels.proofs.square.shows_held.Goals as goal

pub returns : goal.returns
returns c = shows_held_lem
