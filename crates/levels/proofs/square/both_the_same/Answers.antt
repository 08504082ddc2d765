use Rattle.levels.proofs.Squares.{both_the_same_lem}
use Rattle.levels.proofs.square.both_the_same.Goals as goal

pub returns : goal.returns
returns c = both_the_same_lem
