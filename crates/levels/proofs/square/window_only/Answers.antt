use Rattle.levels.proofs.SquareLaws.{window_only_lem}
use Rattle.levels.proofs.square.window_only.Goals as goal

pub returns : goal.returns
returns c = window_only_lem
