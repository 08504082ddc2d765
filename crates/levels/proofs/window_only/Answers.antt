use Rattle.levels.proofs.Windows.{window_only_lem}
use Rattle.levels.proofs.window_only.Goals as goal

pub returns : goal.returns
returns c = window_only_lem
