use Rattle.levels.proofs.Changes.{towers_undone_lem}
use Rattle.levels.proofs.towers_undone.Goals as goal

pub returns : goal.returns
returns c = towers_undone_lem
