use Rattle.levels.proofs.Changes.{undone_lem}
use Rattle.levels.proofs.undone.Goals as goal

pub returns : goal.returns
returns c = undone_lem
