use Rattle.levels.proofs.Changes.{changes_few_lem}
use Rattle.levels.proofs.changes_few.Goals as goal

pub returns : goal.returns
returns c = changes_few_lem
