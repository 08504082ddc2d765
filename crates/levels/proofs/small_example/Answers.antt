use Rattle.levels.proofs.Examples.{small_example_lem}
use Rattle.levels.proofs.small_example.Goals as goal

pub returns : goal.returns
returns c = small_example_lem
