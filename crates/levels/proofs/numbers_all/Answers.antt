use Rattle.levels.proofs.Numbers.{numbers_all_lem}
use Rattle.levels.proofs.numbers_all.Goals as goal

pub returns : goal.returns
returns c = numbers_all_lem
