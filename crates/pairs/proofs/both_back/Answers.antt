use Rattle.pairs.proofs.Half.{both_back_lem}
use Rattle.pairs.proofs.both_back.Goals as goal

pub returns : goal.returns
returns c = both_back_lem
