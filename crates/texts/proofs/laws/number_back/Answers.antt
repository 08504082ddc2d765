use Rattle.texts.proofs.Back.{number_back_lem}
use Rattle.texts.proofs.laws.number_back.Goals as goal

pub returns : goal.returns
returns c = number_back_lem
