use Rattle.texts.proofs.Back.{height_back_lem}
use Rattle.texts.proofs.laws.height_back.Goals as goal

pub returns : goal.returns
returns c = height_back_lem
