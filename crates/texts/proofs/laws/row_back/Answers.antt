use Rattle.texts.proofs.Back.{row_back_lem}
use Rattle.texts.proofs.laws.row_back.Goals as goal

pub returns : goal.returns
returns c = row_back_lem
