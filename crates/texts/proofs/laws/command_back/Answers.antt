use Rattle.texts.proofs.Back.{command_back_lem}
use Rattle.texts.proofs.laws.command_back.Goals as goal

pub returns : goal.returns
returns c = command_back_lem
