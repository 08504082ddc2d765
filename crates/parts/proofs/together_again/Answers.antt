use Rattle.parts.proofs.Again.{together_again_lem}
use Rattle.parts.proofs.together_again.Goals as goal

pub returns : goal.returns
returns c = together_again_lem
