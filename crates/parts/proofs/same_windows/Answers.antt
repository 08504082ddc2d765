use Rattle.parts.proofs.Again.{same_windows_lem}
use Rattle.parts.proofs.same_windows.Goals as goal

pub returns : goal.returns
returns c = same_windows_lem
