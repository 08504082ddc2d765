use Rattle.std.proofs.Common.{refl}
use Rattle.sessions.specs.Runs.{start}
use Rattle.sessions.proofs.Session.new.Goals as goal

pub returns : goal.returns
unfolding start
returns c = record { line = refl; draft = tt; viewer = tt }
