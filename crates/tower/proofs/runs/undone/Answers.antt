use Rattle.tower.proofs.Replay.{calls_undone}
use Rattle.tower.proofs.runs.undone.Goals as goal

pub returns : goal.returns
returns c = calls_undone
