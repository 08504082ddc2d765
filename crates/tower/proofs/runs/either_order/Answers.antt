use Rattle.tower.proofs.Replay.{calls_either_order}
use Rattle.tower.proofs.runs.either_order.Goals as goal

pub returns : goal.returns
returns c = calls_either_order
