use Rattle.levels.proofs.Changes.{either_order_lem}
use Rattle.levels.proofs.either_order.Goals as goal

pub returns : goal.returns
returns c = either_order_lem
