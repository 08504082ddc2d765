use Rattle.levels.proofs.Changes.{towers_either_order_lem}
use Rattle.levels.proofs.towers_either_order.Goals as goal

pub returns : goal.returns
returns c = towers_either_order_lem
