use Rattle.levels.proofs.Bounds.{keeps_order_lem}
use Rattle.levels.proofs.keeps_order.Goals as goal

pub returns : goal.returns
returns c = keeps_order_lem
