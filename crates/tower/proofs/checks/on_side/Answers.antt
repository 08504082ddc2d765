use Rattle.std.proofs.Common.{arith}
use Rattle.std.proofs.lemmas.Bool.Decides.{nat_tests}
use Rattle.tower.specs.Checks.{is_on_side}
use Rattle.tower.proofs.checks.on_side.Goals as goal

pub returns-then-from-side : goal.returns-then-from-side
unfolding is_on_side
returns-then-from-side c = grind (arith, nat_tests)

pub returns-else-from-side : goal.returns-else-from-side
unfolding is_on_side
returns-else-from-side c = grind (arith, nat_tests)
