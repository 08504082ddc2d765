use Rattle.std.proofs.Common.{◌+◌, ◌-◌, ◌*◌}
use Rattle.building.proofs.+step_across_step_down.Given as goal

abbrev pub decreases-step_across : goal.decreases-step_across
decreases-step_across l = 2 * (l.size.wide + l.size.high)

abbrev pub decreases-step_down : goal.decreases-step_down
decreases-step_down l = 2 * (l.size.wide + l.size.high) - 1
