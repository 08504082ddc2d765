use Rattle.std.proofs.Common.{◌+◌}
use Rattle.windows.proofs.area.Area.+show_in.Given as goal

abbrev pub decreases-show_in : goal.decreases-show_in
decreases-show_in l = l.self.now.size.wide + l.self.now.size.high
