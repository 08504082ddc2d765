use Rattle.std.proofs.Common.{suc, arith}
use Rattle.levels.specs.Maps.{halved}
use Rattle.levels.specs.Numbering.{Holds}
use Rattle.levels.proofs.Held.{above, next_level}
use Rattle.windows.proofs.area.Area.+show_in.Goals as goal

pub returns : goal.returns
returns t c k p o =
    let s = c.args.self.now in
    let l = next_level k s.size.wide s.size.high o.wide o.high (omega arith) in
    let o' : Holds (suc l.0) c.args.self.now.size.wide c.args.self.now.size.high c.args.self.now.tower.now p = rw l.1 at o in
    let shown = rw (c.up.ensures.tower, c.up.ensures.size.0, c.up.ensures.size.1, c.up.ensures.from.0, c.up.ensures.from.1, c.up.ensures.extent.0, c.up.ensures.extent.1) at c.show_in.ensures in
    c.finer.ensures l.0 p o' (shown l.0 (halved s.size.wide s.size.high p) (above l.0 s.size.wide s.size.high s.tower.now p o'))
