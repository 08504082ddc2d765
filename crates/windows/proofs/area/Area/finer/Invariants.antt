use Rattle.std.proofs.Common.{◌≡◌, ℕ, suc, ◌*◌, ◌<◌}
use Rattle.levels.specs.Maps.{Map}
use Rattle.maps.specs.Rows.{line}
use Rattle.windows.specs.Areas.{IsOf, ShowsAbove}
use Rattle.windows.proofs.Places.{RowsFrom}
use Rattle.windows.proofs.area.Area.finer.Given as goal

-- the rows from v on are made, and the numbers before them are as they were
abbrev pub invariant-loop-v : goal.invariant-loop-v
invariant-loop-v l =
    ((k : ℕ) (p : Map) → IsOf l.self (suc k) p → ShowsAbove l.self l.initial.room p → RowsFrom l.v l.self.wide l.self.high l.room p l.self.x l.self.y)
    × ((j : ℕ) → j < l.v * l.self.wide → line l.room j ≡ line l.initial.room j)
