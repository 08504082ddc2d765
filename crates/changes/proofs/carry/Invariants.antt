use Rattle.std.proofs.Common.{◌+◌, List, ℤ}
use Rattle.maps.specs.Sizes.{Covers}
use Rattle.changes.specs.Carried.{Carried}
use Rattle.changes.proofs.carry.Given as goal

-- whoever carries on what is left has carried the whole change
abbrev pub invariant-loop-by : goal.invariant-loop-by
invariant-loop-by l =
    ((zs : List ℤ) → Carried l.place.size.wide l.place.size.high l.place.x l.place.y l.by l.tower zs → Carried l.initial.place.size.wide l.initial.place.size.high l.initial.place.x l.initial.place.y l.initial.by l.initial.tower zs)
    × Covers l.place.size l.tower

abbrev pub decreases-loop-by : goal.decreases-loop-by
decreases-loop-by l = l.place.size.wide + l.place.size.high
