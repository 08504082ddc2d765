use Rattle.levels.specs.Maps.{Map}
use Rattle.levels.specs.Numbering.{Holds}
use Rattle.std.proofs.Common.{◌≡◌, drop}
use Rattle.tower.specs.Runs.{made_all}
use Rattle.tower.proofs.runs.change_all.Given as goal

-- what is still to be made of some map that the tower now holds leads to the same
abbrev pub invariant-loop-change : goal.invariant-loop-change
invariant-loop-change l = (p : Map) → Holds l.k l.size.wide l.size.high l.initial.tower p → (q : Map) × Holds l.k l.size.wide l.size.high l.tower q × (made_all q (drop l.change-index l.changes) ≡ made_all p l.changes)
