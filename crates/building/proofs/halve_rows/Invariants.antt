use Rattle.building.specs.Steps.{RowsHalved}
use Rattle.building.proofs.halve_rows.Given as goal

abbrev pub invariant-loop-y : goal.invariant-loop-y
invariant-loop-y l = RowsHalved l.map l.initial.room l.room l.size.wide l.size.high l.y
