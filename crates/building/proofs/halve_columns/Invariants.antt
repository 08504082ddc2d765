use Rattle.building.specs.Steps.{PairsHalved}
use Rattle.building.proofs.halve_columns.Given as goal

abbrev pub invariant-loop-i : goal.invariant-loop-i
invariant-loop-i l = PairsHalved l.i l.upper l.initial.lower l.lower l.out
