use Rattle.maps.specs.Rows.{RowHalvedTo}
use Rattle.maps.proofs.rows.halve_row.Given as goal

abbrev pub invariant-loop-i : goal.invariant-loop-i
invariant-loop-i l = RowHalvedTo l.i l.i l.row l.initial.means l.means l.initial.differences l.differences
