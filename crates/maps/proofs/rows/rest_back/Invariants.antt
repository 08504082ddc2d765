use Rattle.maps.specs.Rows.{PairsBack}
use Rattle.maps.proofs.rows.rest_back.Given as goal

abbrev pub invariant-loop-i : goal.invariant-loop-i
invariant-loop-i l = PairsBack 0 l.i l.means l.differences l.row
