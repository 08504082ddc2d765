use Rattle.std.proofs.Common.{ℕ, ◌<◌}
use Rattle.maps.specs.Rows.{line, OneBack}
use Rattle.windows.proofs.ones.Given as goal

abbrev pub invariant-loop-i : goal.invariant-loop-i
invariant-loop-i l = (k : ℕ) → k < l.i → OneBack l.place l.means l.differences k (line l.row k)
