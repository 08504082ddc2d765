use Rattle.std.proofs.Common.{ℕ, ◌<◌}
use Rattle.pairs.specs.Pairs.{Height}
use Rattle.maps.specs.Rows.{line}
use Rattle.tower.proofs.checks.all_heights.Given as goal

abbrev pub invariant-loop-number : goal.invariant-loop-number
invariant-loop-number l =
    (Height l.bits → (k : ℕ) → k < l.number-index → Height (line l.numbers k))
    × (((k : ℕ) → k < l.number-index → Height (line l.numbers k)) → Height l.bits)
