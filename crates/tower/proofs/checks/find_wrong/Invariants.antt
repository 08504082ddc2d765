use Rattle.std.proofs.Common.{◌≡◌, ◌-◌, ◌≤◌, drop}
use Rattle.tower.specs.Checks.{first_wrong}
use Rattle.tower.proofs.checks.find_wrong.Given as goal

abbrev pub invariant-loop-i : goal.invariant-loop-i
invariant-loop-i l = (l.i ≤ l.many) × (first_wrong l.many 0 l.heights ≡ first_wrong (l.many - l.i) l.i (drop l.i l.heights))
