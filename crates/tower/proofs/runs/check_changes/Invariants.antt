use Rattle.std.proofs.Common.{◌≡◌, drop}
use Rattle.tower.specs.Runs.{first_refusal}
use Rattle.tower.proofs.runs.check_changes.Given as goal

abbrev pub invariant-loop-change : goal.invariant-loop-change
invariant-loop-change l = first_refusal l.k l.tower l.changes ≡ first_refusal l.k l.tower (drop l.change-index l.changes)
