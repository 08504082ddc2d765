use Rattle.std.proofs.Common.{◌≡◌, ◌-◌, ◌≤◌, ◌++◌, take, drop, vec_items}
use Rattle.tower.specs.Checks.{first_wrong}
use Rattle.drafts.proofs.put_heights.Given as goal

abbrev pub invariant-loop-at : goal.invariant-loop-at
invariant-loop-at l = record {
  within : l.at ≤ l.many;
  right : first_wrong (l.many - l.at) l.at (drop l.at l.row) ≡ first_wrong l.many 0 l.row;
  put : vec_items l.heights ≡ vec_items l.initial.heights ++ take l.at l.row;
}
