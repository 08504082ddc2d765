use Rattle.std.proofs.Common.{◌≡◌, suc, ◌≤◌, drop}
use Rattle.tower.specs.Checks.{places}
use Rattle.parts.specs.Parts.{begins, contents, parts_wrong}
use Rattle.parts.proofs.assembly.find_gap.Given as goal

abbrev pub invariant-loop-j : goal.invariant-loop-j
invariant-loop-j l =
    (l.j ≤ suc l.k) × (l.begin ≡ begins l.j) × (l.end ≡ places l.j)
    × (parts_wrong l.k 0 (contents l.parts) ≡ parts_wrong l.k l.j (contents (drop l.j l.parts)))
