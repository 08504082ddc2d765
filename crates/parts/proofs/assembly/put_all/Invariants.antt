use Rattle.std.proofs.Common.{◌≡◌, ◌≤◌, ◌++◌, length, take, drop}
use Rattle.parts.specs.Parts.{contents, joined}
use Rattle.parts.proofs.assembly.put_all.Given as goal

abbrev pub invariant-loop-part : goal.invariant-loop-part
invariant-loop-part l = (l.at ≤ length l.room) × (length (joined (contents l.parts)) ≡ length l.room) × (take l.at l.room ++ joined (contents (drop l.part-index l.parts)) ≡ joined (contents l.parts))
