use Rattle.std.proofs.Common.{◌-◌, ◌*◌, ◌++◌, length, ap, ◌∙◌, arith}
use Rattle.tower.proofs.Taken.{answer_taken}
use Rattle.parts.proofs.Again.{joined_parts}
use Rattle.parts.proofs.Cut.{filled}
use Rattle.parts.proofs.join.Goals as goal

pub returns : goal.returns
returns c =
    let o = c.in_ok-part.ensures in
    let n = c.in_ok-part.part in
    let first = c.copy_from_slice.ensures.after in
    let second = c.copy_from_slice-2.ensures.after in
    let full = filled n (4 * n - n) c.copy_from_slice.new.self c.copy_from_slice-2.new.self c.args.room.now (ap length first ∙ o.1.coarse) o.1.room (omega arith) in
    answer_taken _ _ _ _ _ o.0 (joined_parts c.args.k _ _ _ o.1.levels (full ∙ (λ i. first i ++ second i)))
