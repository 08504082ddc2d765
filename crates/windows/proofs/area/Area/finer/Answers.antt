use Rattle.std.proofs.Common.{◌≡◌, ◌+◌, ◌-◌, ◌∙◌, arith}
use Rattle.levels.specs.Maps.{halved}
use Rattle.windows.proofs.Places.{row_more}
use Rattle.windows.proofs.area.Area.finer.Goals as goal

pub loop-v-preserved : goal.loop-v-preserved
loop-v-preserved c =
    let s = c.args.self.now in
    let v = c.loop-v.v - 1 in
    let e : c.loop-v.v ≡ c.loop-v.v - 1 + 1 = omega arith in
    let done = rw e at c.loop-v.invariant.0 in
    let kept = rw e at c.loop-v.invariant.1 in
    let right = rw c.wide_above.ensures at c.finer_row.ensures.right in (
      λ k p o above. row_more s.wide s.high _ _ v p (halved s.size.wide s.size.high p) _ _ _ (omega arith) (omega arith) above (done k p o above) kept (right k p o) c.finer_row.ensures.rest,
      λ j hj. c.finer_row.ensures.rest j (λ l _. omega arith) ∙ kept j (omega arith),
    )
