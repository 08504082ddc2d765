use Rattle.std.proofs.Common.{refl, arith, w32, SFits, rules, below_more}
use Rattle.maps.specs.Rows.{line}
use Rattle.tower.proofs.Together.{together, both_together}
use Rattle.tower.proofs.checks.all_heights.Goals as goal

pub loop-number-preserved : goal.loop-number-preserved
loop-number-preserved c =
    let i = c.loop-number.number-index in
    let f : SFits w32 (line c.args.numbers.now c.loop-number.number-index) = search rules in (
      λ h. let q = together _ _ _ refl (omega arith) f h in below_more _ _ (c.loop-number.invariant.0 q.0) q.1,
      λ all. both_together _ _ _ refl (omega arith) f (c.loop-number.invariant.1 (λ k hk. all k (omega arith))) (all i (omega arith)),
    )
