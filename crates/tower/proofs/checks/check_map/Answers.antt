use Rattle.std.proofs.Common.{sym, refl, arith}
use Rattle.tower.proofs.Wrong.{none_wrong, right_whole}
use Rattle.tower.proofs.checks.check_map.Goals as goal

pub returns-then-all_heights : goal.returns-then-all_heights
returns-then-all_heights c =
    let h = c.if-all_heights.ensures.0 refl in
    record {
      right = none_wrong c.args.many 0 c.args.heights.now c.if-heights-many.true (λ i hi. h i (omega arith));
      whole = c.if-heights-many.true;
      heights = λ i hi. h i (omega arith);
    }

pub returns-in-None : goal.returns-in-None
returns-in-None c =
    let e = sym c.in-None.ensures in
    let r = right_whole c.args.many 0 c.args.heights.now e in
    record { right = e; whole = r.0; heights = r.1 }
