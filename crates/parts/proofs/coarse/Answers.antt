use Rattle.std.proofs.Common.{◌≡◌, ◌-◌, ◌∙◌, arith}
use Rattle.parts.proofs.Cut.{coarse_part, part_handed}
use Rattle.parts.proofs.coarse.Goals as goal

pub returns-in-Ok : goal.returns-in-Ok
returns-in-Ok c =
    let o = c.in-Ok.ensures in
    let e : c.in-Ok.part - 0 ≡ c.in-Ok.part = omega arith in
    part_handed _ _ _ o.0 (coarse_part c.args.k c.args.level (c.in-Ok.part - 0) c.args.tower.now o.1.level (e ∙ o.1.value))
