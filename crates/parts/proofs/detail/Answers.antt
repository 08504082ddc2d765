use Rattle.std.proofs.Common.{refl}
use Rattle.parts.specs.Parts.{detail_of}
use Rattle.parts.proofs.Cut.{part_handed}
use Rattle.parts.proofs.detail.Goals as goal

pub returns-in-Ok : goal.returns-in-Ok
unfolding detail_of
returns-in-Ok c =
    let o = c.in-Ok.ensures in
    part_handed _ _ _ o.0 (rw (← o.1.value, ← o.1.four) refl)
