use Rattle.std.proofs.Common.{arith}
use Rattle.parts.proofs.Details.{detail_told}
use Rattle.parts.proofs.check_detail.Goals as goal

pub returns : goal.returns
returns c = detail_told _ _ _ c.saturating_add.result (grind (arith, c.saturating_add.ensures)) c.ranges.level.fits _ c.check_coarse.ensures
