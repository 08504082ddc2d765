use Rattle.std.proofs.Common.{refl, le_refl, arith}
use Rattle.levels.specs.Maps.{size}
use Rattle.levels.specs.Numbering.{down_index}
use Rattle.levels.proofs.Parts.{down_within}
use Rattle.maps.proofs.size.Size.down_at.Goals as goal

pub returns : goal.returns
unfolding down_index size
returns c = record { value = refl; within = λ hx two. down_within _ _ _ _ _ _ (le_refl _) (le_refl _) hx (omega arith) }
