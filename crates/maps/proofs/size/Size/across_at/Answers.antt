use Rattle.std.proofs.Common.{refl, le_refl, arith}
use Rattle.levels.specs.Maps.{size}
use Rattle.levels.specs.Numbering.{across_index}
use Rattle.levels.proofs.Parts.{across_within}
use Rattle.maps.proofs.size.Size.across_at.Goals as goal

pub returns : goal.returns
unfolding across_index size
returns c = record { value = refl; within = λ two hy. across_within _ _ _ _ _ _ (le_refl _) (le_refl _) (omega arith) hy }
