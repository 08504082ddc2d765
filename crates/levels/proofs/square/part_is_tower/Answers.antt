use Rattle.levels.proofs.SquareLaws.{part_is_tower_lem}
use Rattle.levels.proofs.square.part_is_tower.Goals as goal

pub returns : goal.returns
returns c = part_is_tower_lem
