use Rattle.levels.proofs.Listing.{listed_tower_lem}
use Rattle.levels.proofs.listed_tower.Goals as goal

pub returns : goal.returns
returns c = listed_tower_lem
