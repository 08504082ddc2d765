-- Worked examples. Assumes nothing.
use Rattle.std.proofs.Common.{pos, refl}
use Rattle.pairs.specs.Pairs.{half, first_of, second_of, one_of}
use Rattle.levels.specs.Maps.{size, line_up, line_down, apart, means, across, halved, down, joined, level, with_height}
use Rattle.levels.specs.Towers.{tower, shown, at_level}
use Rattle.levels.specs.Numbering.{map_in, down_index, across_index, tower_in}
use Rattle.levels.proofs.Held.{two_by_two}
use Rattle.levels.specs.Examples.{small, small_tower, changed_tower, SmallExample}

pub small_example_lem : SmallExample
unfolding half first_of second_of one_of size line_up line_down apart means across halved down joined level with_height tower shown at_level map_in down_index across_index tower_in
small_example_lem = record {
  up = two_by_two (tower_in 2 2 small_tower) (tower 1 2 2 small) refl refl refl refl;
  back = (refl, refl, refl, refl);
  changed = two_by_two (tower_in 2 2 changed_tower) (tower 1 2 2 (with_height small 1 0 (pos 14))) refl refl refl refl;
}
