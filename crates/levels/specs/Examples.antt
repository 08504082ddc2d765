-- Worked examples: the map 10 13 / 20 20 and its tower 15, -9, -3 0. Assumes nothing.
use Rattle.std.specs.Prelude.{◌≡◌, List, [], ◌∷◌, ℤ, pos, negsuc}
use Rattle.levels.specs.Maps.{Map, with_height}
use Rattle.levels.specs.Towers.{tower, at_level, SameTower}
use Rattle.levels.specs.Numbering.{map_in, tower_in}

abbrev pub small : Map
small = map_in 2 (pos 10 ∷ pos 13 ∷ pos 20 ∷ pos 20 ∷ [])

-- negsuc n is -(n + 1)
abbrev pub small_tower : List ℤ
small_tower = pos 15 ∷ negsuc 8 ∷ negsuc 2 ∷ pos 0 ∷ []

-- 16, -8, -4 0
abbrev pub changed_tower : List ℤ
changed_tower = pos 16 ∷ negsuc 7 ∷ negsuc 3 ∷ pos 0 ∷ []

pub record SmallExample : Type 0 where
  pub up : SameTower 1 2 2 (tower_in 2 2 small_tower) (tower 1 2 2 small)
  pub back : (at_level 1 2 2 (tower_in 2 2 small_tower) 0 0 0 ≡ pos 10) × (at_level 1 2 2 (tower_in 2 2 small_tower) 0 1 0 ≡ pos 13)
      × (at_level 1 2 2 (tower_in 2 2 small_tower) 0 0 1 ≡ pos 20) × (at_level 1 2 2 (tower_in 2 2 small_tower) 0 1 1 ≡ pos 20)
  -- the 13 becomes 14
  pub changed : SameTower 1 2 2 (tower_in 2 2 changed_tower) (tower 1 2 2 (with_height small 1 0 (pos 14)))
