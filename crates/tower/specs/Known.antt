-- What is known once the checks of a call are passed. Assumes nothing: these are definitions.
use Rattle.std.specs.Prelude.{◌≡◌, ℕ, ◌+◌, ◌-◌, ◌*◌, ◌<◌, ◌≤◌, List, length, ℤ, None}
use Rattle.pairs.specs.Pairs.{Height, max_height}
use Rattle.levels.specs.Maps.{power}
use Rattle.maps.specs.Limits.{max_k, max_side}
use Rattle.maps.specs.Rows.{line}
use Rattle.maps.specs.declared.HeightMap.{HeightMap}
use Rattle.places.specs.declared.Place.{Place}
use Rattle.tower.specs.Checks.{first_wrong}
use Rattle.windows.specs.declared.area.Area.{Area}

-- the side of a map of k levels
pub record SideOf (k s : ℕ) : Type 0 where
  pub levels : k ≤ max_k
  pub value : s ≡ power k
  pub some : 0 < s
  pub small : s ≤ max_side

-- nothing is wrong with the numbers of a map
pub record WholeMap (n : ℕ) (hs : List ℤ) : Type 0 where
  pub right : first_wrong n 0 hs ≡ None
  pub whole : length hs ≡ n
  pub heights : (i : ℕ) → i < n → Height (line hs i)

-- m is the map of those heights
pub record CanBuild (k : ℕ) (hs : List ℤ) (n : ℕ) (m : HeightMap) : Type 0 where
  pub side : SideOf k m.size.wide
  pub square : m.size.high ≡ m.size.wide
  pub heights : m.heights.now ≡ hs
  pub whole : length hs ≡ m.size.wide * m.size.wide
  pub room : n ≡ m.size.wide * m.size.wide

-- s is the side of the level
pub record CanShow (k n l x y w h m s : ℕ) : Type 0 where
  pub levels : k ≤ max_k
  pub level : l ≤ k
  pub side : SideOf (k - l) s
  pub whole : n ≡ power k * power k
  pub across : x + w ≤ s
  pub down : y + h ≤ s
  pub room : m ≡ w * h

-- a is that part of the map at the level, with the tower
pub record CanShowArea (k : ℕ) (ts : List ℤ) (l x y w h m : ℕ) (a : Area) : Type 0 where
  pub levels : k ≤ max_k
  pub level : l ≤ k
  pub side : SideOf (k - l) a.size.wide
  pub square : a.size.high ≡ a.size.wide
  pub tower : a.tower.now ≡ ts
  pub whole : length ts ≡ power k * power k
  pub from : (a.x ≡ x) × (a.y ≡ y)
  pub extent : (a.wide ≡ w) × (a.high ≡ h)
  pub room : m ≡ w * h

-- p is that place of the map
pub record CanChange (k n x y g : ℕ) (p : Place) : Type 0 where
  pub side : SideOf k p.size.wide
  pub square : p.size.high ≡ p.size.wide
  pub whole : n ≡ p.size.wide * p.size.wide
  pub place : (p.x ≡ x) × (p.y ≡ y)
  pub height : g ≤ max_height
