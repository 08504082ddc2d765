-- What the calls on a tower of 2^k by 2^k places leave. Assumes nothing: these are definitions.
--     IsTowerOf           a list is the tower of a map, in words without sizes
--     BuiltTower, ShownWindow, ChangedTower     what a call that is taken leaves, in the words of any size and in those of 2^k by 2^k places
--     Answered            a call answers its refusal and changes nothing, or is taken
use Rattle.std.specs.Prelude.{◌≡◌, ℕ, ◌+◌, ◌*◌, ◌<◌, ◌≤◌, List, length, ℤ, pos, Some, None, Ok, Err, Option, Result}
use Rattle.std.specs.List.{ContainsAt}
use Rattle.pairs.specs.Pairs.{Height}
use Rattle.levels.specs.Maps.{Map, power, level, with_height}
use Rattle.levels.specs.Numbering.{Holds, map_in, touched}
use Rattle.levels.specs.Square as Square
use Rattle.maps.specs.Rows.{line}
use Rattle.refusals.specs.declared.Refusal.{Refusal}
use Rattle.tower.specs.Checks.{places}

-- the numbers are those of the tower of a map of heights
pub record IsTowerOf (k : ℕ) (ts : List ℤ) (p : Map) : Type 0 where
  pub heights : (x y : ℕ) → x < power k → y < power k → Height (p x y)
  pub same : Square.SameTower k (Square.tower_in k ts) (Square.tower k p)

-- the room is the tower of the map, number by number
pub record BuiltTower (k : ℕ) (heights after : List ℤ) : Type 0 where
  pub length_is : length after ≡ places k
  pub holds : Holds k (power k) (power k) after (map_in (power k) heights)
  pub square : IsTowerOf k after (map_in (power k) heights)

-- the room has the heights of the map at the level, row by row, whatever map the tower is of
pub record ShownWindow (k : ℕ) (ts : List ℤ) (l x y w h : ℕ) (after : List ℤ) : Type 0 where
  pub length_is : length after ≡ w * h
  pub shows : (p : Map) → Holds k (power k) (power k) ts p → (u v : ℕ) → u < w → v < h → line after (v * w + u) ≡ level l (power k) (power k) p (x + u) (y + v)
  pub square : (p : Map) → IsTowerOf k ts p → (u v : ℕ) → u < w → v < h → line after (v * w + u) ≡ Square.at_level k (Square.tower_in k ts) l (x + u) (y + v)

-- the tower is that of the changed map; at most 1 + 2k numbers, at known indices, are others: this of any numbers, whether a map's or not
pub record ChangedTower (k : ℕ) (ts : List ℤ) (x y g : ℕ) (after : List ℤ) : Type 0 where
  pub length_is : length after ≡ length ts
  pub few : length (touched k (power k) (power k) x y) ≤ 1 + 2 * k
  pub rest : (i : ℕ) → (ContainsAt (touched k (power k) (power k) x y) i → ⊥) → line after i ≡ line ts i
  pub holds : (p : Map) → Holds k (power k) (power k) ts p → Holds k (power k) (power k) after (with_height p x y (pos g))
  pub square : (p : Map) → IsTowerOf k ts p → IsTowerOf k after (with_height p x y (pos g))

-- done is what a call answers that is taken; the room or the tower was the one list and is the other
abbrev pub Answered : {X : Type 0} → Option Refusal → (answer : Result X Refusal) → (done : X) → (was after : List ℤ) → (taken : Type 0) → Type 0
Answered (Some e) r d was after taken = (r ≡ Err e) × (after ≡ was)
Answered None r d was after taken = (r ≡ Ok d) × taken
