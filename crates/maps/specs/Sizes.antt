-- How many places a size has. Assumes nothing: these are definitions.
--     HasPlaces           it has some; a window of a map may have none, so this is no part of the type
--     Covers              a list has a number for each of them; it is lent apart from the size, to be read by one call and written by another
use Rattle.std.specs.Prelude.{◌*◌, ◌<◌, ◌≤◌, List, length, ℤ}
use Rattle.maps.specs.declared.size.Size.{Size}

abbrev pub HasPlaces : Size → Type 0
HasPlaces s = (0 < s.wide) × (0 < s.high)

abbrev pub Covers : Size → List ℤ → Type 0
Covers s xs = s.wide * s.high ≤ length xs
