-- Areas of maps as lists of numbers. Assumes nothing: these are definitions.
--     IsOf                the numbers that are lent with an area begin with the tower of a map
--     Shows               a list begins with the heights of the area, row by row
--     wide_above, high_above     how wide and high the area one level up is that these places are parts of
--     ShowsAbove          a list begins with the heights of that area
--     RowShown, RowAbove, RowOfMeans     the same of one row, of the row above it, and of the means that lie between them
use Rattle.std.specs.Prelude.{ℕ, ◌+◌, ◌/◌, ◌%◌, List, ℤ}
use Rattle.levels.specs.Maps.{Map, means, halved}
use Rattle.levels.specs.Numbering.{Holds}
use Rattle.windows.specs.Windows.{Row, Window}
use Rattle.windows.specs.declared.area.Area.{Area}

abbrev pub IsOf : Area → ℕ → Map → Type 0
IsOf a k p = Holds k a.size.wide a.size.high a.tower.now p

abbrev pub Shows : Area → List ℤ → Map → Type 0
Shows a xs p = Window a.wide a.high xs p a.x a.y

abbrev pub wide_above : Area → ℕ
wide_above a = (a.x % 2 + a.wide + 1) / 2

abbrev pub high_above : Area → ℕ
high_above a = (a.y % 2 + a.high + 1) / 2

abbrev pub ShowsAbove : Area → List ℤ → Map → Type 0
ShowsAbove a xs p = Window (wide_above a) (high_above a) xs (halved a.size.wide a.size.high p) (a.x / 2) (a.y / 2)

abbrev pub RowShown : Area → ℕ → List ℤ → Map → Type 0
RowShown a v xs p = Row a.wide xs p a.x (a.y + v)

abbrev pub RowAbove : Area → ℕ → List ℤ → Map → Type 0
RowAbove a v xs p = Row (wide_above a) xs (halved a.size.wide a.size.high p) (a.x / 2) ((a.y + v) / 2)

abbrev pub RowOfMeans : Area → ℕ → List ℤ → Map → Type 0
RowOfMeans a v xs p = Row (wide_above a) xs (means a.size.wide p) (a.x / 2) (a.y + v)
