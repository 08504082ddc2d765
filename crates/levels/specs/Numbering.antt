-- Maps and towers as lists of numbers. Assumes nothing: these are definitions.
--     map_in              the map whose heights stand row by row
--     down_index, across_index     where a difference of a level stands in the list of a tower
--     tower_in            the tower that stands in a list: the top, then for each level, the coarsest first, its differences down and then those across, row by row
--     Holds               the list begins with the tower of a map of heights
--     Entry, number, index, There     a number of a tower by its place in it, its value, its index in the list, and that it is one of the tower's
--     differences         how many differences the levels below the k-th have
--     touched             the indices of the numbers that a change of one height can change
use Rattle.std.specs.Prelude.{◌≡◌, ℕ, zero, suc, ◌+◌, ◌*◌, ◌/◌, ◌<◌, if◌then◌else◌, List, [], ◌∷◌, ◌++◌, ℤ, pos, slice_index_or}
use Rattle.pairs.specs.Pairs.{Height}
use Rattle.levels.specs.Maps.{Map, size, paired}
use Rattle.levels.specs.Towers.{Tower, tower, SameTower}

unfoldable pub map_in : ℕ → List ℤ → Map
map_in w hs x y = slice_index_or hs (y * w + x) (pos 0)

-- the numbers of the coarser levels stand before, as many as the next coarser level has places
unfoldable pub down_index : (w h l x y : ℕ) → ℕ
down_index w h l x y = size (suc l) w * size (suc l) h + (y * size (suc l) w + x)

-- and before those across the differences down
unfoldable pub across_index : (w h l x y : ℕ) → ℕ
across_index w h l x y = size (suc l) w * size l h + (y * (size l w / 2) + x)

unfoldable pub tower_in : (w h : ℕ) → List ℤ → Tower
tower_in w h ts = record {
  top = slice_index_or ts 0 (pos 0);
  downs = λ l x y. slice_index_or ts (down_index w h l x y) (pos 0);
  acrosses = λ l x y. slice_index_or ts (across_index w h l x y) (pos 0);
}

-- k is the number of levels: both sides are then 1
pub record Holds (k w h : ℕ) (ts : List ℤ) (p : Map) : Type 0 where
  pub wide : size k w ≡ 1
  pub high : size k h ≡ 1
  pub heights : (x y : ℕ) → x < w → y < h → Height (p x y)
  pub same : SameTower k w h (tower_in w h ts) (tower k w h p)

pub data Entry : Type 0 where
  the_top : Entry
  a_down : (l x y : ℕ) → Entry
  an_across : (l x y : ℕ) → Entry

abbrev pub number : Tower → Entry → ℤ
number t the_top = t.top
number t (a_down l x y) = t.downs l x y
number t (an_across l x y) = t.acrosses l x y

abbrev pub index : (w h : ℕ) → Entry → ℕ
index w h the_top = 0
index w h (a_down l x y) = down_index w h l x y
index w h (an_across l x y) = across_index w h l x y

abbrev pub There : (k w h : ℕ) → Entry → Type 0
There k w h the_top = Unit {0}
There k w h (a_down l x y) = (l < k) × (x < size (suc l) w) × (y < size l h / 2)
There k w h (an_across l x y) = (l < k) × (x < size l w / 2) × (y < size l h)

unfoldable pub differences : (k w h : ℕ) → ℕ
differences zero w h = 0
differences (suc l) w h = differences l w h + (size (suc l) w * (size l h / 2) + size l w / 2 * size l h)

-- of each level the difference across and the one down of the pairs that lead to the place x, y, if they are whole, and the top
unfoldable pub touched : (k w h x y : ℕ) → List ℕ
touched zero w h x y = 0 ∷ []
touched (suc k) w h x y =
    (if paired w (x / 2) then across_index w h 0 (x / 2) y ∷ [] else [])
    ++ ((if paired h (y / 2) then down_index w h 0 (x / 2) (y / 2) ∷ [] else [])
    ++ touched k ((w + 1) / 2) ((h + 1) / 2) (x / 2) (y / 2))
