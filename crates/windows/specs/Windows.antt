-- Parts of maps as lists of numbers. Assumes nothing: these are definitions.
--     Row                 a list begins with n numbers of the row y of a map, from the column x on
--     Window              a list begins with w by h places of a map, from x across and y down, row by row
use Rattle.std.specs.Prelude.{◌≡◌, ℕ, ◌+◌, ◌*◌, ◌<◌, List, ℤ, pos, slice_index_or}
use Rattle.levels.specs.Maps.{Map}

abbrev pub Row : (n : ℕ) → List ℤ → Map → (x y : ℕ) → Type 0
Row n xs p x y = (u : ℕ) → u < n → slice_index_or xs u (pos 0) ≡ p (x + u) y

abbrev pub Window : (w h : ℕ) → List ℤ → Map → (x y : ℕ) → Type 0
Window w h xs p x y = (u v : ℕ) → u < w → v < h → slice_index_or xs (v * w + u) (pos 0) ≡ p (x + u) (y + v)
