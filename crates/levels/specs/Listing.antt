-- Maps and towers written out as lists of numbers. Assumes nothing: these are definitions.
--     listed              the first n of a line
--     rows_at             w by h places of a map, from x across and y down: a list for each row
--     grid                the first w by h places of a map, row after row
--     tower_list          the numbers of a tower: the tower of the halved map, and behind it the differences down and then those across
use Rattle.std.specs.Prelude.{ℕ, zero, suc, ◌+◌, ◌/◌, List, [], ◌∷◌, ◌++◌, map, ℤ}
use Rattle.std.specs.List.{range_with_len, flat_map}
use Rattle.levels.specs.Maps.{Map, across, down, halved}

abbrev pub listed : {X : Type 0} → ℕ → (ℕ → X) → List X
listed n f = map f (range_with_len 0 n)

unfoldable pub rows_at : (x y w h : ℕ) → Map → List (List ℤ)
rows_at x y w h p = listed h (λ v. listed w (λ u. p (x + u) (y + v)))

unfoldable pub grid : (w h : ℕ) → Map → List ℤ
grid w h p = flat_map (λ row. row) (rows_at 0 0 w h p)

unfoldable pub tower_list : (k w h : ℕ) → Map → List ℤ
tower_list zero w h p = p 0 0 ∷ []
tower_list (suc k) w h p = tower_list k ((w + 1) / 2) ((h + 1) / 2) (halved w h p) ++ (grid ((w + 1) / 2) (h / 2) (down w p) ++ grid (w / 2) h (across p))
