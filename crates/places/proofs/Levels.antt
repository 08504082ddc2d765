-- The lines of a map that lead to a place, and the differences that stand for them in a tower. Assumes nothing.
use Rattle.std.proofs.Common.{◌≡◌, ℕ, suc, ◌/◌, ◌<◌, List, ℤ, arith}
use Rattle.levels.specs.Maps.{Map, size, means, across, down}
use Rattle.levels.specs.Numbering.{Holds, across_index, down_index}
use Rattle.levels.proofs.Held.{means_height, across_there, down_there}
use Rattle.places.specs.Lines.{Heights, DifferenceAt}

-- the row of a place, and the column of means that its pair is in
module _ (k w h : ℕ) (ts : List ℤ) (p : Map) (x y : ℕ) (hx : x < w) (hy : y < h) (o : Holds (suc k) w h ts p) where
  pub row_heights : Heights w (λ u. p u y)
  row_heights u hu = o.heights u y hu hy

  pub column_heights : Heights h (means w p (x / 2))
  column_heights v hv = means_height w h p o.heights (x / 2) v (omega arith) hv

  pub row_difference : (i : ℕ) → i ≡ across_index w h 0 (x / 2) y → DifferenceAt w (λ u. p u y) x ts i
  unfolding across_index size across
  row_difference i e whole = rw e (across_there k w h ts p o (x / 2) y whole hy)

  pub column_difference : (i : ℕ) → i ≡ down_index w h 0 (x / 2) (y / 2) → DifferenceAt h (means w p (x / 2)) y ts i
  unfolding down_index size down
  column_difference i e whole = rw e (down_there k w h ts p o (x / 2) (y / 2) (omega arith) whole)
