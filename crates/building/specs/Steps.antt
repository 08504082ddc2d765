-- What a step across and a step down leave of a map. Assumes nothing: these are definitions.
--     BeginsWith          a list begins with a map, row by row
--     BeginsParted        the same with its even rows first and then its odd ones
--     RowsHalved          the first n rows of a map halved
--     PairsHalved         upper places halved with the lower ones below them
--     ColumnsHalved       the first n numbers of a room halved with those that stand so many further on
--     Copied              numbers from an index on, copied up to another
use Rattle.std.specs.Prelude.{◌≡◌, ℕ, ◌+◌, ◌*◌, ◌/◌, ◌<◌, ◌≤◌, List, ℤ}
use Rattle.pairs.specs.Pairs.{mean_of, difference_of}
use Rattle.levels.specs.Maps.{Map, means, across}
use Rattle.levels.specs.Numbering.{map_in}
use Rattle.maps.specs.Rows.{line}

abbrev pub BeginsWith : (w h : ℕ) → List ℤ → Map → Type 0
BeginsWith w h xs p = (x y : ℕ) → x < w → y < h → map_in w xs x y ≡ p x y

pub record BeginsParted (w h : ℕ) (xs : List ℤ) (q : Map) : Type 0 where
  pub evens : (x v : ℕ) → x < w → 2 * v < h → line xs (v * w + x) ≡ q x (2 * v)
  pub odds : (x v : ℕ) → x < w → 2 * v + 1 < h → line xs (w * ((h + 1) / 2) + (v * w + x)) ≡ q x (2 * v + 1)

-- the means of even rows stand first, then those of odd rows, then the differences, row by row; nothing past the map is another
pub record RowsHalved (src was now : List ℤ) (w h n : ℕ) : Type 0 where
  pub evens : (x v : ℕ) → x < (w + 1) / 2 → 2 * v < n → line now (v * ((w + 1) / 2) + x) ≡ means w (map_in w src) x (2 * v)
  pub odds : (x v : ℕ) → x < (w + 1) / 2 → 2 * v + 1 < n → line now ((w + 1) / 2 * ((h + 1) / 2) + (v * ((w + 1) / 2) + x)) ≡ means w (map_in w src) x (2 * v + 1)
  pub across : (x v : ℕ) → x < w / 2 → v < n → line now ((w + 1) / 2 * h + (v * (w / 2) + x)) ≡ across (map_in w src) x v
  pub rest : (i : ℕ) → w * h ≤ i → line now i ≡ line was i

-- so far n upper places and the lower ones below them
pub record PairsHalved (n : ℕ) (upper was now out : List ℤ) : Type 0 where
  pub means : (k : ℕ) → k < n → line out k ≡ mean_of (line upper k) (line was k)
  pub downs : (k : ℕ) → k < n → line now k ≡ difference_of (line upper k) (line was k)
  pub rest : (k : ℕ) → n ≤ k → line now k ≡ line was k

-- the same in one room: the means are put out, the differences stay
pub record ColumnsHalved (was now out : List ℤ) (count n : ℕ) : Type 0 where
  pub means : (k : ℕ) → k < n → line out k ≡ mean_of (line was k) (line was (count + k))
  pub downs : (k : ℕ) → k < n → line now (count + k) ≡ difference_of (line was k) (line was (count + k))
  pub rest : (i : ℕ) → (count ≤ i → i < count + n → ⊥) → line now i ≡ line was i

pub record Copied (from was now : List ℤ) (a n : ℕ) : Type 0 where
  pub same : (k : ℕ) → a ≤ k → k < n → line now k ≡ line from k
  pub before : (k : ℕ) → k < a → line now k ≡ line was k
