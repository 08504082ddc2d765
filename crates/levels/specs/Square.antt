-- Maps of 2^k by 2^k places, where every place has a neighbour: the same words without sizes. Assumes nothing: these are definitions.
--     means, across, halved, down, halved_times     a map halved, once and so often, and its differences
--     joined, shown, at_level     the way back
--     tower               the tower of a map
--     begins, tower_in    where the numbers of a level begin in a list, and the tower that stands in it
--     SameTower           two towers have the same numbers, wherever there are any
use Rattle.std.specs.Prelude.{◌≡◌, ℕ, zero, suc, ◌+◌, ◌-◌, ◌*◌, ◌/◌, ◌<◌, List, ℤ, pos, slice_index_or}
use Rattle.pairs.specs.Pairs.{mean_of, difference_of, one_of}
use Rattle.levels.specs.Maps.{Map, power}
use Rattle.levels.specs.Towers.{Tower}

unfoldable pub means : Map → Map
means p x y = mean_of (p (2 * x) y) (p (2 * x + 1) y)

unfoldable pub across : Map → Map
across p x y = difference_of (p (2 * x) y) (p (2 * x + 1) y)

unfoldable pub halved : Map → Map
halved p x y = mean_of (means p x (2 * y)) (means p x (2 * y + 1))

unfoldable pub down : Map → Map
down p x y = difference_of (means p x (2 * y)) (means p x (2 * y + 1))

unfoldable pub halved_times : ℕ → Map → Map
halved_times zero p = p
halved_times (suc l) p = halved (halved_times l p)

unfoldable pub joined : (small acrosses downs : Map) → Map
joined s a d x y = one_of x (one_of y (s (x / 2) (y / 2)) (d (x / 2) (y / 2))) (a (x / 2) y)

unfoldable pub tower : ℕ → Map → Tower
tower k p = record { top = halved_times k p 0 0; downs = λ l. down (halved_times l p); acrosses = λ l. across (halved_times l p) }

unfoldable pub shown : ℕ → Tower → (below : ℕ) → Map
shown k t zero = λ x y. t.top
shown k t (suc u) = joined (shown k t u) (t.acrosses (k - suc u)) (t.downs (k - suc u))

unfoldable pub at_level : ℕ → Tower → ℕ → Map
at_level k t l = shown k t (k - l)

unfoldable pub begins : (k l : ℕ) → ℕ
begins k l = power (k - suc l) * power (k - suc l)

unfoldable pub tower_in : ℕ → List ℤ → Tower
tower_in k ts = record {
  top = slice_index_or ts 0 (pos 0);
  downs = λ l x y. slice_index_or ts (begins k l + (y * power (k - suc l) + x)) (pos 0);
  acrosses = λ l x y. slice_index_or ts (2 * begins k l + (y * power (k - suc l) + x)) (pos 0);
}

pub record SameTower (k : ℕ) (t s : Tower) : Type 0 where
  pub top : t.top ≡ s.top
  pub downs : (l x y : ℕ) → l < k → x < power (k - suc l) → y < power (k - suc l) → t.downs l x y ≡ s.downs l x y
  pub acrosses : (l x y : ℕ) → l < k → x < power (k - suc l) → y < power (k - l) → t.acrosses l x y ≡ s.acrosses l x y
