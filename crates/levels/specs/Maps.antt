-- Maps of any width and height, and what halving makes of them. Assumes nothing: these are definitions.
--     Map                 a height at each place, x across and y down, counted from 0
--     power, size         2 to a power; how many places a line has at a level
--     paired              the pair i of a line of n places is whole: a last place may have no neighbour
--     line_up, apart, line_down     a line one level up, the difference of a pair of it, and a place of it again
--     means, across       each row one level up, and its differences
--     halved, down        the columns of those means one level up, and their differences
--     joined              the map again, from the halved one and the differences
--     level               the map halved so often; level 0 is the map itself
--     with_height         the map with one height changed
use Rattle.std.specs.Prelude.{ℕ, zero, suc, ◌+◌, ◌*◌, ◌/◌, Bool, if◌then◌else◌, ◌&&◌, ℤ, ◌==◌, nat_lt}
use Rattle.pairs.specs.Pairs.{mean_of, difference_of, one_of}

abbrev pub Map : Type 0
Map = ℕ → ℕ → ℤ

unfoldable pub power : ℕ → ℕ
power zero = 1
power (suc n) = 2 * power n

-- half as many, rounded up, at each level
unfoldable pub size : ℕ → ℕ → ℕ
size zero n = n
size (suc l) n = (size l n + 1) / 2

abbrev pub paired : ℕ → ℕ → Bool
paired n i = nat_lt (2 * i + 1) n

-- a pair goes up as its mean, a last place alone as it is
unfoldable pub line_up : ℕ → (ℕ → ℤ) → ℕ → ℤ
line_up n f i = if paired n i then mean_of (f (2 * i)) (f (2 * i + 1)) else f (2 * i)

unfoldable pub apart : (ℕ → ℤ) → ℕ → ℤ
apart f i = difference_of (f (2 * i)) (f (2 * i + 1))

-- the place x of a line of n, from what its pair went up as and the difference, if it has one
unfoldable pub line_down : ℕ → ℕ → ℤ → ℤ → ℤ
line_down n x m d = if paired n (x / 2) then one_of x m d else m

-- rows first
unfoldable pub means : ℕ → Map → Map
means w p x y = line_up w (λ u. p u y) x

unfoldable pub across : Map → Map
across p x y = apart (λ u. p u y) x

-- and then the columns of what is left
unfoldable pub halved : (w h : ℕ) → Map → Map
halved w h p x y = line_up h (means w p x) y

unfoldable pub down : ℕ → Map → Map
down w p x y = apart (means w p x) y

-- columns first on the way back, and then rows
unfoldable pub joined : (w h : ℕ) → (small acrosses downs : Map) → Map
joined w h s a d x y = line_down w x (line_down h y (s (x / 2) (y / 2)) (d (x / 2) (y / 2))) (a (x / 2) y)

unfoldable pub level : ℕ → (w h : ℕ) → Map → Map
level zero w h p = p
level (suc l) w h p = halved (size l w) (size l h) (level l w h p)

unfoldable pub with_height : Map → ℕ → ℕ → ℤ → Map
with_height p x y g u v = if u == x && v == y then g else p u v
