-- The laws for maps of 2^k by 2^k places, without sizes, and that both ways of saying it are the same. Assumes nothing.
use Rattle.std.specs.Prelude.{◌≡◌, ℕ, suc, ◌+◌, ◌-◌, ◌*◌, ◌/◌, ◌<◌, ◌≤◌, List, take, ℤ, ◌≤ℤ◌, ◌≢◌}
use Rattle.levels.specs.Maps.{Map, power, size, level, with_height}
use Rattle.levels.specs.Towers as Sized
use Rattle.levels.specs.Towers.{Tower}
use Rattle.levels.specs.Numbering as SizedNumbers
use Rattle.levels.specs.Square.{across, down, halved_times, tower, at_level, tower_in, SameTower}

-- at 2^k by 2^k places levels, towers, numbering and what is shown are the same
pub record AsSquare (k : ℕ) : Type 0 where
  pub sizes : (l : ℕ) → l ≤ k → size l (power k) ≡ power (k - l)
  pub levels : (l x y : ℕ) (p : Map) → l ≤ k → x < power (k - l) → y < power (k - l) → level l (power k) (power k) p x y ≡ halved_times l p x y
  pub towers : (p : Map) → SameTower k (Sized.tower k (power k) (power k) p) (tower k p)
  pub numbering : (ts : List ℤ) → SameTower k (SizedNumbers.tower_in (power k) (power k) ts) (tower_in k ts)
  pub same : (t s : Tower) → (Sized.SameTower k (power k) (power k) t s → SameTower k t s) × (SameTower k t s → Sized.SameTower k (power k) (power k) t s)
  pub shows : (l x y : ℕ) (t : Tower) → l ≤ k → x < power (k - l) → y < power (k - l) → Sized.at_level k (power k) (power k) t l x y ≡ at_level k t l x y

abbrev pub BothTheSame : Type 0
BothTheSame = (k : ℕ) → AsSquare k

abbrev pub ShowsAll : Type 0
ShowsAll =
    (k l : ℕ) (p : Map) (x y : ℕ) → l ≤ k → x < power (k - l) → y < power (k - l) → at_level k (tower k p) l x y ≡ halved_times l p x y

-- numbers that are those of the tower of a map show that map at each level
abbrev pub ShowsHeld : Type 0
ShowsHeld =
    (k l : ℕ) (t : Tower) (p : Map) (x y : ℕ) → l ≤ k → x < power (k - l) → y < power (k - l) → SameTower k t (tower k p) →
    at_level k t l x y ≡ halved_times l p x y

abbrev pub Between : Type 0
Between =
    (l : ℕ) (p : Map) (x y : ℕ) (a b : ℤ) →
    ((u v : ℕ) → x * power l ≤ u → u < (x + 1) * power l → y * power l ≤ v → v < (y + 1) * power l → (a ≤ℤ p u v) × (p u v ≤ℤ b)) →
    (a ≤ℤ halved_times l p x y) × (halved_times l p x y ≤ℤ b)

abbrev pub ChangesFew : Type 0
ChangesFew =
    (k l : ℕ) (p : Map) (x y u v : ℕ) (g : ℤ) → l < k →
    ((u ≡ x / power (suc l) → v ≢ y / power l) → across (halved_times l (with_height p x y g)) u v ≡ across (halved_times l p) u v)
    × ((u ≡ x / power (suc l) → v ≢ y / power (suc l)) → down (halved_times l (with_height p x y g)) u v ≡ down (halved_times l p) u v)

abbrev pub WindowOnly : Type 0
WindowOnly =
    (k l : ℕ) (t s : Tower) (x y : ℕ) → l ≤ k → t.top ≡ s.top →
    ((m : ℕ) → l ≤ m → m < k →
    ((v : ℕ) → v / 2 ≡ y / power (suc m - l) → t.acrosses m (x / power (suc m - l)) v ≡ s.acrosses m (x / power (suc m - l)) v)
    × (t.downs m (x / power (suc m - l)) (y / power (suc m - l)) ≡ s.downs m (x / power (suc m - l)) (y / power (suc m - l)))) →
    at_level k t l x y ≡ at_level k s l x y

abbrev pub PartIsTower : Type 0
PartIsTower =
    (k l : ℕ) (p : Map) (ts : List ℤ) → l ≤ k → SameTower k (tower_in k ts) (tower k p) →
    SameTower (k - l) (tower_in (k - l) (take (power (k - l) * power (k - l)) ts)) (tower (k - l) (halved_times l p))
