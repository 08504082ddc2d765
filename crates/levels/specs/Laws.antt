-- The laws of halved maps and their towers, for any width and height. Each is a statement; a function of this crate has it as its contract. Assumes nothing.
use Rattle.std.specs.Prelude.{◌≡◌, ℕ, zero, suc, ◌+◌, ◌-◌, ◌*◌, ◌/◌, ◌<◌, ◌≤◌, T, List, length, take, ℤ, pos, ◌+ℤ◌, ◌*ℤ◌, ◌≤ℤ◌, ◌≢◌, slice_index_or}
use Rattle.std.specs.List.{ContainsAt}
use Rattle.levels.specs.Maps.{Map, power, size, paired, across, down, level, with_height}
use Rattle.levels.specs.Towers.{Tower, tower, at_level, levels, SameTower}
use Rattle.levels.specs.Numbering.{tower_in, Holds, Entry, index, There, differences, touched}
use Rattle.levels.specs.Listing.{tower_list}

-- THE MAIN PROMISE: at every level the tower shows the map halved so often, and at level 0 the map itself
abbrev pub ShowsAll : Type 0
ShowsAll =
    (k w h l : ℕ) (p : Map) (x y : ℕ) → size k w ≡ 1 → size k h ≡ 1 → l ≤ k → x < size l w → y < size l h →
    at_level k w h (tower k w h p) l x y ≡ level l w h p x y

-- so does any tower that has its numbers
abbrev pub ShowsHeld : Type 0
ShowsHeld =
    (k w h l : ℕ) (t : Tower) (p : Map) (x y : ℕ) → size k w ≡ 1 → size k h ≡ 1 → l ≤ k → x < size l w → y < size l h → SameTower k w h t (tower k w h p) →
    at_level k w h t l x y ≡ level l w h p x y

-- and for each size there are levels enough
abbrev pub LevelsEnough : Type 0
LevelsEnough = (w h : ℕ) → 0 < w → 0 < h → (size (levels w h) w ≡ 1) × (size (levels w h) h ≡ 1)

-- a place at a level lies between any bounds of the heights of its square
abbrev pub Between : Type 0
Between =
    (l w h : ℕ) (p : Map) (x y : ℕ) (a b : ℤ) → x < size l w → y < size l h →
    ((u v : ℕ) → u < w → v < h → u / power l ≡ x → v / power l ≡ y → (a ≤ℤ p u v) × (p u v ≤ℤ b)) →
    (a ≤ℤ level l w h p x y) × (level l w h p x y ≤ℤ b)

-- a change of one height changes one difference across and one down of each level
abbrev pub ChangesFew : Type 0
ChangesFew =
    (w h l : ℕ) (p : Map) (x y u v : ℕ) (g : ℤ) →
    ((u ≡ x / power (suc l) → v ≢ y / power l) → across (level l w h (with_height p x y g)) u v ≡ across (level l w h p) u v)
    × ((u ≡ x / power (suc l) → v ≢ y / power (suc l)) → down (size l w) (level l w h (with_height p x y g)) u v ≡ down (size l w) (level l w h p) u v)

-- the numbers of a tower and the indices below w * h are one to one
pub record Numbered (k w h : ℕ) : Type 0 where
  pub within : (e : Entry) → There k w h e → index w h e < w * h
  pub apart : (e f : Entry) → There k w h e → There k w h f → index w h e ≡ index w h f → e ≡ f
  pub all : (i : ℕ) → i < w * h → (e : Entry) × There k w h e × (index w h e ≡ i)

abbrev pub NumbersAll : Type 0
NumbersAll = (k w h : ℕ) → size k w ≡ 1 → size k h ≡ 1 → Numbered k w h

-- so in the list at most the top and two numbers of each level change, at known indices
pub record FewTouched (k w h x y : ℕ) : Type 0 where
  pub few : length (touched k w h x y) ≤ 1 + 2 * k
  pub rest : (p : Map) (g : ℤ) (ts us : List ℤ) → SameTower k w h (tower_in w h ts) (tower k w h p) → SameTower k w h (tower_in w h us) (tower k w h (with_height p x y g)) →
      (i : ℕ) → i < w * h → (ContainsAt (touched k w h x y) i → ⊥) → slice_index_or us i (pos 0) ≡ slice_index_or ts i (pos 0)

abbrev pub TouchesFew : Type 0
TouchesFew = (k w h x y : ℕ) → size k w ≡ 1 → size k h ≡ 1 → FewTouched k w h x y

-- two changes at different places may come in either order, and a change back undoes one: of maps
abbrev pub EitherOrder : Type 0
EitherOrder =
    (p : Map) (x y u v : ℕ) (f g : ℤ) → ((x ≡ u) × (y ≡ v) → ⊥) →
    with_height (with_height p x y f) u v g ≡ with_height (with_height p u v g) x y f

abbrev pub Undone : Type 0
Undone = (p : Map) (x y : ℕ) (g : ℤ) → with_height (with_height p x y g) x y (p x y) ≡ p

-- and of towers
abbrev pub TowersEitherOrder : Type 0
TowersEitherOrder =
    (k w h : ℕ) (p : Map) (x y u v : ℕ) (f g : ℤ) → ((x ≡ u) × (y ≡ v) → ⊥) →
    tower k w h (with_height (with_height p x y f) u v g) ≡ tower k w h (with_height (with_height p u v g) x y f)

abbrev pub TowersUndone : Type 0
TowersUndone = (k w h : ℕ) (p : Map) (x y : ℕ) (g : ℤ) → tower k w h (with_height (with_height p x y g) x y (p x y)) ≡ tower k w h p

-- two towers have the same numbers on the way from the top to the place x, y at the level l: of each level one difference across, in the row that leads to the place, and one down
pub record SameWay (k w h l x y : ℕ) (t s : Tower) : Type 0 where
  pub top : t.top ≡ s.top
  pub downs : (m : ℕ) → l ≤ m → m < k → T (paired (size m h) (y / power (suc m - l))) → t.downs m (x / power (suc m - l)) (y / power (suc m - l)) ≡ s.downs m (x / power (suc m - l)) (y / power (suc m - l))
  pub acrosses : (m : ℕ) → l ≤ m → m < k → T (paired (size m w) (x / power (suc m - l))) → t.acrosses m (x / power (suc m - l)) (y / power (m - l)) ≡ s.acrosses m (x / power (suc m - l)) (y / power (m - l))

-- nothing else matters for what is shown there
abbrev pub WindowOnly : Type 0
WindowOnly = (k w h l : ℕ) (t s : Tower) (x y : ℕ) → l ≤ k → SameWay k w h l x y t s → at_level k w h t l x y ≡ at_level k w h s l x y

-- a tower has as many numbers as its map has places
abbrev pub AsMany : Type 0
AsMany = (k w h : ℕ) → size k w ≡ 1 → size k h ≡ 1 → 1 + differences k w h ≡ w * h

-- its first numbers, as many as a level has places, are the tower of the map at that level
abbrev pub PartIsTower : Type 0
PartIsTower =
    (k w h l : ℕ) (p : Map) (ts : List ℤ) → 0 < w → 0 < h → l ≤ k → SameTower k w h (tower_in w h ts) (tower k w h p) →
    SameTower (k - l) (size l w) (size l h) (tower_in (size l w) (size l h) (take (size l w * size l h) ts)) (tower (k - l) (size l w) (size l h) (level l w h p))

-- along each row, or along each column, no height is above the one before it
abbrev pub FallsAcross : (w h : ℕ) → Map → Type 0
FallsAcross w h p = (x y : ℕ) → x + 1 < w → y < h → p (x + 1) y ≤ℤ p x y

abbrev pub FallsDown : (w h : ℕ) → Map → Type 0
FallsDown w h p = (x y : ℕ) → x < w → y + 1 < h → p x (y + 1) ≤ℤ p x y

-- or none is below it
abbrev pub RisesAcross : (w h : ℕ) → Map → Type 0
RisesAcross w h p = (x y : ℕ) → x + 1 < w → y < h → p x y ≤ℤ p (x + 1) y

abbrev pub RisesDown : (w h : ℕ) → Map → Type 0
RisesDown w h p = (x y : ℕ) → x < w → y + 1 < h → p x y ≤ℤ p x (y + 1)

-- then it is so at every level: no brook runs uphill
pub record SlopesKept (l w h : ℕ) (p : Map) : Type 0 where
  pub falls_across : FallsAcross w h p → FallsAcross (size l w) (size l h) (level l w h p)
  pub falls_down : FallsDown w h p → FallsDown (size l w) (size l h) (level l w h p)
  pub rises_across : RisesAcross w h p → RisesAcross (size l w) (size l h) (level l w h p)
  pub rises_down : RisesDown w h p → RisesDown (size l w) (size l h) (level l w h p)

abbrev pub KeepsSlopes : Type 0
KeepsSlopes = (l w h : ℕ) (p : Map) → SlopesKept l w h p

-- where one map is nowhere above another, no level of it is
abbrev pub KeepsOrder : Type 0
KeepsOrder =
    (l w h : ℕ) (p q : Map) → ((x y : ℕ) → x < w → y < h → p x y ≤ℤ q x y) →
    (x y : ℕ) → x < size l w → y < size l h → level l w h p x y ≤ℤ level l w h q x y

-- the sum of the first n of a line, and of the i-th n of it
unfoldable pub line_sum : ℕ → (ℕ → ℤ) → ℤ
line_sum zero f = pos 0
line_sum (suc n) f = line_sum n f +ℤ f n

unfoldable pub block_sum : ℕ → (ℕ → ℤ) → ℕ → ℤ
block_sum n f i = line_sum n (λ u. f (i * n + u))

-- the sum of the heights of the square that the place x, y of level l stands for
unfoldable pub square_sum : ℕ → Map → ℕ → ℕ → ℤ
square_sum l p x y = block_sum (power l) (λ v. block_sum (power l) (λ u. p u v) x) y

-- a place whose square lies wholly on the map is never above the mean of the square's heights, and at most l below it: times the number of the heights, in whole numbers
abbrev pub NearMean : Type 0
NearMean =
    (l w h : ℕ) (p : Map) (x y : ℕ) → (x + 1) * power l ≤ w → (y + 1) * power l ≤ h →
    ((level l w h p x y *ℤ pos (power l * power l)) ≤ℤ square_sum l p x y)
    × (square_sum l p x y ≤ℤ ((level l w h p x y +ℤ pos l) *ℤ pos (power l * power l)))

-- a list of as many numbers as places that holds the tower of a map is that tower written out
abbrev pub ListedTower : Type 0
ListedTower = (k w h : ℕ) (ts : List ℤ) (p : Map) → length ts ≡ w * h → Holds k w h ts p → ts ≡ tower_list k w h p
