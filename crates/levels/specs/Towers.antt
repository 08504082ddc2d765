-- The tower of a map: the one height that is left at the top and, for each level, what leads down to it. Assumes nothing: these are definitions.
--     Tower               a top, and differences down and across for each level
--     tower               that of a map which is halved k times
--     shown, at_level     the map that a tower shows so many levels below its top, and at a level
--     levels              how often a map is halved until it is one place
--     SameTower           two towers have the same numbers, wherever there are any
use Rattle.std.specs.Prelude.{◌≡◌, ℕ, zero, suc, ◌+◌, ◌-◌, ◌/◌, ◌<◌, max, if◌then◌else◌, ℤ, nat_le}
use Rattle.levels.specs.Maps.{Map, size, across, down, joined, level}

-- the differences of a level lead to it from the next coarser one
pub record Tower : Type 0 where
  pub top : ℤ
  pub downs : ℕ → Map
  pub acrosses : ℕ → Map

unfoldable pub tower : (k w h : ℕ) → Map → Tower
tower k w h p = record { top = level k w h p 0 0; downs = λ l. down (size l w) (level l w h p); acrosses = λ l. across (level l w h p) }

unfoldable pub shown : (k w h : ℕ) → Tower → (below : ℕ) → Map
shown k w h t zero = λ x y. t.top
shown k w h t (suc u) = joined (size (k - suc u) w) (size (k - suc u) h) (shown k w h t u) (t.acrosses (k - suc u)) (t.downs (k - suc u))

unfoldable pub at_level : (k w h : ℕ) → Tower → ℕ → Map
at_level k w h t l = shown k w h t (k - l)

-- a line of n places is halved at most n times
unfoldable pub halvings : (most n : ℕ) → ℕ
halvings zero n = 0
halvings (suc f) n = if nat_le n 1 then 0 else suc (halvings f ((n + 1) / 2))

unfoldable pub levels : (w h : ℕ) → ℕ
levels w h = halvings (max w h) (max w h)

pub record SameTower (k w h : ℕ) (t s : Tower) : Type 0 where
  pub top : t.top ≡ s.top
  pub downs : (l x y : ℕ) → l < k → x < size (suc l) w → y < size l h / 2 → t.downs l x y ≡ s.downs l x y
  pub acrosses : (l x y : ℕ) → l < k → x < size l w / 2 → y < size l h → t.acrosses l x y ≡ s.acrosses l x y
