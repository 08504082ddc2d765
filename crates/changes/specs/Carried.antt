-- One height changed, in a line and in the numbers of a tower. Assumes nothing: these are definitions.
--     Raised              a line is another one with the height at one place raised by a number, which may be below 0
--     Carried             numbers that begin with the tower of a map begin with that of the map so raised, and but for what a change touches they are as they were
use Rattle.std.specs.Prelude.{◌≡◌, ℕ, List, ℤ, pos, ◌+ℤ◌, ◌≢◌, slice_index_or}
use Rattle.std.specs.List.{ContainsAt}
use Rattle.pairs.specs.Pairs.{Height}
use Rattle.levels.specs.Maps.{Map, size, with_height}
use Rattle.levels.specs.Numbering.{Holds, touched}

pub record Raised (f g : ℕ → ℤ) (x : ℕ) (by : ℤ) : Type 0 where
  pub here : g x ≡ f x +ℤ by
  pub elsewhere : (u : ℕ) → (u ≢ x) → g u ≡ f u

pub record Carried (w h x y : ℕ) (by : ℤ) (ts us : List ℤ) : Type 0 where
  pub holds : (k : ℕ) (p : Map) → Holds k w h ts p → Height (p x y +ℤ by) → Holds k w h us (with_height p x y (p x y +ℤ by))
  pub rest : (k i : ℕ) → size k w ≡ 1 → size k h ≡ 1 → (ContainsAt (touched k w h x y) i → ⊥) → slice_index_or us i (pos 0) ≡ slice_index_or ts i (pos 0)
