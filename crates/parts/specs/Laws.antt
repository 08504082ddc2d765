-- The laws of parts. Assumes nothing.
use Rattle.std.specs.Prelude.{◌≡◌, ℕ, suc, ◌+◌, ◌-◌, ◌<◌, ◌≤◌, List, ◌++◌, length, ℤ}
use Rattle.levels.specs.Maps.{Map, power}
use Rattle.levels.specs.Numbering.{Holds}
use Rattle.tower.specs.Checks.{places}
use Rattle.tower.specs.Calls.{ShownWindow}
use Rattle.parts.specs.Parts.{coarse_of, detail_of}

-- a tower taken apart at a level and put together again is the coarse part of the next finer level, and at the finest the tower
abbrev pub TogetherAgain : Type 0
TogetherAgain =
    (k : ℕ) (ts : List ℤ) → length ts ≡ places k →
    ((l : ℕ) → l < k → coarse_of k ts (suc l) ++ detail_of k ts l ≡ coarse_of k ts l) × (coarse_of k ts 0 ≡ ts)

-- a window of the coarse part for level j, at a level, is that of the whole tower j levels on: so what calls of `window` leave is the same list
abbrev pub SameWindows : Type 0
SameWindows =
    (k j l x y w h : ℕ) (ts a b : List ℤ) (p : Map) → j ≤ k → l ≤ k - j → length ts ≡ places k → Holds k (power k) (power k) ts p →
    ShownWindow (k - j) (coarse_of k ts j) l x y w h a → ShownWindow k ts (j + l) x y w h b → a ≡ b
