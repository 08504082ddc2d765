-- How many places maps of more and more levels have. Assumes nothing.
use Rattle.std.proofs.Common.{◌≡◌, ℕ, suc, ◌+◌, ◌-◌, ◌*◌, ◌≤◌, mul-le-mul, arith}
use Rattle.levels.specs.Maps.{power}
use Rattle.levels.proofs.Sizes.{power_more}
use Rattle.tower.specs.Checks.{places}

pub places_four : (k : ℕ) → places (suc k) ≡ 4 * places k
unfolding places power
places_four k = omega arith

-- a coarser level has no more
pub places_less : (k l : ℕ) → l ≤ k → places (k - l) ≤ places k
unfolding places
places_less k l h = let e : k - l + l ≡ k = omega arith in let m : power (k - l) ≤ power k = rw e at (power_more (k - l) l) in mul-le-mul m m
