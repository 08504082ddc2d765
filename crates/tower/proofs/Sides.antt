-- The side of a map, where there are not too many levels. Assumes nothing.
use Rattle.std.proofs.Common.{◌≡◌, ℕ, ◌<◌, ◌≤◌, ◌*◌, ◌-◌, ◌+◌, Some, None, Option, Result, refl, mul-le-mul, arith}
use Rattle.std.specs.Option.{MatchOption, ok_or}
use Rattle.std.specs.Result.{MatchResult}
use Rattle.levels.specs.Maps.{power}
use Rattle.levels.proofs.Sizes.{power_pos, power_most, power_more}
use Rattle.maps.specs.Limits.{max_k}
use Rattle.refusals.specs.declared.Refusal.{Refusal}
use Rattle.refusals.specs.declared.Refusal.TheVariants.{TooManyLevels}
use Rattle.tower.specs.Known.{SideOf}

pub side_told : (k : ℕ) (o : Option ℕ) (r : Result ℕ Refusal) → MatchOption o (max_k < k) (λ s. (k ≤ max_k) × (s ≡ power k)) → r ≡ ok_or o (TooManyLevels k) → MatchResult r (λ s. SideOf k s) (λ e. (max_k < k) × (e ≡ TooManyLevels k))
side_told k None r h e = rw e (h, refl)
side_told k (Some s) r h e =
    let p = power_pos k in
    let m = power_most k h.0 in
    let v = h.1 in
    rw e (record { levels = h.0; value = v; some = omega arith; small = omega arith })

-- a level has no more places than the map
pub level_within : (k l n s : ℕ) → l ≤ k → s ≡ power (k - l) → n ≡ power k * power k → s * s ≤ n
level_within k l n s hl es en =
    let e : k - l + l ≡ k = omega arith in
    let p : power (k - l) ≤ power k = rw e at (power_more (k - l) l) in
    rw (es, en) (mul-le-mul p p)
