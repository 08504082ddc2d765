-- When a call on a tower of 2^k by 2^k places is refused: the first test that applies, in this order. Assumes nothing: these are definitions.
--     places              how many places a map has
--     is_height, first_wrong     a height; the first place of a map that is missing, too many or no height
--     is_on_side          a stretch of places, from one on, lies within a side
--     build_refusal, window_refusal, change_refusal     the refusal of a call, or none
use Rattle.std.specs.Prelude.{ℕ, zero, suc, ◌+◌, ◌-◌, ◌*◌, min, Bool, false, if◌then◌else◌, not, ◌&&◌, List, [], ◌∷◌, ℤ, pos, negsuc, Some, None, Option, ◌==◌, nat_le, nat_lt}
use Rattle.pairs.specs.Pairs.{max_height}
use Rattle.levels.specs.Maps.{power}
use Rattle.maps.specs.Limits.{max_k}
use Rattle.refusals.specs.declared.Refusal.{Refusal}
use Rattle.refusals.specs.declared.Refusal.TheVariants.{TooManyLevels, WrongNumber, WrongRoom, NoSuchLevel, OffTheMap, TooHigh}
use Rattle.refusals.specs.Refusals.{refused_if}

unfoldable pub places : ℕ → ℕ
places k = power k * power k

abbrev pub is_height : ℤ → Bool
is_height (pos n) = nat_le n max_height
is_height (negsuc n) = false

-- of n places, the first of which is counted as `at`
unfoldable pub first_wrong : (n at : ℕ) → List ℤ → Option ℕ
first_wrong zero at [] = None
first_wrong zero at (z ∷ zs) = Some at
first_wrong (suc n) at [] = Some at
first_wrong (suc n) at (z ∷ zs) = if is_height z then first_wrong n (suc at) zs else Some at

abbrev pub wrong_at : Option ℕ → Option Refusal → Option Refusal
wrong_at (Some at) later = Some (WrongNumber at)
wrong_at None later = later

unfoldable pub is_on_side : (side from many : ℕ) → Bool
is_on_side s x n = nat_lt x s && nat_le (x + n) s

unfoldable pub build_refusal : (k : ℕ) → (heights : List ℤ) → (room : ℕ) → Option Refusal
build_refusal k hs room =
    refused_if (nat_lt max_k k) (TooManyLevels k)
    (wrong_at (first_wrong (places k) 0 hs)
    (refused_if (not (room == places k)) (WrongRoom room) None))

-- of a tower nothing is asked but its length
unfoldable pub window_refusal : (k tower level x y wide high room : ℕ) → Option Refusal
window_refusal k n l x y w h room =
    refused_if (nat_lt max_k k) (TooManyLevels k)
    (refused_if (not (n == places k)) (WrongNumber (min n (places k)))
    (refused_if (nat_lt k l) NoSuchLevel
    (refused_if (not (is_on_side (power (k - l)) x w && is_on_side (power (k - l)) y h)) OffTheMap
    (refused_if (not (room == w * h)) (WrongRoom room) None))))

unfoldable pub change_refusal : (k tower x y height : ℕ) → Option Refusal
change_refusal k n x y g =
    refused_if (nat_lt max_k k) (TooManyLevels k)
    (refused_if (not (n == places k)) (WrongNumber (min n (places k)))
    (refused_if (not (nat_lt x (power k) && nat_lt y (power k))) OffTheMap
    (refused_if (nat_lt max_height g) TooHigh None)))
