-- Two heights that become their mean and their difference, and back. Assumes nothing: these are definitions.
--     Height, Difference  the heights of a map, 0 to 65,535, and what two of them can differ by
--     half                half of a number, rounded toward what is smaller, below 0 too: half of -3 is -2
--     mean_of, difference_of     what a pair becomes: its mean, rounded down, and the left less the right
--     first_of, second_of, one_of     the pair again, from its mean and its difference, and the one of it at a place
--     BothBack            the law of a pair
use Rattle.std.specs.Prelude.{◌≡◌, ℕ, ◌/◌, ◌%◌, if◌then◌else◌, ℤ, pos, negsuc, ◌+ℤ◌, ◌-ℤ◌, neg_ℤ, ◌≤ℤ◌, ◌==◌}

abbrev pub max_height : ℕ
max_height = 65535

abbrev pub Height : ℤ → Type 0
Height z = (pos 0 ≤ℤ z) × (z ≤ℤ pos max_height)

abbrev pub Difference : ℤ → Type 0
Difference z = (neg_ℤ (pos max_height) ≤ℤ z) × (z ≤ℤ pos max_height)

unfoldable pub half : ℤ → ℤ
half (pos n) = pos (n / 2)
half (negsuc n) = negsuc (n / 2)

abbrev pub mean_of : ℤ → ℤ → ℤ
mean_of a b = half (a +ℤ b)

abbrev pub difference_of : ℤ → ℤ → ℤ
difference_of a b = a -ℤ b

unfoldable pub first_of : ℤ → ℤ → ℤ
first_of m d = m +ℤ half (d +ℤ pos 1)

unfoldable pub second_of : ℤ → ℤ → ℤ
second_of m d = first_of m d -ℤ d

-- the first stands at an even place, the second at the odd one after it
unfoldable pub one_of : ℕ → ℤ → ℤ → ℤ
one_of x m d = if x % 2 == 0 then first_of m d else second_of m d

-- mean and difference give back both, of any two numbers
abbrev pub BothBack : Type 0
BothBack = (a b : ℤ) → (first_of (mean_of a b) (difference_of a b) ≡ a) × (second_of (mean_of a b) (difference_of a b) ≡ b)
