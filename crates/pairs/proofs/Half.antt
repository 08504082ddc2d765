-- Half of a number, and the law of a pair. Assumes nothing.
use Rattle.std.proofs.Common.{◌≡◌, ℕ, ◌+◌, ◌*◌, ◌%◌, ◌≤◌, ℤ, pos, negsuc, arith}
use borrow.Author.Differences.{up, down, ints}
use Rattle.std.proofs.lemmas.Bool.{eq-eqb, ne_eqb}
use Rattle.pairs.specs.Pairs.{Height, Difference, half, mean_of, difference_of, first_of, second_of, one_of, BothBack}

-- twice the half is the number or one less; an integer z is read as `up z - down z`, so that `omega (arith, ints, half_is)` knows halves
pub half_is : (z : ℤ) → (2 * up (half z) + down z ≤ up z + 2 * down (half z)) × (up z + 2 * down (half z) ≤ 2 * up (half z) + down z + 1)
unfolding half
half_is (pos n) = omega arith
half_is (negsuc n) = omega arith

pub both_back_lem : BothBack
unfolding first_of second_of
both_back_lem a b = (omega (arith, ints, half_is), omega (arith, ints, half_is))

-- the mean of heights is a height, and what parts them a difference
pub mean_height : (a b : ℤ) → Height a → Height b → Height (mean_of a b)
mean_height a b ha hb = omega (arith, ints, half_is)

pub difference_in : (a b : ℤ) → Height a → Height b → Difference (difference_of a b)
difference_in a b ha hb = omega (arith, ints)

pub one_first : (x : ℕ) (m d : ℤ) → x % 2 ≡ 0 → one_of x m d ≡ first_of m d
unfolding one_of
one_first x m d e = rw (eq-eqb (x % 2) 0 e)

pub one_second : (x : ℕ) (m d : ℤ) → x % 2 ≡ 1 → one_of x m d ≡ second_of m d
unfolding one_of
one_second x m d e = rw (ne_eqb (x % 2) 0 (omega arith))
