-- Numbers of 32 bits: a shift halves, and what fits does not wrap. Assumes nothing.
use Rattle.std.proofs.Common.{◌≡◌, ℤ, pos, negsuc, ◌+ℤ◌, ◌-ℤ◌, refl, ap, ◌∙◌, lt_of_le_of_lt, arith, w32, SFits, to_z, of_z}
use borrow.Author.Differences.{ints}
use lib.Signed.{shr_z, mag_shr}
use Rattle.std.specs.Int.{int_wrap}
use Rattle.std.proofs.lemmas.Int.{to_z-of_z, int_wrap_fits}
use Rattle.pairs.specs.Pairs.{half, mean_of, difference_of, first_of, second_of, Height, Difference}
use Rattle.pairs.proofs.Half.{half_is}

pub shift_is : (z : ℤ) → shr_z z 2 ≡ half z
unfolding half
shift_is (pos n) = refl
shift_is (negsuc n) = refl

half_fits : (z : ℤ) → SFits w32 z → SFits w32 (shr_z z 2)
half_fits z f = record { sfits = lt_of_le_of_lt (mag_shr z 2) f.sfits }

-- a shift of the bits of z by one
pub shift_bits : (z : ℤ) → SFits w32 z → to_z w32 (of_z w32 (shr_z (to_z w32 (of_z w32 z)) 2)) ≡ half z
shift_bits z f = rw (to_z-of_z w32 z f) (to_z-of_z w32 (shr_z z 2) (half_fits z f) ∙ shift_is z)

-- of heights and differences nothing wraps
pub mean_exact : (a b : ℤ) → Height a → Height b → half (int_wrap w32 (a +ℤ b)) ≡ half (a +ℤ b)
mean_exact a b ha hb = let f : SFits w32 (a +ℤ b) = omega (arith, ints) in ap half (int_wrap_fits w32 (a +ℤ b) f)

pub difference_exact : (a b : ℤ) → Height a → Height b → int_wrap w32 (a -ℤ b) ≡ a -ℤ b
difference_exact a b ha hb = let f : SFits w32 (a -ℤ b) = omega (arith, ints) in int_wrap_fits w32 (a -ℤ b) f

module _ (m d : ℤ) (hm : Height m) (hd : Difference d) where
  up_exact : half (int_wrap w32 (d +ℤ pos 1)) ≡ half (d +ℤ pos 1)
  up_exact = let f : SFits w32 (d +ℤ pos 1) = omega (arith, ints) in ap half (int_wrap_fits w32 (d +ℤ pos 1) f)

  pub first_exact : int_wrap w32 (m +ℤ half (int_wrap w32 (d +ℤ pos 1))) ≡ first_of m d
  unfolding first_of
  first_exact = let f : SFits w32 (m +ℤ half (d +ℤ pos 1)) = omega (arith, ints, half_is) in rw up_exact (int_wrap_fits w32 _ f)

  pub second_exact : int_wrap w32 (m +ℤ half (int_wrap w32 (d +ℤ pos 1)) -ℤ d) ≡ second_of m d
  unfolding first_of second_of
  second_exact = let f : SFits w32 (m +ℤ half (d +ℤ pos 1) -ℤ d) = omega (arith, ints, half_is) in rw up_exact (int_wrap_fits w32 _ f)

-- a number that went to bits and is read again, where it is known to be a height or a difference
pub read_height : (z v : ℤ) → z ≡ v → Height v → to_z w32 (of_z w32 z) ≡ v
read_height z v e h = let f : SFits w32 z = omega (arith, ints) in to_z-of_z w32 z f ∙ e

pub read_difference : (z v : ℤ) → z ≡ v → Difference v → to_z w32 (of_z w32 z) ≡ v
read_difference z v e h = let f : SFits w32 z = omega (arith, ints) in to_z-of_z w32 z f ∙ e

-- what a pair is made of, and what it gives back, where the numbers that went in are known
abbrev pub bits : ℤ → ℤ
bits z = to_z w32 (of_z w32 z)

pub pair_read : (s z m d a b : ℤ) → s ≡ a → z ≡ b → Height a → Height b → (Height (bits s) → Height (bits z) → (m ≡ mean_of (bits s) (bits z)) × (d ≡ difference_of (bits s) (bits z))) → (m ≡ mean_of a b) × (d ≡ difference_of a b)
pair_read s z m d a b es ez ha hb o = (rw (read_height s a es ha, read_height z b ez hb) at o) ha hb

pub one_read : (of : ℤ → ℤ → ℤ) (s z r m d : ℤ) → s ≡ m → z ≡ d → Height m → Difference d → (Height (bits s) → Difference (bits z) → r ≡ of (bits s) (bits z)) → r ≡ of m d
one_read of s z r m d es ez hm hd o = (rw (read_height s m es hm, read_difference z d ez hd) at o) hm hd
