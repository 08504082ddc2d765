-- The bits of several numbers together. Assumes nothing.
use Rattle.std.proofs.Common.{◌≡◌, ℕ, ◌^◌, ◌<◌, ◌≤◌, ℤ, pos, negsuc, arith, w32, SFits, to_z, of_z}
use borrow.Author.Differences.{ints}
use lib.Bits.{bit_or, or_add_and}
use Rattle.std.proofs.lemmas.Nat.{and_le_l, and_le_r, or_lt}
use Rattle.std.proofs.lemmas.Int.{of_z-to_z, to_z_pos}
use Rattle.pairs.specs.Pairs.{Height}

height_bits : (z : ℤ) → Height z → of_z w32 z ≤ 65535
height_bits (pos n) h = omega (arith, ints)
height_bits (negsuc n) h = absurd (omega (arith, ints))

low : (n : ℕ) → n < 4294967296 → Height (to_z w32 n) → n ≤ 65535
low n hn h = rw (of_z-to_z w32 n hn) at (height_bits (to_z w32 n) h)

-- where two numbers together make a height, both are heights
pub together : (m : ℕ) (b z : ℤ) → to_z w32 m ≡ b → m < 4294967296 → SFits w32 z → Height (to_z w32 (bit_or m (of_z w32 z))) → Height b × Height z
together m b z e hm fz h =
    let hn : of_z w32 z < 4294967296 = omega (arith, ints) in
    let t = low (bit_or m (of_z w32 z)) (or_lt 32 m (of_z w32 z) hm hn) h in
    let s = or_add_and m (of_z w32 z) in
    let lm : m ≤ 65535 = omega (arith, and_le_r m (of_z w32 z)) in
    let lz : of_z w32 z ≤ 65535 = omega (arith, and_le_l m (of_z w32 z)) in
    (omega (arith, ints), omega (arith, ints))

-- and where both are heights, so are they together
pub both_together : (m : ℕ) (b z : ℤ) → to_z w32 m ≡ b → m < 4294967296 → SFits w32 z → Height b → Height z → Height (to_z w32 (bit_or m (of_z w32 z)))
both_together m b z e hm fz hb hz =
    let lm : m ≤ 65535 = rw (of_z-to_z w32 m hm) at (height_bits (to_z w32 m) (rw e hb)) in
    let lz : of_z w32 z ≤ 65535 = height_bits z hz in
    let lo : bit_or m (of_z w32 z) < 2 ^ 16 = or_lt 16 m (of_z w32 z) (omega arith) (omega arith) in
    let p : to_z w32 (bit_or m (of_z w32 z)) ≡ pos (bit_or m (of_z w32 z)) = to_z_pos w32 (bit_or m (of_z w32 z)) (omega arith) in
    rw p (omega (arith, ints))
