-- A pair of a line with one of its heights raised. Assumes nothing.
use Rattle.std.proofs.Common.{◌≡◌, ℕ, ◌+◌, ◌-◌, ◌*◌, ◌/◌, ◌%◌, ◌^◌, ◌<◌, ◌≤◌, ℤ, pos, negsuc, ◌+ℤ◌, ◌-ℤ◌, sym, refl, ap, ◌∙◌, ⊎_elim, arith, w32, SFits, to_z, of_z}
use borrow.Author.Differences.{ints}
use lib.Bits.{bit_and}
use lib.Signed.{shr_z}
use Rattle.std.specs.Int.{int_wrap}
use Rattle.std.proofs.lemmas.Nat.{and_mask}
use Rattle.std.proofs.lemmas.Int.{to_z-of_z, to_z_pos, int_wrap_fits, wrapping_add_onto, wrapping_add_is, wrapping_sub_is}
use Rattle.std.proofs.lemmas.Bool.{cases_eq}
use Rattle.pairs.specs.Pairs.{half, Difference}
use Rattle.pairs.proofs.Half.{half_is}
use Rattle.pairs.proofs.Exact.{shift_bits}
use Rattle.levels.specs.Maps.{line_up, apart}
use Rattle.levels.proofs.Lines.{up_pair, up_last, apart_difference}
use Rattle.places.specs.Lines.{Heights}
use Rattle.changes.specs.Carried.{Raised}

-- a number is twice its half and its lowest bit
lowest_bit : (d : ℤ) → SFits w32 d → d ≡ half d +ℤ half d +ℤ pos (of_z w32 d % 2)
unfolding half
lowest_bit (pos n) f = omega (arith, ints)
lowest_bit (negsuc n) f = omega (arith, ints)

-- a sum and a difference have the same lowest bit, so half of the bit and the rise is what the mean rises by
mean_rises : (a b d by : ℤ) → SFits w32 d → d ≡ a -ℤ b → half (a +ℤ b +ℤ by) ≡ half (a +ℤ b) +ℤ half (pos (of_z w32 d % 2) +ℤ by)
mean_rises a b d by f e = let l = lowest_bit d f in omega (arith, ints, half_is)

-- the same of bits
pub mean_bits : (a b d by : ℤ) → SFits w32 d → SFits w32 by → Difference by → d ≡ a -ℤ b →
    half (a +ℤ b +ℤ by) ≡ half (a +ℤ b) +ℤ to_z w32 (of_z w32 (shr_z (to_z w32 ((bit_and (of_z w32 d) 1 + of_z w32 by) % 2 ^ 32)) 2))
mean_bits a b d by fd fb hb e =
    let n : ℕ = bit_and (of_z w32 d) 1 in
    let bit : n ≡ of_z w32 d % 2 = and_mask (of_z w32 d) 1 in
    let f : SFits w32 (pos n +ℤ by) = omega (arith, ints) in
    let sum : to_z w32 ((n + of_z w32 by) % 2 ^ 32) ≡ pos n +ℤ by = wrapping_add_onto w32 n by (omega arith) fb ∙ ap (λ z. int_wrap w32 (z +ℤ by)) (to_z_pos w32 n (omega arith)) ∙ int_wrap_fits w32 (pos n +ℤ by) f in
    let shift : to_z w32 (of_z w32 (shr_z (pos n +ℤ by) 2)) ≡ half (pos n +ℤ by) = rw (to_z-of_z w32 (pos n +ℤ by) f) at (shift_bits (pos n +ℤ by) f) in
    rw (sum, shift, bit) (mean_rises a b d by fd e)

-- a line of which the height at x is raised
module _ (n : ℕ) (f g : ℕ → ℤ) (x : ℕ) (by : ℤ) (o : Raised f g x by) where
  pub last_raised : x < n → n ≤ 2 * (x / 2) + 1 → line_up n g (x / 2) ≡ line_up n f (x / 2) +ℤ by
  last_raised hx alone =
      let e : 2 * (x / 2) ≡ x = omega arith in
      rw (up_last n g (x / 2) alone, up_last n f (x / 2) alone, e) o.here

  first_raised : x % 2 ≡ 0 → (g (2 * (x / 2)) ≡ f (2 * (x / 2)) +ℤ by) × (g (2 * (x / 2) + 1) ≡ f (2 * (x / 2) + 1))
  first_raised even = let e : 2 * (x / 2) ≡ x = omega arith in (rw e o.here, o.elsewhere (2 * (x / 2) + 1) (λ u. omega arith))

  second_raised : (x % 2 ≡ 0 → ⊥) → (g (2 * (x / 2)) ≡ f (2 * (x / 2))) × (g (2 * (x / 2) + 1) ≡ f (2 * (x / 2) + 1) +ℤ by)
  second_raised odd = let e : 2 * (x / 2) + 1 ≡ x = omega arith in (o.elsewhere (2 * (x / 2)) (λ u. omega arith), rw e o.here)

  first_apart : x % 2 ≡ 0 → apart g (x / 2) ≡ apart f (x / 2) +ℤ by
  unfolding apart
  first_apart even = let e = first_raised even in omega (arith, ints)

  second_apart : (x % 2 ≡ 0 → ⊥) → apart g (x / 2) ≡ apart f (x / 2) -ℤ by
  unfolding apart
  second_apart odd = let e = second_raised odd in omega (arith, ints)

  sum_raised : g (2 * (x / 2)) +ℤ g (2 * (x / 2) + 1) ≡ f (2 * (x / 2)) +ℤ f (2 * (x / 2) + 1) +ℤ by
  sum_raised = ⊎_elim (λ even. let e = first_raised even in omega (arith, ints)) (λ odd. let e = second_raised odd in omega (arith, ints)) (cases_eq (x % 2) 0)

  pub pair_raised : 2 * (x / 2) + 1 < n → (r : ℤ) → ((a b : ℤ) → apart f (x / 2) ≡ a -ℤ b → half (a +ℤ b +ℤ by) ≡ half (a +ℤ b) +ℤ r) → line_up n g (x / 2) ≡ line_up n f (x / 2) +ℤ r
  unfolding apart
  pair_raised whole r e = rw (up_pair n g (x / 2) whole, up_pair n f (x / 2) whole, sum_raised) (e (f (2 * (x / 2))) (f (2 * (x / 2) + 1)) refl)

  -- of heights nothing wraps
  module _ (hx : x < n) (hf : Heights n f) (hg : Heights n g) where
    pub by_difference : Difference by
    by_difference = let a = hf x hx in let b = hg x hx in let e = o.here in omega (arith, ints)

    module _ (d : ℤ) (fd : SFits w32 d) (fb : SFits w32 by) (whole : 2 * (x / 2) + 1 < n) (ed : d ≡ apart f (x / 2)) where
      apart_fits : SFits w32 (apart g (x / 2))
      apart_fits = let h = apart_difference g (x / 2) (hg (2 * (x / 2)) (omega arith)) (hg (2 * (x / 2) + 1) whole) in omega (arith, ints)

      pub first_bits : x % 2 ≡ 0 → to_z w32 ((of_z w32 d + of_z w32 by) % 2 ^ 32) ≡ apart g (x / 2)
      first_bits even = wrapping_add_is w32 d by fd fb ∙ ap (int_wrap w32) (ap (λ z. z +ℤ by) ed ∙ sym (first_apart even)) ∙ int_wrap_fits w32 (apart g (x / 2)) apart_fits

      pub second_bits : (x % 2 ≡ 0 → ⊥) → to_z w32 ((of_z w32 d + (2 ^ 32 - of_z w32 by)) % 2 ^ 32) ≡ apart g (x / 2)
      second_bits odd = wrapping_sub_is w32 d by fd fb ∙ ap (int_wrap w32) (ap (λ z. z -ℤ by) ed ∙ sym (second_apart odd)) ∙ int_wrap_fits w32 (apart g (x / 2)) apart_fits
