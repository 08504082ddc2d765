-- A place of a line above the mean of its pair, and a place of a map above the one it comes to a level up. Assumes nothing.
use Rattle.std.proofs.Common.{◌≡◌, ℕ, ◌+◌, ◌*◌, ◌/◌, ◌%◌, ◌<◌, ◌≤◌, ℤ, pos, ◌+ℤ◌, sym, ap, ◌∙◌, ⊎_elim, arith, w32, SFits}
use borrow.Author.Differences.{ints}
use Rattle.std.specs.Int.{int_wrap}
use Rattle.std.proofs.lemmas.Int.{int_wrap-add_right, int_wrap_fits}
use Rattle.std.proofs.lemmas.Bool.{cases_eq}
use Rattle.pairs.specs.Pairs.{Difference, Height, first_of, one_of, second_of}
use Rattle.pairs.proofs.Half.{one_first, one_second}
use Rattle.levels.specs.Maps.{line_up, apart}
use Rattle.levels.proofs.Lines.{down_pair, down_last, line_back, apart_difference}
use Rattle.places.specs.Lines.{Heights}

-- what a difference adds does not depend on the mean
one_above : (x : ℕ) (m d : ℤ) → one_of x m d ≡ m +ℤ one_of x (pos 0) d
unfolding first_of second_of
one_above x m d = ⊎_elim
    (λ (e : x % 2 ≡ 0). rw (one_first x m d e, one_first x (pos 0) d e) (omega (arith, ints)))
    (λ (n : x % 2 ≡ 0 → ⊥). let o : x % 2 ≡ 1 = omega arith in rw (one_second x m d o, one_second x (pos 0) d o) (omega (arith, ints)))
    (cases_eq (x % 2) 0)

-- any place of a line of heights
module _ (n : ℕ) (f : ℕ → ℤ) (x : ℕ) (hx : x < n) where
  pub last_rises : n ≤ 2 * (x / 2) + 1 → f x ≡ line_up n f (x / 2) +ℤ pos 0
  last_rises alone =
      let e : line_up n f (x / 2) ≡ f x = sym (down_last n x (line_up n f (x / 2)) (apart f (x / 2)) alone) ∙ line_back n f x hx in
      omega (arith, ints)

  module _ (d r : ℤ) (whole : 2 * (x / 2) + 1 < n) (hf : Heights n f) (ed : d ≡ apart f (x / 2)) where
    is_difference : Difference d
    is_difference = rw ed (apart_difference f (x / 2) (hf (2 * (x / 2)) (omega arith)) (hf (2 * (x / 2) + 1) whole))

    back : f x ≡ one_of x (line_up n f (x / 2)) d
    back = rw ed (sym (line_back n f x hx) ∙ down_pair n x (line_up n f (x / 2)) (apart f (x / 2)) whole)

    pub one_rises : (Height (pos 0) → Difference d → r ≡ one_of x (pos 0) d) → f x ≡ line_up n f (x / 2) +ℤ r
    one_rises e = rw (e (omega (arith, ints)) is_difference) (back ∙ one_above x _ d)

-- both rises of a level together: heights do not wrap
pub level_rises : (g m q a d : ℤ) → Height g → Height q → g ≡ m +ℤ a → m ≡ q +ℤ d → g ≡ q +ℤ int_wrap w32 (a +ℤ d)
level_rises g m q a d hg hq ea ed =
    let f : SFits w32 (a +ℤ d) = omega (arith, ints) in
    let e : int_wrap w32 (a +ℤ d) ≡ a +ℤ d = int_wrap_fits w32 (a +ℤ d) f in
    omega (arith, ints)

-- a level more in the sum
pub sum_rises : (g q s r : ℤ) → g ≡ q +ℤ r → int_wrap w32 (q +ℤ int_wrap w32 (s +ℤ r)) ≡ int_wrap w32 (g +ℤ s)
sum_rises g q s r e =
    let o : q +ℤ (s +ℤ r) ≡ g +ℤ s = omega (arith, ints) in
    int_wrap-add_right w32 q (s +ℤ r) ∙ ap (int_wrap w32) o

-- the top to it
pub sum_shown : (t q s g : ℤ) → t ≡ q → int_wrap w32 (q +ℤ s) ≡ g → int_wrap w32 (s +ℤ t) ≡ g
sum_shown t q s g et e = let o : s +ℤ t ≡ q +ℤ s = omega (arith, ints) in rw o e
