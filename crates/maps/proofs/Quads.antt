-- A quad is the tower of its four heights. Assumes nothing.
use Rattle.std.proofs.Common.{◌≡◌, ℕ, zero, suc, ◌<◌, [], ◌∷◌, ℤ, refl, ◌∙◌, arith}
use Rattle.pairs.specs.Pairs.{Height, Difference, mean_of, difference_of, first_of, second_of}
use Rattle.pairs.proofs.Half.{mean_height, difference_in, both_back_lem}
use Rattle.pairs.proofs.Exact.{bits, read_height, read_difference, pair_read, one_read}
use Rattle.levels.specs.Maps.{size, line_up, apart, means, across, halved, down, level}
use Rattle.levels.specs.Towers.{tower}
use Rattle.levels.specs.Numbering.{map_in, down_index, across_index, tower_in, Holds}
use Rattle.levels.proofs.Held.{two_by_two}
use Rattle.maps.specs.declared.quad.Quad.{Quad}
use Rattle.maps.specs.Quads.{QuadOf, numbers}

module _ (a b c d : ℤ) (ha : Height a) (hb : Height b) (hc : Height c) (hd : Height d) where
  all_heights : (x y : ℕ) → x < 2 → y < 2 → Height (map_in 2 (a ∷ b ∷ c ∷ d ∷ []) x y)
  unfolding map_in
  all_heights zero zero hx hy = ha
  all_heights (suc zero) zero hx hy = hb
  all_heights zero (suc zero) hx hy = hc
  all_heights (suc zero) (suc zero) hx hy = hd
  all_heights zero (suc (suc y)) hx hy = absurd (omega arith)
  all_heights (suc zero) (suc (suc y)) hx hy = absurd (omega arith)
  all_heights (suc (suc x)) zero hx hy = absurd (omega arith)
  all_heights (suc (suc x)) (suc zero) hx hy = absurd (omega arith)
  all_heights (suc (suc x)) (suc (suc y)) hx hy = absurd (omega arith)

  pub quad_holds : (q : Quad) → QuadOf a b c d q → Holds 1 2 2 (numbers q) (map_in 2 (a ∷ b ∷ c ∷ d ∷ []))
  unfolding size line_up apart means across halved down level tower map_in down_index across_index tower_in
  quad_holds q o = record {
    wide = refl;
    high = refl;
    heights = all_heights;
    same = two_by_two (tower_in 2 2 (numbers q)) (tower 1 2 2 (map_in 2 (a ∷ b ∷ c ∷ d ∷ []))) o.mean o.down o.upper o.lower;
  }

  -- what three pairs make of them
  abbrev PairOf : ℤ → ℤ → ℤ → ℤ → Type 0
  PairOf s z m e = Height (bits s) → Height (bits z) → (m ≡ mean_of (bits s) (bits z)) × (e ≡ difference_of (bits s) (bits z))

  pub quad_made : (um ud lm ld mm md : ℤ) → PairOf a b um ud → PairOf c d lm ld → PairOf um lm mm md → QuadOf a b c d (record { mean = bits mm; down = bits md; upper = bits ud; lower = bits ld })
  quad_made um ud lm ld mm md u l m =
      let hu = mean_height a b ha hb in
      let hl = mean_height c d hc hd in
      let eu = pair_read a b um ud a b refl refl ha hb u in
      let el = pair_read c d lm ld c d refl refl hc hd l in
      let em = pair_read um lm mm md (mean_of a b) (mean_of c d) eu.0 el.0 hu hl m in
      record {
        mean = read_height mm _ em.0 (mean_height _ _ hu hl);
        down = read_difference md _ em.1 (difference_in _ _ hu hl);
        upper = read_difference ud _ eu.1 (difference_in a b ha hb);
        lower = read_difference ld _ el.1 (difference_in c d hc hd);
      }

-- a height comes back from its pair, first or second
module _ (a b : ℤ) (ha : Height a) (hb : Height b) (s z r : ℤ) (es : s ≡ mean_of a b) (ez : z ≡ difference_of a b) where
  pub first_back : (Height (bits s) → Difference (bits z) → r ≡ first_of (bits s) (bits z)) → r ≡ a
  first_back o = one_read first_of s z r (mean_of a b) (difference_of a b) es ez (mean_height a b ha hb) (difference_in a b ha hb) o ∙ (both_back_lem a b).0

  pub second_back : (Height (bits s) → Difference (bits z) → r ≡ second_of (bits s) (bits z)) → r ≡ b
  second_back o = one_read second_of s z r (mean_of a b) (difference_of a b) es ez (mean_height a b ha hb) (difference_in a b ha hb) o ∙ (both_back_lem a b).1
