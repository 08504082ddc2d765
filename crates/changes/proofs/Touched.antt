-- The indices that a change touches. Assumes nothing.
use Rattle.std.proofs.Common.{ℕ, zero, suc, ◌+◌, ◌*◌, ◌/◌, ◌<◌, ◌≤◌, le_refl, mul-le-mul, arith}
use Rattle.std.specs.List.{ContainsAt, AllByRecursion}
use Rattle.std.proofs.ByRecursion.{All-append, all-has}
use Rattle.std.proofs.lemmas.Bool.{ltb-true, cond_both}
use Rattle.levels.specs.Maps.{size, paired}
use Rattle.levels.specs.Numbering.{across_index, down_index, touched}
use Rattle.levels.proofs.Parts.{across_within, down_within}

all_within : (k w h x y n : ℕ) → x < w → y < h → w * h ≤ n → AllByRecursion (λ i. i < n) (touched k w h x y)
unfolding touched across_index down_index size
all_within zero w h x y n hx hy hn =
    let ew : 1 ≤ w = omega arith in
    let eh : 1 ≤ h = omega arith in
    (omega (arith, mul-le-mul ew eh), tt)
all_within (suc k) w h x y n hx hy hn =
    let ew : (w + 1) / 2 ≤ w = omega arith in
    let eh : (h + 1) / 2 ≤ h = omega arith in
    All-append (λ i. i < n) _ _
    (cond_both (paired w (x / 2)) _ _ (AllByRecursion (λ i. i < n))
    (λ e. let whole = ltb-true (2 * (x / 2) + 1) w e in (omega (arith, across_within w h w h (x / 2) y (le_refl w) (le_refl h) (omega arith) hy), tt))
    (λ _. tt))
    (All-append (λ i. i < n) _ _
    (cond_both (paired h (y / 2)) _ _ (AllByRecursion (λ i. i < n))
    (λ e. let whole = ltb-true (2 * (y / 2) + 1) h e in (omega (arith, down_within w h w h (x / 2) (y / 2) (le_refl w) (le_refl h) (omega arith) (omega arith)), tt))
    (λ _. tt))
    (all_within k ((w + 1) / 2) ((h + 1) / 2) (x / 2) (y / 2) n (omega arith) (omega arith) (omega (arith, mul-le-mul ew eh))))

-- they are those of numbers of the tower
pub touched_within : (k w h x y i : ℕ) → x < w → y < h → ContainsAt (touched k w h x y) i → i < w * h
touched_within k w h x y i hx hy = all-has (λ j. j < w * h) (touched k w h x y) i (all_within k w h x y (w * h) hx hy (le_refl (w * h)))
