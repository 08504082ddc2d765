-- The laws of 2^k by 2^k places, from those of any size. Assumes nothing.
use Rattle.std.proofs.Common.{◌≡◌, ℕ, zero, suc, ◌+◌, ◌-◌, ◌*◌, ◌/◌, ◌<◌, ◌≤◌, take, sym, refl, ap, ◌∙◌, le_refl, add-zero, add-suc, mul-le-mul_right, div-mul-le_self, arith}
use Rattle.levels.specs.Maps.{Map, power, size, with_height}
use Rattle.levels.specs.Maps as Sized
use Rattle.levels.specs.Towers.{Tower}
use Rattle.levels.specs.Towers as SizedTowers
use Rattle.levels.specs.Numbering as SizedNumbers
use Rattle.levels.specs.Square.{halved, halved_times, tower, shown, at_level, tower_in, SameTower}
use Rattle.levels.specs.SquareLaws.{ShowsAll, ShowsHeld, Between, ChangesFew, WindowOnly, PartIsTower}
use Rattle.levels.proofs.Sizes.{power_pos, size_full, size_size, div_power}
use Rattle.levels.proofs.Levels as SizedLevels
use Rattle.levels.proofs.Bounds as SizedBounds
use Rattle.levels.proofs.Changes as SizedChanges
use Rattle.levels.proofs.Windows as SizedWindows
use Rattle.levels.proofs.Parts as SizedParts
use Rattle.levels.proofs.Parts.{level_level}
use Rattle.levels.proofs.Squares.{size_power, size_end, whole, level_whole, across_whole, down_whole, towers_same, numbering_same, to_square, from_square, same_sym, same_trans, shown_whole, shows_same}

-- a tower that has the numbers of a map's, in the words with sizes
held : (k : ℕ) (t : Tower) (p : Map) → SameTower k t (tower k p) → SizedTowers.SameTower k (power k) (power k) t (SizedTowers.tower k (power k) (power k) p)
held k t p o = from_square k t (SizedTowers.tower k (power k) (power k) p) (same_trans k t (tower k p) (SizedTowers.tower k (power k) (power k) p) o (same_sym k (SizedTowers.tower k (power k) (power k) p) (tower k p) (towers_same k p)))

pub shows_held_lem : ShowsHeld
shows_held_lem k l t p x y lk hx hy o =
    let s = size_power k l lk in
    sym (shows_same k l x y t lk hx hy)
    ∙ SizedLevels.shows_held_lem k (power k) (power k) l t p x y (size_end k) (size_end k) lk (rw s hx) (rw s hy) (held k t p o)
    ∙ level_whole l (power k) (power k) p x y (whole k l x lk hx) (whole k l y lk hy)

pub shows_all_lem : ShowsAll
shows_all_lem k l p x y lk hx hy = shows_held_lem k l (tower k p) p x y lk hx hy (record { top = refl; downs = λ l x y lk hx hy. refl; acrosses = λ l x y lk hx hy. refl })

-- where the square of a place begins
square_from : (u n x : ℕ) → u / n ≡ x → x * n ≤ u
square_from u n x e = rw e at (div-mul-le_self u n)

pub between_lem : Between
between_lem l p x y a b o =
    let n : ℕ = power l in
    let w : ℕ = (x + 1) * n in
    let h : ℕ = (y + 1) * n in
    let r = SizedBounds.between_lem l w h p x y a b (let s = size_full l (x + 1) w (le_refl w) in omega arith) (let s = size_full l (y + 1) h (le_refl h) in omega arith)
    (λ u v hu hv eu ev. o u v (square_from u n x eu) hu (square_from v n y ev) hv) in
    rw (level_whole l w h p x y (le_refl w) (le_refl h)) at r

pub changes_few_lem : ChangesFew
changes_few_lem k l p x y u v g lk =
    let w : ℕ = (u + 1) * power (suc l) in
    let h : ℕ = (v + 1) * power l in
    let m : ℕ = (v + 1) * power (suc l) in
    let q : Map = with_height p x y g in (
      λ n. sym (across_whole l w h q u v (le_refl w) (le_refl h)) ∙ (SizedChanges.changes_few_lem w h l p x y u v g).0 n ∙ across_whole l w h p u v (le_refl w) (le_refl h),
      λ n. sym (down_whole l w m q u v (le_refl w) (le_refl m)) ∙ (SizedChanges.changes_few_lem w m l p x y u v g).1 n ∙ down_whole l w m p u v (le_refl w) (le_refl m),
    )

-- a place of some multiple of a power
in_multiple : (j x : ℕ) → x < power j * (x + 1)
in_multiple j x = omega (arith, mul-le-mul_right (x + 1) (power_pos j))

pub window_only_lem : WindowOnly
unfolding at_level SizedTowers.at_level
window_only_lem k l t s x y lk tops o =
    let w : ℕ = power k * (x + 1) in
    let h : ℕ = power k * (y + 1) in
    let same : (t : Tower) → SizedTowers.shown k w h t (k - l) x y ≡ shown k t (k - l) x y =
    λ t. shown_whole k w h (x + 1) (y + 1) t refl refl (k - l) x y (omega arith) (in_multiple (k - l) x) (in_multiple (k - l) y) in
    sym (same t)
    ∙ SizedWindows.window_only_lem k w h l t s x y lk (record {
      top = tops;
      downs = λ m lm mk two. (o m lm mk).1;
      acrosses = λ m lm mk two. let e : suc m - l ≡ suc (m - l) = omega arith in (o m lm mk).0 (y / power (m - l)) (rw e (sym (div_power y (m - l))));
    }) ∙ same s

times_times : (m l : ℕ) (p : Map) → halved_times m (halved_times l p) ≡ halved_times (l + m) p
unfolding halved_times
times_times zero l p = rw add-zero
times_times (suc m) l p = rw add-suc (ap halved (times_times m l p))

-- the tower of a level, whose map is of sizes of that level
coarse_same : (k l : ℕ) (p : Map) → l ≤ k → SameTower (k - l) (SizedTowers.tower (k - l) (size l (power k)) (size l (power k)) (Sized.level l (power k) (power k) p)) (tower (k - l) (halved_times l p))
unfolding SizedTowers.tower tower
coarse_same k l p lk =
    let n : ℕ = power k in
    let e0 : l + (k - l) ≡ k = omega arith in
    record {
      top = rw (level_level (k - l) l n n p, times_times (k - l) l p, e0) (level_whole k n n p 0 0 (omega arith) (omega arith));
      downs = λ m x y mk hx hy.
          let e : k - l - suc m ≡ k - suc (l + m) = omega arith in
          rw (size_size m l n, level_level m l n n p, times_times m l p)
          (down_whole (l + m) n n p x y (whole k (suc (l + m)) x (omega arith) (rw e at hx)) (whole k (suc (l + m)) y (omega arith) (rw e at hy)));
      acrosses = λ m x y mk hx hy.
          let e : k - l - suc m ≡ k - suc (l + m) = omega arith in
          let f : k - l - m ≡ k - (l + m) = omega arith in
          rw (level_level m l n n p, times_times m l p)
          (across_whole (l + m) n n p x y (whole k (suc (l + m)) x (omega arith) (rw e at hx)) (whole k (l + m) y (omega arith) (rw f at hy)));
    }

pub part_is_tower_lem : PartIsTower
part_is_tower_lem k l p ts lk o =
    let n : ℕ = power k in
    let s = size_power k l lk in
    let part = take (power (k - l) * power (k - l)) ts in
    let sized = from_square k (SizedNumbers.tower_in n n ts) (SizedTowers.tower k n n p) (same_trans k (SizedNumbers.tower_in n n ts) (tower k p) (SizedTowers.tower k n n p)
    (same_trans k (SizedNumbers.tower_in n n ts) (tower_in k ts) (tower k p) (numbering_same k ts) o) (same_sym k (SizedTowers.tower k n n p) (tower k p) (towers_same k p))) in
    let r = rw s at (SizedParts.part_is_tower_lem k n n l p ts (power_pos k) (power_pos k) lk sized) in
    let c = rw s at (coarse_same k l p lk) in
    same_trans (k - l) (tower_in (k - l) part) (SizedNumbers.tower_in (power (k - l)) (power (k - l)) part) (tower (k - l) (halved_times l p))
    (same_sym (k - l) (SizedNumbers.tower_in (power (k - l)) (power (k - l)) part) (tower_in (k - l) part) (numbering_same (k - l) part))
    (same_trans (k - l) (SizedNumbers.tower_in (power (k - l)) (power (k - l)) part) (SizedTowers.tower (k - l) (power (k - l)) (power (k - l)) (Sized.level l n n p)) (tower (k - l) (halved_times l p)) (to_square (k - l) _ _ r) c)
