-- The tower of a map shows it at each level. Assumes nothing.
use Rattle.std.proofs.Common.{◌≡◌, ℕ, zero, suc, ◌+◌, ◌-◌, ◌*◌, ◌/◌, ◌<◌, ◌≤◌, ap, ◌∙◌, ap₂, add-zero, add-suc, div-one, arith, ltb→lt}
use Rattle.pairs.specs.Pairs.{mean_of}
use Rattle.levels.specs.Maps.{Map, power, size, line_down, means, across, halved, down, joined, level}
use Rattle.levels.specs.Towers.{Tower, tower, shown, at_level, SameTower}
use Rattle.levels.specs.Laws.{ShowsAll, ShowsHeld, SameWay}
use Rattle.levels.proofs.Sizes.{size_full, div_power}
use Rattle.levels.proofs.Lines.{up_pair, line_back}
use Rattle.levels.proofs.Windows.{window_only_lem}

pub joined_back : (w h : ℕ) (q s : Map) (x y : ℕ) → x < w → y < h → s (x / 2) (y / 2) ≡ halved w h q (x / 2) (y / 2) → joined w h s (across q) (down w q) x y ≡ q x y
unfolding joined across down halved means
joined_back w h q s x y hx hy e = rw e (ap (λ m. line_down w x m (across q (x / 2) y)) (line_back h (means w q (x / 2)) y hy) ∙ line_back w (λ u. q u y) x hx)

module _ (k w h : ℕ) (p : Map) (tw : size k w ≡ 1) (th : size k h ≡ 1) where
  shown_back : (u : ℕ) → u ≤ k → (x y : ℕ) → x < size (k - u) w → y < size (k - u) h → shown k w h (tower k w h p) u x y ≡ level (k - u) w h p x y
  unfolding shown tower size level
  shown_back zero uk x y hx hy =
      let e : k - 0 ≡ k = omega arith in
      let gx : x < 1 = rw (e, tw) at hx in
      let gy : y < 1 = rw (e, th) at hy in
      let ex : x ≡ 0 = omega arith in
      let ey : y ≡ 0 = omega arith in
      rw (e, ex, ey)
  shown_back (suc u) uk x y hx hy =
      let e : k - u ≡ suc (k - suc u) = omega arith in
      joined_back (size (k - suc u) w) (size (k - suc u) h) (level (k - suc u) w h p) (shown k w h (tower k w h p) u) x y hx hy
      (shown_back u (omega arith) (x / 2) (y / 2) (rw e (omega arith)) (rw e (omega arith)) ∙ ap (λ (m : ℕ). level m w h p (x / 2) (y / 2)) e)

pub shows_all_lem : ShowsAll
unfolding at_level
shows_all_lem k w h l p x y tw th lk hx hy =
    let e : k - (k - l) ≡ l = omega arith in
    shown_back k w h p tw th (k - l) (omega arith) x y (rw e hx) (rw e hy) ∙ ap (λ (m : ℕ). level m w h p x y) e

-- a place of a level stands for one of each coarser level
pub place_up : (j l n x : ℕ) → x < size l n → x / power j < size (l + j) n
unfolding power size
place_up zero l n x h = rw (add-zero, div-one x) h
place_up (suc j) l n x h = rw (add-suc l j, div_power x j) (let r = place_up j l n x h in omega arith)

-- towers with the same numbers have the same ones on each way
pub same_way : (k w h l x y : ℕ) (t s : Tower) → x < size l w → y < size l h → SameTower k w h t s → SameWay k w h l x y t s
same_way k w h l x y t s hx hy o = record {
  top = o.top;
  downs = λ m lm mk two.
      let e : l + (suc m - l) ≡ suc m = omega arith in
      let a = rw e at (place_up (suc m - l) l w x hx) in
      let b = ltb→lt (2 * (y / power (suc m - l)) + 1) (size m h) two in
      o.downs m (x / power (suc m - l)) (y / power (suc m - l)) mk a (omega arith);
  acrosses = λ m lm mk two.
      let e : l + (m - l) ≡ m = omega arith in
      let a = ltb→lt (2 * (x / power (suc m - l)) + 1) (size m w) two in
      let b = rw e at (place_up (m - l) l h y hy) in
      o.acrosses m (x / power (suc m - l)) (y / power (m - l)) mk (omega arith) b;
}

pub shows_held_lem : ShowsHeld
shows_held_lem k w h l t p x y tw th lk hx hy o = window_only_lem k w h l t (tower k w h p) x y lk (same_way k w h l x y t (tower k w h p) hx hy o) ∙ shows_all_lem k w h l p x y tw th lk hx hy

-- the places of a square that lies wholly on the map have neighbours
pub pair_whole : (l n x : ℕ) → (x + 1) * power (suc l) ≤ n → 2 * x + 1 < size l n
unfolding power
pair_whole l n x h = omega (arith, size_full l (2 * x + 2) n (omega arith))

pub means_whole : (l w h : ℕ) (p : Map) (x y : ℕ) → (x + 1) * power (suc l) ≤ w → means (size l w) (level l w h p) x y ≡ mean_of (level l w h p (2 * x) y) (level l w h p (2 * x + 1) y)
unfolding means
means_whole l w h p x y hx = up_pair (size l w) (λ u. level l w h p u y) x (pair_whole l w x hx)

-- so four places become one
pub level_four : (l w h : ℕ) (p : Map) (x y : ℕ) → (x + 1) * power (suc l) ≤ w → (y + 1) * power (suc l) ≤ h →
    level (suc l) w h p x y ≡ mean_of (mean_of (level l w h p (2 * x) (2 * y)) (level l w h p (2 * x + 1) (2 * y))) (mean_of (level l w h p (2 * x) (2 * y + 1)) (level l w h p (2 * x + 1) (2 * y + 1)))
unfolding level halved
level_four l w h p x y hx hy = up_pair (size l h) (means (size l w) (level l w h p) x) y (pair_whole l h y hy) ∙ ap₂ mean_of (means_whole l w h p x (2 * y) hx) (means_whole l w h p x (2 * y + 1) hx)
