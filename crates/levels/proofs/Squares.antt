-- At 2^k by 2^k places both ways of saying it are the same. Assumes nothing.
use Rattle.std.proofs.Common.{◌≡◌, ℕ, zero, suc, ◌+◌, ◌-◌, ◌*◌, ◌/◌, ◌<◌, ◌≤◌, List, get_or, ℤ, pos, sym, refl, ap, ◌∙◌, ap₂, le_refl, add-zero, add-suc, mul-le-mul_right, arith}
use Rattle.pairs.specs.Pairs.{mean_of, difference_of, one_of}
use Rattle.levels.specs.Maps.{Map, power, size, line_down, apart}
use Rattle.levels.specs.Maps as Sized
use Rattle.levels.specs.Towers.{Tower}
use Rattle.levels.specs.Towers as SizedTowers
use Rattle.levels.specs.Numbering as SizedNumbers
use Rattle.levels.specs.Numbering.{down_index, across_index}
use Rattle.levels.specs.Square.{means, across, halved, down, halved_times, joined, tower, shown, at_level, begins, tower_in, SameTower}
use Rattle.levels.specs.SquareLaws.{BothTheSame}
use Rattle.levels.proofs.Lines.{down_pair}
use Rattle.levels.proofs.Levels.{means_whole, level_four}

pub power_add : (m n : ℕ) → power (m + n) ≡ power m * power n
unfolding power
power_add m zero = rw add-zero (omega arith)
power_add m (suc n) = rw add-suc (let e = power_add m n in omega arith)

-- a multiple of 2^k stays a multiple of a smaller power
pub size_times : (k l b n : ℕ) → l ≤ k → n ≡ power k * b → size l n ≡ power (k - l) * b
unfolding size power
size_times k zero b n h e = let e0 : k - 0 ≡ k = omega arith in rw e0 e
size_times k (suc l) b n h e =
    let s : k - l ≡ suc (k - suc l) = omega arith in
    let i : size l n ≡ power (suc (k - suc l)) * b = size_times k l b n (omega arith) e ∙ ap (λ (m : ℕ). power m * b) s in
    omega arith

pub size_power : (k l : ℕ) → l ≤ k → size l (power k) ≡ power (k - l)
size_power k l h = size_times k l 1 (power k) h (omega arith) ∙ omega arith

pub size_twice : (k l : ℕ) → l < k → size l (power k) ≡ 2 * power (k - suc l)
unfolding power
size_twice k l h = let s : k - l ≡ suc (k - suc l) = omega arith in size_power k l (omega arith) ∙ ap power s

pub size_end : (k : ℕ) → size k (power k) ≡ 1
size_end k = let e : k - k ≡ 0 = omega arith in size_power k k (le_refl k) ∙ rw e (unfold power in refl)

-- the square of a place of a level lies wholly on the map
pub whole : (k l x : ℕ) → l ≤ k → x < power (k - l) → (x + 1) * power l ≤ power k
whole k l x h hx =
    let e : k - l + l ≡ k = omega arith in
    let hx1 : x + 1 ≤ power (k - l) = omega arith in
    let s : power (k - l) * power l ≡ power k = sym (power_add (k - l) l) ∙ ap power e in
    omega (arith, mul-le-mul_right (power l) hx1)

-- where the square of a place lies wholly on the map, its level and differences are those without sizes
pub level_whole : (l w h : ℕ) (p : Map) (x y : ℕ) → (x + 1) * power l ≤ w → (y + 1) * power l ≤ h → Sized.level l w h p x y ≡ halved_times l p x y
unfolding Sized.level halved_times halved means power
level_whole zero w h p x y hx hy = refl
level_whole (suc l) w h p x y hx hy =
    level_four l w h p x y hx hy ∙ ap₂ mean_of
    (ap₂ mean_of (level_whole l w h p (2 * x) (2 * y) (omega arith) (omega arith)) (level_whole l w h p (2 * x + 1) (2 * y) (omega arith) (omega arith)))
    (ap₂ mean_of (level_whole l w h p (2 * x) (2 * y + 1) (omega arith) (omega arith)) (level_whole l w h p (2 * x + 1) (2 * y + 1) (omega arith) (omega arith)))

pub across_whole : (l w h : ℕ) (p : Map) (x y : ℕ) → (x + 1) * power (suc l) ≤ w → (y + 1) * power l ≤ h → Sized.across (Sized.level l w h p) x y ≡ across (halved_times l p) x y
unfolding Sized.across apart across power
across_whole l w h p x y hx hy = ap₂ difference_of (level_whole l w h p (2 * x) y (omega arith) hy) (level_whole l w h p (2 * x + 1) y (omega arith) hy)

pub down_whole : (l w h : ℕ) (p : Map) (x y : ℕ) → (x + 1) * power (suc l) ≤ w → (y + 1) * power (suc l) ≤ h → Sized.down (size l w) (Sized.level l w h p) x y ≡ down (halved_times l p) x y
unfolding Sized.down apart down means power
down_whole l w h p x y hx hy = ap₂ difference_of (row (2 * y) (omega arith)) (row (2 * y + 1) (omega arith))
  where
    row : (v : ℕ) → (v + 1) * power l ≤ h → Sized.means (size l w) (Sized.level l w h p) x v ≡ mean_of (halved_times l p (2 * x) v) (halved_times l p (2 * x + 1) v)
    row v hv = means_whole l w h p x v hx ∙ ap₂ mean_of (level_whole l w h p (2 * x) v (omega arith) hv) (level_whole l w h p (2 * x + 1) v (omega arith) hv)

pub towers_same : (k : ℕ) (p : Map) → SameTower k (SizedTowers.tower k (power k) (power k) p) (tower k p)
unfolding SizedTowers.tower tower
towers_same k p = record {
  top = level_whole k (power k) (power k) p 0 0 (omega arith) (omega arith);
  downs = λ l x y lk hx hy. down_whole l (power k) (power k) p x y (whole k (suc l) x lk hx) (whole k (suc l) y lk hy);
  acrosses = λ l x y lk hx hy. across_whole l (power k) (power k) p x y (whole k (suc l) x lk hx) (whole k l y (omega arith) hy);
}

pub numbering_same : (k : ℕ) (ts : List ℤ) → SameTower k (SizedNumbers.tower_in (power k) (power k) ts) (tower_in k ts)
unfolding SizedNumbers.tower_in tower_in down_index across_index begins
numbering_same k ts = record {
  top = refl;
  downs = λ l x y lk hx hy. rw (size_power k (suc l) lk);
  acrosses = λ l x y lk hx hy.
      let e : 2 * power (k - suc l) / 2 ≡ power (k - suc l) = omega arith in
      rw (size_power k (suc l) lk, size_twice k l lk, e) (ap (λ (i : ℕ). get_or ts i (pos 0)) (omega arith));
}

pub to_square : (k : ℕ) (t s : Tower) → SizedTowers.SameTower k (power k) (power k) t s → SameTower k t s
to_square k t s o = record {
  top = o.top;
  downs = λ l x y lk hx hy. o.downs l x y lk (rw (size_power k (suc l) lk) hx) (let e = size_twice k l lk in omega arith);
  acrosses = λ l x y lk hx hy. o.acrosses l x y lk (let e = size_twice k l lk in omega arith) (rw (size_power k l (omega arith)) hy);
}

pub from_square : (k : ℕ) (t s : Tower) → SameTower k t s → SizedTowers.SameTower k (power k) (power k) t s
from_square k t s o = record {
  top = o.top;
  downs = λ l x y lk hx hy. o.downs l x y lk (rw (size_power k (suc l) lk) at hx) (let e = size_twice k l lk in omega arith);
  acrosses = λ l x y lk hx hy. o.acrosses l x y lk (let e = size_twice k l lk in omega arith) (rw (size_power k l (omega arith)) at hy);
}

pub same_sym : (k : ℕ) (t s : Tower) → SameTower k t s → SameTower k s t
same_sym k t s o = record { top = sym o.top; downs = λ l x y lk hx hy. sym (o.downs l x y lk hx hy); acrosses = λ l x y lk hx hy. sym (o.acrosses l x y lk hx hy) }

pub same_trans : (k : ℕ) (t s r : Tower) → SameTower k t s → SameTower k s r → SameTower k t r
same_trans k t s r o q = record { top = o.top ∙ q.top; downs = λ l x y lk hx hy. o.downs l x y lk hx hy ∙ q.downs l x y lk hx hy; acrosses = λ l x y lk hx hy. o.acrosses l x y lk hx hy ∙ q.acrosses l x y lk hx hy }

-- what is shown, over any multiple of 2^k
joined_whole : (n m : ℕ) (s r a d : Map) (x y : ℕ) → 2 * (x / 2) + 1 < n → 2 * (y / 2) + 1 < m → s (x / 2) (y / 2) ≡ r (x / 2) (y / 2) → Sized.joined n m s a d x y ≡ joined r a d x y
unfolding Sized.joined joined
joined_whole n m s r a d x y hx hy e = rw e (down_pair n x _ _ hx ∙ ap (λ z. one_of x z (a (x / 2) y)) (down_pair m y _ _ hy))

pub shown_whole : (k w h b c : ℕ) (t : Tower) → w ≡ power k * b → h ≡ power k * c → (u x y : ℕ) → u ≤ k → x < power u * b → y < power u * c → SizedTowers.shown k w h t u x y ≡ shown k t u x y
unfolding SizedTowers.shown shown power
shown_whole k w h b c t ew eh zero x y uk hx hy = refl
shown_whole k w h b c t ew eh (suc u) x y uk hx hy =
    let e : k - (k - suc u) ≡ suc u = omega arith in
    let sw : size (k - suc u) w ≡ power (suc u) * b = size_times k (k - suc u) b w (omega arith) ew ∙ ap (λ (m : ℕ). power m * b) e in
    let sh : size (k - suc u) h ≡ power (suc u) * c = size_times k (k - suc u) c h (omega arith) eh ∙ ap (λ (m : ℕ). power m * c) e in
    joined_whole (size (k - suc u) w) (size (k - suc u) h) (SizedTowers.shown k w h t u) (shown k t u) (t.acrosses (k - suc u)) (t.downs (k - suc u)) x y (omega arith) (omega arith)
    (shown_whole k w h b c t ew eh u (x / 2) (y / 2) (omega arith) (omega arith) (omega arith))

pub shows_same : (k l x y : ℕ) (t : Tower) → l ≤ k → x < power (k - l) → y < power (k - l) → SizedTowers.at_level k (power k) (power k) t l x y ≡ at_level k t l x y
unfolding SizedTowers.at_level at_level
shows_same k l x y t lk hx hy = shown_whole k (power k) (power k) 1 1 t (omega arith) (omega arith) (k - l) x y (omega arith) (omega arith) (omega arith)

pub both_the_same_lem : BothTheSame
both_the_same_lem k = record {
  sizes = size_power k;
  levels = λ l x y p lk hx hy. level_whole l (power k) (power k) p x y (whole k l x lk hx) (whole k l y lk hy);
  towers = towers_same k;
  numbering = numbering_same k;
  same = λ t s. (to_square k t s, from_square k t s);
  shows = shows_same k;
}
