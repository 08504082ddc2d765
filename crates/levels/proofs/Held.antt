-- A list that holds the tower of a map, one level up and one level down. Assumes nothing.
use Rattle.std.proofs.Common.{◌≡◌, ℕ, zero, suc, ◌+◌, ◌-◌, ◌*◌, ◌/◌, ◌<◌, ◌≤◌, List, get_or, ℤ, pos, sym, refl, ap, ◌∙◌, mul-le-mul, arith}
use Rattle.pairs.specs.Pairs.{Height, Difference}
use Rattle.levels.specs.Maps.{Map, size, line_up, means, across, halved, down, level}
use Rattle.levels.specs.Towers.{Tower, tower, SameTower}
use Rattle.levels.specs.Numbering.{down_index, across_index, tower_in, Holds}
use Rattle.levels.proofs.Sizes.{size_inner, size_one, size_le}
use Rattle.levels.proofs.Lines.{up_height, apart_difference}
use Rattle.levels.proofs.Parts.{down_within, across_within}

pub level_inner : (l w h : ℕ) (p : Map) → level l ((w + 1) / 2) ((h + 1) / 2) (halved w h p) ≡ level (suc l) w h p
unfolding level size
level_inner zero w h p = refl
level_inner (suc l) w h p = rw (size_inner l w, size_inner l h) (ap (halved ((size l w + 1) / 2) ((size l h + 1) / 2)) (level_inner l w h p))

one_level : (k : ℕ) (p : Map) → level k 1 1 p 0 0 ≡ p 0 0
unfolding level halved means line_up
one_level zero p = refl
one_level (suc k) p = rw (size_one k) (one_level k p)

-- means and halved heights are heights, and what parts them are differences
module _ (w h : ℕ) (p : Map) (o : (x y : ℕ) → x < w → y < h → Height (p x y)) where
  pub means_height : (x y : ℕ) → x < (w + 1) / 2 → y < h → Height (means w p x y)
  unfolding means
  means_height x y hx hy = up_height w (λ u. p u y) x (λ j hj. o j y hj hy) hx

  pub halved_height : (x y : ℕ) → x < (w + 1) / 2 → y < (h + 1) / 2 → Height (halved w h p x y)
  unfolding halved
  halved_height x y hx hy = up_height h (means w p x) y (λ j hj. means_height x j hx hj) hy

  pub across_difference : (x y : ℕ) → 2 * x + 1 < w → y < h → Difference (across p x y)
  unfolding across
  across_difference x y hx hy = apart_difference (λ u. p u y) x (o (2 * x) y (omega arith) hy) (o (2 * x + 1) y hx hy)

  pub down_difference : (x y : ℕ) → x < (w + 1) / 2 → 2 * y + 1 < h → Difference (down w p x y)
  unfolding down
  down_difference x y hx hy = apart_difference (means w p x) y (means_height x (2 * y) hx (omega arith)) (means_height x (2 * y + 1) hx hy)

-- one place, whatever the number of levels
pub one_held : (k : ℕ) (ts : List ℤ) (p : Map) → Height (p 0 0) → get_or ts 0 (pos 0) ≡ p 0 0 → Holds k 1 1 ts p
unfolding tower_in tower size
one_held k ts p hp e = record {
  wide = size_one k;
  high = size_one k;
  heights = λ x y hx hy. let ex : x ≡ 0 = omega arith in let ey : y ≡ 0 = omega arith in rw (ex, ey) hp;
  same = record {
    top = e ∙ sym (one_level k p);
    downs = λ l x y lk hx hy. let s = size_one l in absurd (omega arith);
    acrosses = λ l x y lk hx hy. let s = size_one l in absurd (omega arith);
  };
}

pub one_shown : (k : ℕ) (ts : List ℤ) (p : Map) → Holds k 1 1 ts p → get_or ts 0 (pos 0) ≡ p 0 0
unfolding tower_in tower
one_shown k ts p o = o.same.top ∙ one_level k p

pub top_shown : (k w h : ℕ) (ts : List ℤ) (p : Map) (x y : ℕ) → x < w → y < h → w + h ≡ 2 → Holds k w h ts p → get_or ts 0 (pos 0) ≡ p x y
top_shown k w h ts p x y hx hy e o =
    let ew : w ≡ 1 = omega arith in
    let eh : h ≡ 1 = omega arith in
    let ex : x ≡ 0 = omega arith in
    let ey : y ≡ 0 = omega arith in
    rw (ex, ey) (one_shown k ts p (rw (ew, eh) at o))

-- both sides come to one place only after some level, and so do those of the next coarser one
pub next_level : (k w h : ℕ) → size k w ≡ 1 → size k h ≡ 1 → 2 < w + h → (j : ℕ) × (k ≡ suc j) × (size j ((w + 1) / 2) ≡ 1) × (size j ((h + 1) / 2) ≡ 1)
unfolding size
next_level zero w h ew eh big = absurd (omega arith)
next_level (suc j) w h ew eh big = (j, refl, size_inner j w ∙ ew, size_inner j h ∙ eh)

-- one level up it holds the tower of the halved map, and beyond it the differences
module _ (k w h : ℕ) (ts : List ℤ) (p : Map) (o : Holds (suc k) w h ts p) where
  pub above : Holds k ((w + 1) / 2) ((h + 1) / 2) ts (halved w h p)
  unfolding size tower_in tower down_index across_index
  above = record {
    wide = size_inner k w ∙ o.wide;
    high = size_inner k h ∙ o.high;
    heights = halved_height w h p o.heights;
    same = record {
      top = o.same.top ∙ rw (level_inner k w h p);
      downs = λ l x y lk. rw (size_inner l w, size_inner l h, level_inner l w h p) (o.same.downs (suc l) x y (omega arith));
      acrosses = λ l x y lk. rw (size_inner l w, size_inner l h, level_inner l w h p) (o.same.acrosses (suc l) x y (omega arith));
    };
  }

  pub down_there : (x y : ℕ) → x < (w + 1) / 2 → 2 * y + 1 < h → get_or ts ((w + 1) / 2 * ((h + 1) / 2) + (y * ((w + 1) / 2) + x)) (pos 0) ≡ down w p x y
  unfolding size tower_in tower level down_index
  down_there x y hx hy = o.same.downs 0 x y (omega arith) hx (omega arith)

  pub across_there : (x y : ℕ) → 2 * x + 1 < w → y < h → get_or ts ((w + 1) / 2 * h + (y * (w / 2) + x)) (pos 0) ≡ across p x y
  unfolding size tower_in tower level across_index
  across_there x y hx hy = o.same.acrosses 0 x y (omega arith) (omega arith) hy

-- and the other way
pub below : (k w h : ℕ) (ts : List ℤ) (p : Map) → ((x y : ℕ) → x < w → y < h → Height (p x y)) → Holds k ((w + 1) / 2) ((h + 1) / 2) ts (halved w h p) →
    ((x y : ℕ) → x < (w + 1) / 2 → y < h / 2 → get_or ts ((w + 1) / 2 * ((h + 1) / 2) + (y * ((w + 1) / 2) + x)) (pos 0) ≡ down w p x y) →
    ((x y : ℕ) → x < w / 2 → y < h → get_or ts ((w + 1) / 2 * h + (y * (w / 2) + x)) (pos 0) ≡ across p x y) → Holds (suc k) w h ts p
unfolding tower_in tower size level down_index across_index
below k w h ts p hp o ds cs = record {
  wide = sym (size_inner k w) ∙ o.wide;
  high = sym (size_inner k h) ∙ o.high;
  heights = hp;
  same = record { top = o.same.top ∙ rw (level_inner k w h p); downs = downs_here; acrosses = acrosses_here };
}
  where
    downs_here : (l x y : ℕ) → l < suc k → x < size (suc l) w → y < size l h / 2 → (tower_in w h ts).downs l x y ≡ (tower (suc k) w h p).downs l x y
    downs_here zero x y lk = ds x y
    downs_here (suc l) x y lk = rw (size_inner l w, size_inner l h, level_inner l w h p) at (o.same.downs l x y (omega arith))

    acrosses_here : (l x y : ℕ) → l < suc k → x < size l w / 2 → y < size l h → (tower_in w h ts).acrosses l x y ≡ (tower (suc k) w h p).acrosses l x y
    acrosses_here zero x y lk = cs x y
    acrosses_here (suc l) x y lk = rw (size_inner l w, size_inner l h, level_inner l w h p) at (o.same.acrosses l x y (omega arith))

-- only the first w * h numbers count
pub held_by : (k w h : ℕ) (ts us : List ℤ) (p : Map) → 0 < w → 0 < h → ((i : ℕ) → i < w * h → get_or us i (pos 0) ≡ get_or ts i (pos 0)) → Holds k w h ts p → Holds k w h us p
unfolding tower_in size down_index across_index
held_by k w h ts us p hw hh e o = record {
  wide = o.wide;
  high = o.high;
  heights = o.heights;
  same = record {
    top = e 0 (mul-le-mul hw hh) ∙ o.same.top;
    downs = λ l x y lk hx hy. e _ (down_within (size l w) (size l h) w h x y (size_le l w) (size_le l h) hx hy) ∙ o.same.downs l x y lk hx hy;
    acrosses = λ l x y lk hx hy. e _ (across_within (size l w) (size l h) w h x y (size_le l w) (size_le l h) hx hy) ∙ o.same.acrosses l x y lk hx hy;
  };
}

-- towers of two by two places are the same if their four numbers are
module _ (t s : Tower) where
  one_down : t.downs 0 0 0 ≡ s.downs 0 0 0 → (l x y : ℕ) → l < 1 → x < size (suc l) 2 → y < size l 2 / 2 → t.downs l x y ≡ s.downs l x y
  unfolding size
  one_down e zero x y lk hx hy = let ex : x ≡ 0 = omega arith in let ey : y ≡ 0 = omega arith in rw (ex, ey) e
  one_down e (suc l) x y lk hx hy = absurd (omega arith)

  two_across : t.acrosses 0 0 0 ≡ s.acrosses 0 0 0 → t.acrosses 0 0 1 ≡ s.acrosses 0 0 1 → (l x y : ℕ) → l < 1 → x < size l 2 / 2 → y < size l 2 → t.acrosses l x y ≡ s.acrosses l x y
  unfolding size
  two_across e f zero x zero lk hx hy = let ex : x ≡ 0 = omega arith in rw ex e
  two_across e f zero x (suc zero) lk hx hy = let ex : x ≡ 0 = omega arith in rw ex f
  two_across e f zero x (suc (suc y)) lk hx hy = absurd (omega arith)
  two_across e f (suc l) x zero lk hx hy = absurd (omega arith)
  two_across e f (suc l) x (suc zero) lk hx hy = absurd (omega arith)
  two_across e f (suc l) x (suc (suc y)) lk hx hy = absurd (omega arith)

  pub two_by_two : t.top ≡ s.top → t.downs 0 0 0 ≡ s.downs 0 0 0 → t.acrosses 0 0 0 ≡ s.acrosses 0 0 0 → t.acrosses 0 0 1 ≡ s.acrosses 0 0 1 → SameTower 1 2 2 t s
  two_by_two e d a b = record { top = e; downs = one_down d; acrosses = two_across a b }

-- the same numbers hold the tower of each level
pub level_held : (l k w h : ℕ) (ts : List ℤ) (p : Map) → l ≤ k → Holds k w h ts p → Holds (k - l) (size l w) (size l h) ts (level l w h p)
unfolding size level
level_held zero k w h ts p lk o = let e : k - 0 ≡ k = omega arith in rw e o
level_held (suc l) k w h ts p lk o =
    let e : k - l ≡ suc (k - suc l) = omega arith in
    above (k - suc l) (size l w) (size l h) ts (level l w h p) (rw e at (level_held l k w h ts p (omega arith) o))
