-- The first numbers of a tower are the tower of a smaller map. Assumes nothing.
use Rattle.std.proofs.Common.{◌≡◌, ℕ, zero, suc, ◌+◌, ◌-◌, ◌*◌, ◌/◌, ◌<◌, ◌≤◌, pos, ap, ◌∙◌, add-zero, add-suc, mul-le-mul_right, mul-le-mul, arith}
use Rattle.std.proofs.lemmas.List.{get_or-take}
use Rattle.levels.specs.Maps.{Map, size, level, halved}
use Rattle.levels.specs.Towers.{tower}
use Rattle.levels.specs.Numbering.{down_index, across_index, tower_in}
use Rattle.levels.specs.Laws.{PartIsTower}
use Rattle.levels.proofs.Sizes.{size_size, size_pos, size_le}

-- l levels up, and then m
pub level_level : (m l w h : ℕ) (p : Map) → level m (size l w) (size l h) (level l w h p) ≡ level (l + m) w h p
unfolding level
level_level zero l w h p = rw add-zero
level_level (suc m) l w h p = rw (size_size m l w, size_size m l h, add-suc l m) (ap (halved (size (l + m) w) (size (l + m) h)) (level_level m l w h p))

-- the differences of a map of a by b places lie among its a * b numbers
pub down_within : (a b A B x y : ℕ) → a ≤ A → b ≤ B → x < (a + 1) / 2 → y < b / 2 → (a + 1) / 2 * ((b + 1) / 2) + (y * ((a + 1) / 2) + x) < A * B
down_within a b A B x y ha hb hx hy =
    let ca : (a + 1) / 2 ≤ A = omega arith in
    let cb : (b + 1) / 2 + b / 2 ≤ B = omega arith in
    omega (arith, mul-le-mul ca cb, mul-le-mul_right ((a + 1) / 2) hy)

pub across_within : (a b A B x y : ℕ) → a ≤ A → b ≤ B → x < a / 2 → y < b → (a + 1) / 2 * b + (y * (a / 2) + x) < A * B
across_within a b A B x y ha hb hx hy =
    let ca : (a + 1) / 2 + a / 2 ≤ A = omega arith in
    omega (arith, mul-le-mul ca hb, mul-le-mul_right (a / 2) hy)

-- those of the levels from l on lie in the first ones, as many as level l has places
module _ (l m w h x y : ℕ) where
  pub downs_in : x < size (suc (l + m)) w → y < size (l + m) h / 2 → down_index w h (l + m) x y < size l w * size l h
  unfolding size down_index
  downs_in = down_within (size (l + m) w) (size (l + m) h) (size l w) (size l h) x y (rw (size_size m l w) at (size_le m (size l w))) (rw (size_size m l h) at (size_le m (size l h)))

  pub acrosses_in : x < size (l + m) w / 2 → y < size (l + m) h → across_index w h (l + m) x y < size l w * size l h
  unfolding size across_index
  acrosses_in = across_within (size (l + m) w) (size (l + m) h) (size l w) (size l h) x y (rw (size_size m l w) at (size_le m (size l w))) (rw (size_size m l h) at (size_le m (size l h)))

-- a number of a coarser level has the same index in the coarser map's tower
down_index_in : (l m w h x y : ℕ) → down_index (size l w) (size l h) m x y ≡ down_index w h (l + m) x y
unfolding down_index
down_index_in l m w h x y = rw (size_size (suc m) l w, size_size (suc m) l h, add-suc l m)

across_index_in : (l m w h x y : ℕ) → across_index (size l w) (size l h) m x y ≡ across_index w h (l + m) x y
unfolding across_index
across_index_in l m w h x y = rw (size_size (suc m) l w, size_size m l w, size_size m l h, add-suc l m)

pub part_is_tower_lem : PartIsTower
unfolding tower_in tower
part_is_tower_lem k w h l p ts hw hh lk s =
    let e0 : l + (k - l) ≡ k = omega arith in
    record {
      top = get_or-take (size l w * size l h) ts 0 (pos 0) (mul-le-mul (size_pos l w hw) (size_pos l h hh)) ∙ s.top ∙ rw (level_level, e0);
      downs = λ m x y lm. rw (down_index_in l m w h x y, size_size (suc m) l w, size_size m l w, size_size m l h, add-suc l m, level_level m l w h p)
          (λ hx hy. get_or-take (size l w * size l h) ts (down_index w h (l + m) x y) (pos 0) (downs_in l m w h x y hx hy) ∙ s.downs (l + m) x y (omega arith) hx hy);
      acrosses = λ m x y lm. rw (across_index_in l m w h x y, size_size m l w, size_size m l h, level_level m l w h p)
          (λ hx hy. get_or-take (size l w * size l h) ts (across_index w h (l + m) x y) (pos 0) (acrosses_in l m w h x y hx hy) ∙ s.acrosses (l + m) x y (omega arith) hx hy);
    }
