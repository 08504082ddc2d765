-- A list of numbers row by row is the rows written out, and one that holds a tower is the tower written out. Assumes nothing.
use Rattle.std.proofs.Common.{◌≡◌, ℕ, zero, suc, ◌+◌, ◌*◌, ◌/◌, ◌<◌, ◌≤◌, List, [], ◌∷◌, ◌++◌, map, length, get_or, take, drop, ℤ, pos, sym, ap, ◌∙◌, mul-le-mul_right, zero-add, zero-mul, add-one, arith, take-add}
use Rattle.std.specs.List.{range_with_len, flat_map}
use Rattle.std.proofs.lemmas.List.{flat_map_more, length-append, length-drop, length-take-le, take-append-drop, take_all, drop-drop, get_or-take, get_or-drop}
use Rattle.std.proofs.lemmas.Nat.{mul-add-lt}
use Rattle.std.proofs.lemmas.List.FromFn.{length-range_with_len, length-map-range_with_len, get_or-map-range_with_len, map-range_with_len_more, fill_by_all}
use Rattle.levels.specs.Maps.{Map, size, across, halved, down, level}
use Rattle.levels.specs.Towers.{tower}
use Rattle.levels.specs.Numbering.{tower_in, Holds}
use Rattle.levels.specs.Listing.{listed, rows_at, grid, tower_list}
use Rattle.levels.specs.Laws.{ListedTower}
use Rattle.levels.proofs.Sizes.{size_le}
use Rattle.levels.proofs.Held.{above, down_there, across_there, held_by}

-- how many rows, and how many numbers
pub length_rows : (x y w h : ℕ) (p : Map) → length (rows_at x y w h p) ≡ h
unfolding rows_at
length_rows x y w h p = length-map-range_with_len (λ v. listed w (λ u. p (x + u) (y + v))) 0 h

length_joined : (g : ℕ → List ℤ) (w : ℕ) (vs : List ℕ) → ((v : ℕ) → length (g v) ≡ w) → length (flat_map (λ row. row) (map g vs)) ≡ w * length vs
length_joined g w [] e = omega arith
length_joined g w (v ∷ vs) e = rw (length-append, e v, length_joined g w vs e) (omega arith)

pub length_joined_rows : (x y w h : ℕ) (p : Map) → length (flat_map (λ row. row) (rows_at x y w h p)) ≡ w * h
unfolding rows_at
length_joined_rows x y w h p = length_joined _ w (range_with_len 0 h) (λ v. length-map-range_with_len (λ u. p (x + u) (y + v)) 0 w) ∙ ap (λ (n : ℕ). w * n) (length-range_with_len 0 h)

-- a row by its number
pub row_cut : (x y w h v : ℕ) (p : Map) → v < h → get_or (rows_at x y w h p) v [] ≡ listed w (λ u. p (x + u) (y + v))
unfolding rows_at
row_cut x y w h v p lt = get_or-map-range_with_len (λ v. listed w (λ u. p (x + u) (y + v))) 0 h v v [] lt (zero-add v)

-- in a list that holds the places row by row, the v-th stretch of w numbers is the v-th row
pub part_cut : (x y w h v : ℕ) (ts : List ℤ) (p : Map) → length ts ≡ w * h → ((u v : ℕ) → u < w → v < h → get_or ts (v * w + u) (pos 0) ≡ p (x + u) (y + v)) → v < h →
    take w (drop (v * w) ts) ≡ listed w (λ u. p (x + u) (y + v))
part_cut x y w h v ts p long same lt =
    fill_by_all (λ u. p (x + u) (y + v)) (take w (drop (v * w) ts)) w (pos 0) (length-take-le w (drop (v * w) ts) (simp length-drop (omega (arith, mul-le-mul_right w lt))))
    (λ u hu. get_or-take w (drop (v * w) ts) u (pos 0) hu ∙ get_or-drop (v * w) ts u (pos 0) ∙ same u v hu lt)

-- one row more
rows_more : (x y w n : ℕ) (p : Map) → flat_map (λ row. row) (rows_at x y w n p) ++ listed w (λ u. p (x + u) (y + n)) ≡ flat_map (λ row. row) (rows_at x y w (suc n) p)
unfolding rows_at
rows_more x y w n p =
    let row : ℕ → List ℤ = λ v. listed w (λ u. p (x + u) (y + v)) in
    flat_map_more (λ row. row) [] (listed n row) (row n) ∙ ap (flat_map (λ row. row)) (sym (map-range_with_len_more row 0 n n (zero-add n)) ∙ ap (λ (m : ℕ). listed m row) (add-one n))

-- so the first n stretches are the first n rows
rows_front : (x y w h n : ℕ) (ts : List ℤ) (p : Map) → length ts ≡ w * h → ((u v : ℕ) → u < w → v < h → get_or ts (v * w + u) (pos 0) ≡ p (x + u) (y + v)) → n ≤ h →
    take (n * w) ts ≡ flat_map (λ row. row) (rows_at x y w n p)
unfolding rows_at
rows_front x y w h zero ts p long same le = rw zero-mul
rows_front x y w h (suc n) ts p long same le =
    let e : suc n * w ≡ n * w + w = omega arith in
    rw (e, take-add, rows_front x y w h n ts p long same (omega arith), part_cut x y w h n ts p long same le) (rows_more x y w n p)

-- and numbers row by row are the rows written one after the other
pub rows_from : (x y w h : ℕ) (ts : List ℤ) (p : Map) → length ts ≡ w * h → ((u v : ℕ) → u < w → v < h → get_or ts (v * w + u) (pos 0) ≡ p (x + u) (y + v)) → ts ≡ flat_map (λ row. row) (rows_at x y w h p)
rows_from x y w h ts p long same = sym (take_all (h * w) ts (omega arith)) ∙ rows_front x y w h h ts p long same (omega arith)

-- from the first place on
pub grid_from : (w h : ℕ) (ts : List ℤ) (p : Map) → length ts ≡ w * h → ((u v : ℕ) → u < w → v < h → get_or ts (v * w + u) (pos 0) ≡ p u v) → ts ≡ grid w h p
unfolding grid
grid_from w h ts p long same = rows_from 0 0 w h ts p long (λ u v hu hv. rw (zero-add u, zero-add v) (same u v hu hv))

-- a list in three parts
in_three : (a b c : ℕ) (ts : List ℤ) → a + b ≡ c → ts ≡ take a ts ++ (take b (drop a ts) ++ drop c ts)
in_three a b c ts e = rw (← e, ← drop-drop b a ts, take-append-drop, take-append-drop)

-- those of a held list: the tower of the halved map, the differences down and the differences across
module _ (k w h : ℕ) (ts : List ℤ) (p : Map) (long : length ts ≡ w * h) (o : Holds (suc k) w h ts p) where
  abbrev W : ℕ
  W = (w + 1) / 2

  abbrev H : ℕ
  H = (h + 1) / 2

  down_count : W * H + W * (h / 2) ≡ W * h
  down_count = let e : h ≡ H + h / 2 = omega arith in omega (arith, ap (λ (n : ℕ). W * n) e)

  across_count : W * h + w / 2 * h ≡ w * h
  across_count = let e : w ≡ W + w / 2 = omega arith in omega (arith, ap (λ (n : ℕ). n * h) e)

  coarse_long : length (take (W * H) ts) ≡ W * H
  coarse_long = length-take-le (W * H) ts (omega (arith, down_count, across_count))

  coarse_held : Holds k W H (take (W * H) ts) (halved w h p)
  coarse_held =
      let up = above k w h ts p o in
      held_by k W H ts _ (halved w h p) (omega (arith, size_le k W)) (omega (arith, size_le k H)) (λ i. get_or-take (W * H) ts i (pos 0)) up

  downs_listed : take (W * (h / 2)) (drop (W * H) ts) ≡ grid W (h / 2) (down w p)
  downs_listed = grid_from W (h / 2) _ (down w p) (length-take-le (W * (h / 2)) (drop (W * H) ts) (simp length-drop (omega (arith, down_count, across_count))))
      (λ u v hu hv. get_or-take (W * (h / 2)) (drop (W * H) ts) (v * W + u) (pos 0) (mul-add-lt v W u (h / 2) hv hu) ∙ get_or-drop (W * H) ts (v * W + u) (pos 0) ∙ down_there k w h ts p o u v hu (omega arith))

  acrosses_listed : drop (W * h) ts ≡ grid (w / 2) h (across p)
  acrosses_listed = grid_from (w / 2) h _ (across p) (simp length-drop (omega (arith, across_count)))
      (λ u v hu hv. get_or-drop (W * h) ts (v * (w / 2) + u) (pos 0) ∙ across_there k w h ts p o u v (omega arith) hv)

pub listed_tower_lem : ListedTower
unfolding tower_list size tower_in tower level
listed_tower_lem zero w h ts p long o =
    let ew : w ≡ 1 = o.wide in
    let eh : h ≡ 1 = o.high in
    fill_by_all (λ i. p 0 0) ts 1 (pos 0) (long ∙ rw (ew, eh)) (λ i hi. let e : i ≡ 0 = omega arith in rw e o.same.top)
listed_tower_lem (suc k) w h ts p long o =
    in_three _ _ ((w + 1) / 2 * h) ts (down_count k w h ts p long o)
    ∙ rw (listed_tower_lem k ((w + 1) / 2) ((h + 1) / 2) _ (halved w h p) (coarse_long k w h ts p long o) (coarse_held k w h ts p long o), downs_listed k w h ts p long o, acrosses_listed k w h ts p long o)
