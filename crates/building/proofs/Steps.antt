-- What the step across and the step down leave is the tower. Assumes nothing.
use Rattle.std.proofs.Common.{◌≡◌, ℕ, suc, ◌+◌, ◌-◌, ◌*◌, ◌/◌, ◌%◌, ◌<◌, ◌≤◌, ◌≢◌, List, ℤ, sym, ap, ◌∙◌, ap₂, ⊎_elim, arith}
use Rattle.std.proofs.lemmas.Nat.{div-add-mod', div_below, mod_below}
use Rattle.std.proofs.lemmas.Bool.{cases_lt, cases_eq}
use Rattle.pairs.specs.Pairs.{Height, mean_of, difference_of}
use Rattle.pairs.proofs.Half.{mean_height}
use Rattle.levels.specs.Maps.{Map, size, line_up, apart, means, across, halved, down}
use Rattle.levels.specs.Numbering.{Holds, map_in}
use Rattle.levels.proofs.Lines.{up_pair, up_last, up_same, up_height}
use Rattle.levels.proofs.Held.{below, next_level, one_held, halved_height}
use Rattle.maps.specs.Rows.{line}
use Rattle.building.specs.Steps.{BeginsWith, BeginsParted, RowsHalved, ColumnsHalved, Copied}
use Rattle.building.proofs.Rows.{row_within, widths}

-- rows of means are those of the upper places and of the lower ones
pub heights_part : (W h : ℕ) → W * ((h + 1) / 2) + W * (h / 2) ≡ W * h
heights_part W h = let e : h ≡ (h + 1) / 2 + h / 2 = omega arith in omega (arith, ap (λ (m : ℕ). W * m) e)

-- the heights of a map that a list begins with
pub map_heights : (w h : ℕ) (xs : List ℤ) (p : Map) → BeginsWith w h xs p → ((i : ℕ) → i < w * h → Height (line xs i)) → (x y : ℕ) → x < w → y < h → Height (p x y)
unfolding map_in
map_heights w h xs p lies hs x y hx hy = let b = row_within w h y hy in rw (← (lies x y hx hy)) (hs (y * w + x) (omega arith))

-- a map of one place
pub one_built : (k w h : ℕ) (xs ts : List ℤ) (p : Map) → 0 < w → 0 < h → w + h ≡ 2 → BeginsWith w h xs p → ((i : ℕ) → i < w * h → Height (line xs i)) → line ts 0 ≡ line xs 0 → Holds k w h ts p
unfolding map_in
one_built k w h xs ts p hw hh e lies hs et =
    let ew : w ≡ 1 = omega arith in
    let eh : h ≡ 1 = omega arith in
    let f : 0 ≡ 0 * w + 0 = omega arith in
    rw (ew, eh) (one_held k ts p (map_heights w h xs p lies hs 0 0 hw hh) (et ∙ ap (line xs) f ∙ lies 0 0 hw hh))

-- the step down: r is the room as it was, s after the columns, t at the end; m and n are the means put out, without and with the last row
module _ (W h : ℕ) (r s m n : List ℤ) (cols : ColumnsHalved r s m (W * ((h + 1) / 2)) (W * (h / 2))) (copied : Copied s m n (W * (h / 2)) (W * ((h + 1) / 2))) where
  out_mean : (k : ℕ) → k < W * (h / 2) → line n k ≡ mean_of (line r k) (line r (W * ((h + 1) / 2) + k))
  out_mean k hk = copied.before k hk ∙ cols.means k hk

  out_last : (k : ℕ) → W * (h / 2) ≤ k → k < W * ((h + 1) / 2) → line n k ≡ line r k
  out_last k lo hi = copied.same k lo hi ∙ cols.rest k (λ a b. omega arith)

  pub out_heights : ((i : ℕ) → i < W * h → Height (line r i)) → (i : ℕ) → i < W * ((h + 1) / 2) → Height (line n i)
  out_heights hs i hi =
      let e = heights_part W h in
      ⊎_elim
      (λ (l : i < W * (h / 2)). rw (out_mean i l) (mean_height (line r i) (line r (W * ((h + 1) / 2) + i)) (hs i (omega arith)) (hs (W * ((h + 1) / 2) + i) (omega arith))))
      (λ (l : W * (h / 2) ≤ i). rw (out_last i l hi) (hs i (omega arith)))
      (cases_lt i (W * (h / 2)))

  module _ (q : Map) (parted : BeginsParted W h r q) where
    pub out_map : BeginsWith W ((h + 1) / 2) n (λ x y. line_up h (q x) y)
    unfolding map_in
    out_map x y hx hy = ⊎_elim
        (λ (l : 2 * y + 1 < h).
        let hy2 : y < h / 2 = omega arith in let b = row_within W (h / 2) y hy2 in
        out_mean (y * W + x) (omega arith) ∙ ap₂ mean_of (parted.evens x y hx (omega arith)) (parted.odds x y hx l) ∙ sym (up_pair h (q x) y l))
        (λ (l : h ≤ 2 * y + 1).
        let hy2 : y ≡ h / 2 = omega arith in let b = row_within W ((h + 1) / 2) y hy in
        let lo : W * (h / 2) ≤ y * W + x = rw hy2 (omega arith) in
        out_last (y * W + x) lo (omega arith) ∙ parted.evens x y hx (omega arith) ∙ sym (up_last h (q x) y l))
        (cases_lt (2 * y + 1) h)

    pub downs_there : (t : List ℤ) → ((i : ℕ) → W * ((h + 1) / 2) ≤ i → line t i ≡ line s i) → (x y : ℕ) → x < W → y < h / 2 →
        line t (W * ((h + 1) / 2) + (y * W + x)) ≡ apart (q x) y
    unfolding apart
    downs_there t rest x y hx hy =
        let b = row_within W (h / 2) y hy in
        rest (W * ((h + 1) / 2) + (y * W + x)) (omega arith) ∙ cols.downs (y * W + x) (omega arith) ∙ ap₂ difference_of (parted.evens x y hx (omega arith)) (parted.odds x y hx (omega arith))

  pub rest_down : (t : List ℤ) → ((i : ℕ) → W * ((h + 1) / 2) ≤ i → line t i ≡ line s i) → (i : ℕ) → W * h ≤ i → line t i ≡ line r i
  rest_down t rest i hi = let e = heights_part W h in rest i (omega arith) ∙ cols.rest i (λ a b. omega arith)

-- the step across: r is the room as it was, s after the rows
module _ (w h : ℕ) (src r s : List ℤ) (rows : RowsHalved src r s w h h) where
  module _ (hs : (i : ℕ) → i < w * h → Height (line src i)) where
    row_heights : (x y : ℕ) → x < (w + 1) / 2 → y < h → Height (means w (map_in w src) x y)
    unfolding means map_in
    row_heights x y hx hy = let b = row_within w h y hy in up_height w (λ u. map_in w src u y) x (λ j hj. hs (y * w + j) (omega arith)) hx

    here : (i y x : ℕ) → y * ((w + 1) / 2) + x ≡ i → x < (w + 1) / 2 → y < h → Height (line s i)
    here i y x e hx hy = ⊎_elim
        (λ (l : y < (h + 1) / 2). rw (sym e) (rw (rows.evens x y hx (omega arith)) (row_heights x (2 * y) hx (omega arith))))
        (λ (l : (h + 1) / 2 ≤ y).
        let ey : y ≡ (h + 1) / 2 + (y - (h + 1) / 2) = omega arith in
        let ei : i ≡ (w + 1) / 2 * ((h + 1) / 2) + ((y - (h + 1) / 2) * ((w + 1) / 2) + x) = sym e ∙ ap (λ (v : ℕ). v * ((w + 1) / 2) + x) ey ∙ omega arith in
        rw ei (rw (rows.odds x (y - (h + 1) / 2) hx (omega arith)) (row_heights x (2 * (y - (h + 1) / 2) + 1) hx (omega arith))))
        (cases_lt y ((h + 1) / 2))

    pub means_heights : 0 < w → (i : ℕ) → i < (w + 1) / 2 * h → Height (line s i)
    means_heights hw i hi =
        let hW : 0 < (w + 1) / 2 = omega arith in
        here i (i / ((w + 1) / 2)) (i % ((w + 1) / 2)) (div-add-mod' i ((w + 1) / 2)) (mod_below i ((w + 1) / 2) hW) (div_below i ((w + 1) / 2) h hW (omega arith))

  module _ (p : Map) (lies : BeginsWith w h src p) where
    means_same : (x y : ℕ) → x < (w + 1) / 2 → y < h → means w (map_in w src) x y ≡ means w p x y
    unfolding means
    means_same x y hx hy = up_same w (λ u. map_in w src u y) (λ u. p u y) x (λ j hj. lies j y hj hy) hx

    pub means_parted : BeginsParted ((w + 1) / 2) h s (means w p)
    means_parted = record {
      evens = λ x v hx hv. rows.evens x v hx hv ∙ means_same x (2 * v) hx hv;
      odds = λ x v hx hv. rows.odds x v hx hv ∙ means_same x (2 * v + 1) hx hv;
    }

    pub across_holds : (k : ℕ) (t : List ℤ) → ((i : ℕ) → i < w * h → Height (line src i)) → ((i : ℕ) → (w + 1) / 2 * h ≤ i → line t i ≡ line s i) →
        Holds k ((w + 1) / 2) ((h + 1) / 2) t (λ x y. line_up h (means w p x) y) →
        ((x y : ℕ) → x < (w + 1) / 2 → y < h / 2 → line t ((w + 1) / 2 * ((h + 1) / 2) + (y * ((w + 1) / 2) + x)) ≡ apart (means w p x) y) →
        Holds (suc k) w h t p
    unfolding halved down across apart
    across_holds k t hs rest o ds = below k w h t p
        (map_heights w h src p lies hs)
        o ds
        (λ x y hx hy. rest ((w + 1) / 2 * h + (y * (w / 2) + x)) (omega arith) ∙ rows.across x y hx hy ∙ ap₂ difference_of (lies (2 * x) y (omega arith) hy) (lies (2 * x + 1) y (omega arith) hy))

    -- all of it, from what the step down leaves
    pub rows_built : (t : List ℤ) → ((i : ℕ) → i < w * h → Height (line src i)) → ((i : ℕ) → (w + 1) / 2 * h ≤ i → line t i ≡ line s i) →
        ((j : ℕ) (q : Map) → size j ((w + 1) / 2) ≡ 1 → size j ((h + 1) / 2) ≡ 1 → BeginsParted ((w + 1) / 2) h s q → Holds j ((w + 1) / 2) ((h + 1) / 2) t (λ x y. line_up h (q x) y)) →
        ((q : Map) → BeginsParted ((w + 1) / 2) h s q → (x y : ℕ) → x < (w + 1) / 2 → y < h / 2 → line t ((w + 1) / 2 * ((h + 1) / 2) + (y * ((w + 1) / 2) + x)) ≡ apart (q x) y) →
        (k : ℕ) → size k w ≡ 1 → size k h ≡ 1 → 2 < w + h → Holds k w h t p
    rows_built t hs rest o ds k ew eh big =
        let n = next_level k w h ew eh big in
        rw n.1 (across_holds n.0 t hs rest (o n.0 (means w p) n.2 n.3 means_parted) (ds (means w p) means_parted))

  pub rest_across : (t : List ℤ) → ((i : ℕ) → (w + 1) / 2 * h ≤ i → line t i ≡ line s i) → (i : ℕ) → w * h ≤ i → line t i ≡ line r i
  rest_across t rest i hi = let e = widths w h in rest i (omega arith) ∙ rows.rest i hi

-- a map of two by two: ts has the numbers of its quad
pub quad_built : (k : ℕ) (xs ts : List ℤ) (p : Map) → size k 2 ≡ 1 → BeginsWith 2 2 xs p → ((i : ℕ) → i < 4 → Height (line xs i)) →
    line ts 0 ≡ mean_of (mean_of (line xs 0) (line xs 1)) (mean_of (line xs 2) (line xs 3)) → line ts 1 ≡ difference_of (mean_of (line xs 0) (line xs 1)) (mean_of (line xs 2) (line xs 3)) →
    line ts 2 ≡ difference_of (line xs 0) (line xs 1) → line ts 3 ≡ difference_of (line xs 2) (line xs 3) → Holds k 2 2 ts p
unfolding map_in halved means line_up down across apart
quad_built k xs ts p e lies hs e0 e1 e2 e3 =
    let n = next_level k 2 2 e e (omega arith) in
    let hp = map_heights 2 2 xs p lies hs in
    let a = lies 0 0 (omega arith) (omega arith) in
    let b = lies 1 0 (omega arith) (omega arith) in
    let c = lies 0 1 (omega arith) (omega arith) in
    let d = lies 1 1 (omega arith) (omega arith) in
    rw n.1 (below n.0 2 2 ts p hp
    (one_held n.0 ts (halved 2 2 p) (halved_height 2 2 p hp 0 0 (omega arith) (omega arith)) (e0 ∙ ap₂ mean_of (ap₂ mean_of a b) (ap₂ mean_of c d)))
    (λ x y hx hy. let ex : x ≡ 0 = omega arith in let ey : y ≡ 0 = omega arith in rw (ex, ey) (e1 ∙ ap₂ difference_of (ap₂ mean_of a b) (ap₂ mean_of c d)))
    (λ x y hx hy.
    let ex : x ≡ 0 = omega arith in
    ⊎_elim (λ (ey : y ≡ 0). rw (ex, ey) (e2 ∙ ap₂ difference_of a b)) (λ (n : y ≢ 0). let ey : y ≡ 1 = omega arith in rw (ex, ey) (e3 ∙ ap₂ difference_of c d)) (cases_eq y 0)))
