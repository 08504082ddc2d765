-- The rows of a map halved, one after the other. Assumes nothing.
use Rattle.std.proofs.Common.{◌≡◌, ℕ, ◌+◌, ◌*◌, ◌/◌, ◌%◌, ◌<◌, ◌≤◌, ◌≢◌, ◌⊎◌, List, ◌++◌, length, ℤ, pos, sym, ap, ◌∙◌, ap₂, inl, inr, ⊎_elim, mul-le-mul_right, arith}
use borrow.Rule.Slice.PartMut.{put_mid}
use Rattle.std.specs.List.{between}
use Rattle.std.proofs.lemmas.List.Edits.{length-between, get_or-between}
use Rattle.std.proofs.lemmas.Bool.{cases_eq}
use Rattle.pairs.specs.Pairs.{difference_of}
use Rattle.levels.specs.Maps.{apart, means, across}
use Rattle.levels.specs.Numbering.{map_in}
use Rattle.levels.proofs.Lines.{up_same}
use Rattle.maps.specs.Rows.{line, RowHalved}
use Rattle.maps.proofs.Lent.{first_lent, second_lent, neither_lent}
use Rattle.building.specs.Steps.{RowsHalved}

-- a row that lies before another ends where that begins, and a row of the map lies in it
pub row_before : (W v t : ℕ) → v < t → v * W + W ≤ t * W
row_before W v t h = omega (arith, mul-le-mul_right W h)

pub row_within : (w h y : ℕ) → y < h → y * w + w ≤ w * h
row_within w h y hy = omega (arith, row_before w y h hy)

-- means and differences are as many as the places
pub widths : (w h : ℕ) → (w + 1) / 2 * h + h * (w / 2) ≡ w * h
widths w h = let e : w ≡ (w + 1) / 2 + w / 2 = omega arith in omega (arith, ap (λ (m : ℕ). m * h) e)

-- the row y of a map, as it is lent
module _ (src : List ℤ) (w y : ℕ) (end : y * w + w ≤ length src) where
  abbrev pub row : List ℤ
  row = between (y * w) (y * w + w) src

  pub row_length : length row ≡ w
  row_length = length-between src (y * w) (y * w + w) end ∙ omega arith

  pub row_line : (u : ℕ) → u < w → line row u ≡ map_in w src u y
  unfolding map_in
  row_line u hu = get_or-between src (y * w) (y * w + w) u (pos 0) (omega arith)

  -- what is left when it is halved, in the words of the map
  pub record RowPut (was now : List ℤ) (to beside : ℕ) : Type 0 where
    pub means : (k : ℕ) → k < (w + 1) / 2 → line now (to + k) ≡ means w (map_in w src) k y
    pub across : (k : ℕ) → k < w / 2 → line now (beside + k) ≡ across (map_in w src) k y
    pub rest : (i : ℕ) → (to ≤ i → i < to + (w + 1) / 2 → ⊥) → (beside ≤ i → i < beside + w / 2 → ⊥) → line now i ≡ line was i

  -- the two parts of the room that it is halved into were lent
  pub row_put : (was f g ms₀ ms ds₀ ds : List ℤ) (b to k a n : ℕ) → RowHalved row ms₀ ms ds₀ ds → was ≡ f ++ g → length f ≡ b → length ms ≡ k → length ds ≡ n → k ≡ (w + 1) / 2 → n ≡ w / 2 → to + k ≤ length f → a + n ≤ length g →
      RowPut was (put_mid to k f ms ++ put_mid a n g ds) to (b + a)
  unfolding means across apart
  row_put was f g ms₀ ms ds₀ ds b to k a n o ew eb em ed ek en hf hg =
      let e = row_length in
      let o' = rw e at o in
      rw (← eb, ew) (record {
        means = λ j hj. first_lent f g ms ds to k a n em ed hf hg j (omega arith) ∙ o.means j (rw e hj) ∙ rw e (up_same w (line row) (λ u. map_in w src u y) j (λ i hi. row_line i hi) hj);
        across = λ j hj. ap (line (put_mid to k f ms ++ put_mid a n g ds)) (omega arith) ∙ second_lent f g ms ds to k a n em ed hf hg j (omega arith) ∙ o.across j (rw e hj) ∙ ap₂ difference_of (row_line (2 * j) (omega arith)) (row_line (2 * j + 1) (omega arith));
        rest = λ i p q. neither_lent f g ms ds to k a n em ed hf hg i (rw ek p) (rw en q);
      })

-- the row at which the means of row y stand
module _ (h y t : ℕ) (hy : y < h) (even : y % 2 ≡ 0 → t ≡ y / 2) (odd : y % 2 ≡ 1 → t ≡ (h + 1) / 2 + y / 2) where
  past_evens : (v : ℕ) → 2 * v < y → v < t
  past_evens v hv = ⊎_elim (λ (e : y % 2 ≡ 0). let k = even e in omega arith) (λ (n : y % 2 ≢ 0). let k = odd (omega arith) in omega arith) (cases_eq (y % 2) 0)

  off_odds : (v : ℕ) → 2 * v + 1 < y → (t < (h + 1) / 2 + v) ⊎ ((h + 1) / 2 + v < t)
  off_odds v hv = ⊎_elim (λ (e : y % 2 ≡ 0). let k = even e in inl (omega arith)) (λ (n : y % 2 ≢ 0). let k = odd (omega arith) in inr (omega arith)) (cases_eq (y % 2) 0)

module _ (src was r s : List ℤ) (w h y t : ℕ) (hy : y < h) (ht : t < h) (even : y % 2 ≡ 0 → t ≡ y / 2) (odd : y % 2 ≡ 1 → t ≡ (h + 1) / 2 + y / 2) (end : y * w + w ≤ length src)
    (put : RowPut src w y end r s (t * ((w + 1) / 2)) ((w + 1) / 2 * h + y * (w / 2))) (o : RowsHalved src was r w h y) where
  means_end : t * ((w + 1) / 2) + (w + 1) / 2 ≤ (w + 1) / 2 * h
  means_end = row_within ((w + 1) / 2) h t ht

  evens_more : (x v : ℕ) → x < (w + 1) / 2 → 2 * v < y + 1 → line s (v * ((w + 1) / 2) + x) ≡ means w (map_in w src) x (2 * v)
  evens_more x v hx hv = ⊎_elim
      (λ (e : 2 * v ≡ y). let ey : y ≡ 2 * v = sym e in let et : t ≡ v = even (omega arith) ∙ omega arith in rw (et, ey) at (put.means x hx))
      (λ (n : 2 * v ≢ y). let b = row_before ((w + 1) / 2) v t (past_evens h y t hy even odd v (omega arith)) in let m = means_end in
      put.rest (v * ((w + 1) / 2) + x) (λ i j. omega arith) (λ i j. omega arith) ∙ o.evens x v hx (omega arith))
      (cases_eq (2 * v) y)

  odds_more : (x v : ℕ) → x < (w + 1) / 2 → 2 * v + 1 < y + 1 → line s ((w + 1) / 2 * ((h + 1) / 2) + (v * ((w + 1) / 2) + x)) ≡ means w (map_in w src) x (2 * v + 1)
  odds_more x v hx hv = ⊎_elim
      (λ (e : 2 * v + 1 ≡ y). let ey : y ≡ 2 * v + 1 = sym e in let et : t ≡ (h + 1) / 2 + v = odd (omega arith) ∙ omega arith in
      let ei : (w + 1) / 2 * ((h + 1) / 2) + (v * ((w + 1) / 2) + x) ≡ t * ((w + 1) / 2) + x = rw et (omega arith) in
      rw ei (rw ey at (put.means x hx)))
      (λ (n : 2 * v + 1 ≢ y). let hh : (h + 1) / 2 + v < h = omega arith in let b = row_before ((w + 1) / 2) ((h + 1) / 2 + v) h hh in
      put.rest ((w + 1) / 2 * ((h + 1) / 2) + (v * ((w + 1) / 2) + x))
      (λ i j. ⊎_elim (λ (l : t < (h + 1) / 2 + v). omega (arith, row_before ((w + 1) / 2) t ((h + 1) / 2 + v) l)) (λ (l : (h + 1) / 2 + v < t). omega (arith, row_before ((w + 1) / 2) ((h + 1) / 2 + v) t l)) (off_odds h y t hy even odd v (omega arith)))
      (λ i j. omega arith) ∙ o.odds x v hx (omega arith))
      (cases_eq (2 * v + 1) y)

  across_more : (x v : ℕ) → x < w / 2 → v < y + 1 → line s ((w + 1) / 2 * h + (v * (w / 2) + x)) ≡ across (map_in w src) x v
  across_more x v hx hv = ⊎_elim
      (λ (e : v ≡ y). let ei : (w + 1) / 2 * h + (v * (w / 2) + x) ≡ (w + 1) / 2 * h + y * (w / 2) + x = rw e (omega arith) in rw (ei, e) (put.across x hx))
      (λ (n : v ≢ y). let vy : v < y = omega arith in let b = row_before (w / 2) v y vy in let m = means_end in
      put.rest ((w + 1) / 2 * h + (v * (w / 2) + x)) (λ i j. omega arith) (λ i j. omega arith) ∙ o.across x v hx vy)
      (cases_eq v y)

  rest_more : (i : ℕ) → w * h ≤ i → line s i ≡ line was i
  rest_more i hi =
      let b = row_before (w / 2) y h hy in let m = means_end in let e = widths w h in
      put.rest i (λ a c. omega arith) (λ a c. omega arith) ∙ o.rest i hi

  pub rows_more : RowsHalved src was s w h (y + 1)
  rows_more = record { evens = evens_more; odds = odds_more; across = across_more; rest = rest_more }
