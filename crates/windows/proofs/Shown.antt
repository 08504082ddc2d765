-- Rows of a map from the numbers of its tower. Assumes nothing.
use Rattle.std.proofs.Common.{◌≡◌, ℕ, suc, ◌+◌, ◌-◌, ◌*◌, ◌/◌, ◌%◌, ◌<◌, ◌≤◌, List, length, ℤ, pos, sym, refl, ◌∙◌, le_refl, mul-le-mul_right, mul-le-mul, arith, ltb→lt}
use Rattle.std.specs.List.{between}
use Rattle.std.proofs.lemmas.List.Edits.{get_or-between}
use Rattle.pairs.specs.Pairs.{Height, Difference}
use Rattle.levels.specs.Maps.{Map, size, line_up, apart, line_down, means, across, halved, down}
use Rattle.levels.specs.Numbering.{across_index, down_index, Holds}
use Rattle.levels.proofs.Lines.{line_back, down_pair, down_last}
use Rattle.levels.proofs.Windows.{down_same}
use Rattle.levels.proofs.Held.{across_there, down_there, means_height, halved_height, across_difference, down_difference}
use Rattle.maps.specs.Rows.{line, OneBack, RowBack}
use Rattle.windows.specs.Windows.{Row}

-- a place of a line, from what its pair went up as and the difference, if it has one
pub line_shown : (n : ℕ) (f : ℕ → ℤ) (x : ℕ) → x < n → Height (line_up n f (x / 2)) → (2 * (x / 2) + 1 < n → Difference (apart f (x / 2))) →
    (m d r : ℤ) → m ≡ line_up n f (x / 2) → (2 * (x / 2) + 1 < n → d ≡ apart f (x / 2)) → (Height m → (2 * (x / 2) + 1 < n → Difference d) → r ≡ line_down n x m d) → r ≡ f x
line_shown n f x hx hm hd m d r em ed back =
    back (rw em hm) (λ two. rw (ed two) (hd two)) ∙ down_same n x m (line_up n f (x / 2)) d (apart f (x / 2)) em (λ t. ed (ltb→lt _ _ t)) ∙ line_back n f x hx

-- n differences from an index on, of one row, lie within the tower
pub across_part : (w h x y n : ℕ) → y < h → x + n ≤ w / 2 → across_index w h 0 x y + n ≤ w * h
unfolding across_index size
across_part w h x y n hy hn =
    let a : (w + 1) / 2 + w / 2 ≤ w = omega arith in
    omega (arith, mul-le-mul a (le_refl h), mul-le-mul_right (w / 2) hy)

pub down_part : (w h x y n : ℕ) → 2 * y + 1 < h → x + n ≤ (w + 1) / 2 → down_index w h 0 x y + n ≤ w * h
unfolding down_index size
down_part w h x y n hy hn =
    let a : (w + 1) / 2 ≤ w = omega arith in
    let b : (h + 1) / 2 + h / 2 ≤ h = omega arith in
    let c : y < h / 2 = omega arith in
    omega (arith, mul-le-mul a b, mul-le-mul_right ((w + 1) / 2) c)

module _ (k w h : ℕ) (ts : List ℤ) (p : Map) (o : Holds (suc k) w h ts p) where
  -- a row of heights from its means; at is the index of the difference across of the pair of x
  pub heights_shown : (x y at e n : ℕ) (ms row : List ℤ) → x + n ≤ w → y < h → at ≡ across_index w h 0 (x / 2) y → e ≡ at + (w / 2 - x / 2) → n ≤ 2 * length ms - x % 2 →
      RowBack w x n ms (between at e ts) row → Row (length ms) ms (means w p) (x / 2) y → Row n row p x y
  unfolding across_index size means across
  heights_shown x y at e n ms row hx hy ea ee hn back hm u hu =
      let j : ℕ = (x % 2 + u) / 2 in
      let ej : x / 2 + j ≡ (x + u) / 2 = omega arith in
      line_shown w (λ v. p v y) (x + u) (omega arith) (means_height w h p o.heights ((x + u) / 2) y (omega arith) hy) (λ two. across_difference w h p o.heights ((x + u) / 2) y two hy)
      (line ms j) (line (between at e ts) j) (line row u)
      (rw ej at (hm j (omega arith)))
      (λ two.
      let i : at + j ≡ (w + 1) / 2 * h + (y * (w / 2) + (x + u) / 2) = omega arith in
      get_or-between ts at e j (pos 0) (omega arith) ∙ rw i (across_there k w h ts p o ((x + u) / 2) y two hy))
      (back u j hu refl)

  -- a row of means from the coarser row; at is the index of the difference down of the column x
  module _ (x y n : ℕ) (cs : List ℤ) (hx : x + n ≤ (w + 1) / 2) (hy : y < h) (hc : Row n cs (halved w h p) x (y / 2)) where
    pub ones_shown : (at e : ℕ) (row : List ℤ) → 2 * (y / 2) + 1 < h → at ≡ down_index w h 0 x (y / 2) → e ≡ at + n →
        ((i : ℕ) → i < n → OneBack y cs (between at e ts) i (line row i)) → Row n row (means w p) x y
    unfolding down_index size halved down
    ones_shown at e row two ea ee back u hu =
        line_shown h (means w p (x + u)) y hy (halved_height w h p o.heights (x + u) (y / 2) (omega arith) (omega arith)) (λ _. down_difference w h p o.heights (x + u) (y / 2) (omega arith) two)
        (line cs u) (line (between at e ts) u) (line row u) (hc u hu)
        (λ _.
        let i : at + u ≡ (w + 1) / 2 * ((h + 1) / 2) + (y / 2 * ((w + 1) / 2) + (x + u)) = omega arith in
        get_or-between ts at e u (pos 0) (omega arith) ∙ rw i (down_there k w h ts p o (x + u) (y / 2) (omega arith) two))
        (λ hm hd. back u hu hm (hd two) ∙ sym (down_pair h y _ _ two))

    -- a last row alone
    pub copy_shown : h ≤ 2 * (y / 2) + 1 → Row n cs (means w p) x y
    unfolding halved
    copy_shown one u hu =
        line_shown h (means w p (x + u)) y hy (halved_height w h p o.heights (x + u) (y / 2) (omega arith) (omega arith)) (λ two. absurd (omega arith))
        (line cs u) (pos 0) (line cs u) (hc u hu) (λ two. absurd (omega arith)) (λ hm hd. sym (down_last h y _ _ one))
