-- The numbers of a tower and the indices of a list are one to one. Assumes nothing.
use Rattle.std.proofs.Common.{◌≡◌, ℕ, zero, suc, ◌+◌, ◌-◌, ◌*◌, ◌/◌, ◌%◌, ◌<◌, ◌≤◌, sym, refl, ap, ◌∙◌, ⊎_elim, le_refl, add-zero, add-suc, mul-le-mul_right, mul-le-mul, mul-le-mul_left, arith}
use Rattle.std.proofs.lemmas.Nat.{div-add-mod', div-mul-add, mod-mul-add, div_below, mod_below}
use Rattle.std.proofs.lemmas.Bool.{cases_lt, cases_order}
use Rattle.levels.specs.Maps.{size}
use Rattle.levels.specs.Numbering.{down_index, across_index, Entry, the_top, a_down, an_across, index, There}
use Rattle.levels.specs.Laws.{NumbersAll}
use Rattle.levels.proofs.Sizes.{size_le, size_pos}
use Rattle.levels.proofs.Parts.{down_within, across_within}

-- two places of rows of n numbers that have one index are one
pub row_same : (n a b c d : ℕ) → b < n → d < n → a * n + b ≡ c * n + d → (a ≡ c) × (b ≡ d)
row_same n a b c d hb hd e = (sym (div-mul-add a n b hb) ∙ ap (λ (m : ℕ). m / n) e ∙ div-mul-add c n d hd, sym (mod-mul-add a n b hb) ∙ ap (λ (m : ℕ). m % n) e ∙ mod-mul-add c n d hd)

-- the numbers before the differences across are those of the coarser levels and the differences down
pub downs_under : (W h u v : ℕ) → u < W → v < h / 2 → W * ((h + 1) / 2) + (v * W + u) < W * h
downs_under W h u v hu hv = let e : h ≡ (h + 1) / 2 + h / 2 = omega arith in omega (arith, ap (λ (m : ℕ). W * m) e, mul-le-mul_right W hv)

pub acrosses_past : (W h : ℕ) → W * ((h + 1) / 2) ≤ W * h
acrosses_past W h = mul-le-mul_left W (let e : (h + 1) / 2 ≤ h = omega arith in e)

-- rows that hold a number have a place
some_rows : (d r m a i : ℕ) → a ≡ m + d * r → m ≤ i → i < a → 0 < d
some_rows d r m a i e lo hi = ⊎_elim (λ (s : 0 < d). s) (λ (s : d ≤ 0). let z : d ≡ 0 = omega arith in absurd (omega (arith, ap (λ (n : ℕ). n * r) z))) (cases_lt 0 d)

module _ (w h : ℕ) where
  -- how many numbers stand before those of the levels finer than l, and before the differences across of l
  abbrev area : ℕ → ℕ
  area l = size l w * size l h

  abbrev middle : ℕ → ℕ
  middle l = size (suc l) w * size l h

  parts : (l : ℕ) → (area (suc l) ≤ middle l) × (middle l ≤ area l)
  unfolding size
  parts l = (mul-le-mul_left (size (suc l) w) (let e : (size l h + 1) / 2 ≤ size l h = omega arith in e), mul-le-mul_right (size l h) (let e : (size l w + 1) / 2 ≤ size l w = omega arith in e))

  finer : (l m : ℕ) → area (l + m) ≤ area l
  finer l zero = rw add-zero (le_refl (area l))
  finer l (suc m) = rw add-suc (let a = finer l m in let b = parts (l + m) in omega arith)

  coarser : (l m : ℕ) → l < m → area m ≤ area (suc l)
  coarser l m h = let e : suc l + (m - suc l) ≡ m = omega arith in rw e at (finer (suc l) (m - suc l))

  -- where the differences of a level stand
  down_stands : (l x y : ℕ) → x < size (suc l) w → y < size l h / 2 → (area (suc l) ≤ down_index w h l x y) × (down_index w h l x y < middle l)
  unfolding down_index size
  down_stands l x y hx hy = (omega arith, downs_under (size (suc l) w) (size l h) x y hx hy)

  across_stands : (l x y : ℕ) → x < size l w / 2 → y < size l h → (middle l ≤ across_index w h l x y) × (across_index w h l x y < area l)
  unfolding across_index size
  across_stands l x y hx hy = (omega arith, across_within (size l w) (size l h) (size l w) (size l h) x y (le_refl (size l w)) (le_refl (size l h)) hx hy)

  -- of one level
  down_one : (l x y u v : ℕ) → x < size (suc l) w → u < size (suc l) w → down_index w h l x y ≡ down_index w h l u v → a_down l x y ≡ a_down l u v
  unfolding down_index
  down_one l x y u v hx hu e = let r = row_same (size (suc l) w) y x v u hx hu (omega arith) in cc

  across_one : (l x y u v : ℕ) → x < size l w / 2 → u < size l w / 2 → across_index w h l x y ≡ across_index w h l u v → an_across l x y ≡ an_across l u v
  unfolding across_index
  across_one l x y u v hx hu e = let r = row_same (size l w / 2) y x v u hx hu (omega arith) in cc

  down_across : (l x y m u v : ℕ) → x < size (suc l) w → y < size l h / 2 → u < size m w / 2 → v < size m h → down_index w h l x y ≡ across_index w h m u v → ⊥
  down_across l x y m u v hx hy hu hv e =
      let a = down_stands l x y hx hy in
      let b = across_stands m u v hu hv in
      let c = parts l in
      let d = parts m in
      ⊎_elim (λ (s : l ≡ m). let f : middle l ≡ middle m = rw s in omega arith)
      (⊎_elim (λ (s : l < m). omega (arith, coarser l m s)) (λ (s : m < l). omega (arith, coarser m l s))) (cases_order l m)

  module _ (k : ℕ) (tw : size k w ≡ 1) (th : size k h ≡ 1) where
    sides : (l : ℕ) → (0 < size l w) × (0 < size l h)
    sides l = (size_pos l w (omega (arith, size_le k w)), size_pos l h (omega (arith, size_le k h)))

    first_past : (l : ℕ) → 0 < area (suc l)
    first_past l = let a = sides (suc l) in mul-le-mul a.0 a.1

    within : (e : Entry) → There k w h e → index w h e < w * h
    unfolding size down_index across_index
    within the_top o = let a = sides 0 in mul-le-mul a.0 a.1
    within (a_down l x y) o = down_within (size l w) (size l h) w h x y (size_le l w) (size_le l h) o.1 o.2
    within (an_across l x y) o = across_within (size l w) (size l h) w h x y (size_le l w) (size_le l h) o.1 o.2

    split : (e f : Entry) → There k w h e → There k w h f → index w h e ≡ index w h f → e ≡ f
    split the_top the_top o q e = refl
    split the_top (a_down m u v) o q e = let b = down_stands m u v q.1 q.2 in absurd (omega (arith, first_past m))
    split the_top (an_across m u v) o q e = let b = across_stands m u v q.1 q.2 in let d = parts m in absurd (omega (arith, first_past m))
    split (a_down l x y) the_top o q e = let b = down_stands l x y o.1 o.2 in absurd (omega (arith, first_past l))
    split (an_across l x y) the_top o q e = let b = across_stands l x y o.1 o.2 in let d = parts l in absurd (omega (arith, first_past l))
    split (a_down l x y) (a_down m u v) o q e =
        let a = down_stands l x y o.1 o.2 in
        let b = down_stands m u v q.1 q.2 in
        let c = parts l in
        let d = parts m in
        ⊎_elim (λ (s : l ≡ m). rw s (down_one m x y u v (rw s at o.1) q.1 (rw s at e)))
        (⊎_elim (λ (s : l < m). absurd (omega (arith, coarser l m s))) (λ (s : m < l). absurd (omega (arith, coarser m l s)))) (cases_order l m)
    split (an_across l x y) (an_across m u v) o q e =
        let a = across_stands l x y o.1 o.2 in
        let b = across_stands m u v q.1 q.2 in
        let c = parts l in
        let d = parts m in
        ⊎_elim (λ (s : l ≡ m). rw s (across_one m x y u v (rw s at o.1) q.1 (rw s at e)))
        (⊎_elim (λ (s : l < m). absurd (omega (arith, coarser l m s))) (λ (s : m < l). absurd (omega (arith, coarser m l s)))) (cases_order l m)
    split (a_down l x y) (an_across m u v) o q e = absurd (down_across l x y m u v o.1 o.2 q.1 q.2 e)
    split (an_across l x y) (a_down m u v) o q e = absurd (down_across m u v l x y q.1 q.2 o.1 o.2 (sym e))

    Found : ℕ → Type 0
    Found i = (e : Entry) × There k w h e × (index w h e ≡ i)

    -- the differences of a level, by their index
    a_level : (l i : ℕ) → l < k → area (suc l) ≤ i → i < area l → Found i
    unfolding Found size down_index across_index
    a_level l i lk lo hi =
        let W : ℕ = size (suc l) w in
        let a = sides l in
        let b = sides (suc l) in
        let eh : size l h ≡ size (suc l) h + size l h / 2 = omega arith in
        let ew : size l w ≡ size (suc l) w + size l w / 2 = omega arith in
        let m : middle l ≡ area (suc l) + size (suc l) w * (size l h / 2) = ap (λ (n : ℕ). size (suc l) w * n) eh ∙ omega arith in
        let n : area l ≡ middle l + size l w / 2 * size l h = ap (λ (n : ℕ). n * size l h) ew ∙ omega arith in
        ⊎_elim
        (λ (s : i < middle l).
        let j : ℕ = i - area (suc l) in
        let v : j / W < size l h / 2 = div_below j W (size l h / 2) b.0 (omega arith) in
        (a_down l (j % W) (j / W), (lk, mod_below j W b.0, v), omega (arith, div-add-mod' j W)))
        (λ (s : middle l ≤ i).
        let j : ℕ = i - middle l in
        let D : ℕ = size l w / 2 in
        let some : 0 < D = some_rows D (size l h) (middle l) (area l) i n s hi in
        let v : j / D < size l h = div_below j D (size l h) some (omega arith) in
        (an_across l (j % D) (j / D), (lk, mod_below j D some, v), omega (arith, div-add-mod' j D)))
        (cases_lt i (middle l))

    find : (j i : ℕ) → j ≤ k → i < area (k - j) → Found i
    unfolding Found
    find zero i jk hi =
        let e : k - 0 ≡ k = omega arith in
        let one : i < 1 * 1 = rw (e, tw, th) at hi in
        (the_top, tt, omega arith)
    find (suc j) i jk hi =
        let l : ℕ = k - suc j in
        let e : suc l ≡ k - j = omega arith in
        ⊎_elim (λ (s : i < area (suc l)). find j i (omega arith) (rw e at s)) (λ (s : area (suc l) ≤ i). a_level l i (omega arith) s hi) (cases_lt i (area (suc l)))

    number_of : (i : ℕ) → i < w * h → Found i
    unfolding size
    number_of i hi = let e : k - k ≡ 0 = omega arith in find k i (le_refl k) (rw e hi)

pub numbers_all_lem : NumbersAll
unfolding Found
numbers_all_lem k w h tw th = record { within = within w h k tw th; apart = split w h k tw th; all = number_of w h k tw th }
