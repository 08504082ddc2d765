-- What lies beside a window does not matter for it. Assumes nothing.
use Rattle.std.proofs.Common.{◌≡◌, ℕ, zero, suc, ◌+◌, ◌-◌, ◌*◌, ◌/◌, ◌≤◌, T, ℤ, ap₂, ⊎_elim, div-one, arith, lt→ltb}
use Rattle.std.proofs.lemmas.Bool.{cases_lt}
use Rattle.pairs.specs.Pairs.{one_of}
use Rattle.levels.specs.Maps.{Map, power, size, paired, line_down, joined}
use Rattle.levels.specs.Towers.{Tower, shown, at_level}
use Rattle.levels.specs.Laws.{SameWay, WindowOnly}
use Rattle.levels.proofs.Sizes.{half_power}
use Rattle.levels.proofs.Lines.{down_pair, down_last}

-- a place of a line needs its difference only where its pair is whole
pub down_same : (n x : ℕ) (m m' d d' : ℤ) → m ≡ m' → (T (paired n (x / 2)) → d ≡ d') → line_down n x m d ≡ line_down n x m' d'
down_same n x m m' d d' e f = ⊎_elim
    (λ l. rw (down_pair n x m d l, down_pair n x m' d' l) (ap₂ (one_of x) e (f (lt→ltb (2 * (x / 2) + 1) n l))))
    (λ l. rw (down_last n x m d l, down_last n x m' d' l) e)
    (cases_lt (2 * (x / 2) + 1) n)

pub joined_same : (w h : ℕ) (s s' a a' d d' : Map) (x y : ℕ) → s (x / 2) (y / 2) ≡ s' (x / 2) (y / 2) → (T (paired w (x / 2)) → a (x / 2) y ≡ a' (x / 2) y) → (T (paired h (y / 2)) → d (x / 2) (y / 2) ≡ d' (x / 2) (y / 2)) → joined w h s a d x y ≡ joined w h s' a' d' x y
unfolding joined
joined_same w h s s' a a' d d' x y e ea ed = down_same w x _ _ _ _ (down_same h y _ _ _ _ e ed) ea

module _ (k w h : ℕ) (t s : Tower) where
  above : (l x y : ℕ) → SameWay k w h l x y t s → SameWay k w h (suc l) (x / 2) (y / 2) t s
  above l x y o = record {
    top = o.top;
    downs = λ m lm mk.
        let ex = half_power x (suc m - suc l) (suc m - l) (omega arith) in
        let ey = half_power y (suc m - suc l) (suc m - l) (omega arith) in
        rw (ex, ey) (o.downs m (omega arith) mk);
    acrosses = λ m lm mk.
        let ex = half_power x (suc m - suc l) (suc m - l) (omega arith) in
        let ey = half_power y (m - suc l) (m - l) (omega arith) in
        rw (ex, ey) (o.acrosses m (omega arith) mk);
  }

  shown_same : (u x y : ℕ) → u ≤ k → SameWay k w h (k - u) x y t s → shown k w h t u x y ≡ shown k w h s u x y
  unfolding shown power
  shown_same zero x y uk o = o.top
  shown_same (suc u) x y uk o =
      let m : ℕ = k - suc u in
      let e0 : m - m ≡ 0 = omega arith in
      let e1 : suc m - m ≡ 1 = omega arith in
      let e2 : k - u ≡ suc m = omega arith in
      joined_same (size m w) (size m h) (shown k w h t u) (shown k w h s u) (t.acrosses m) (s.acrosses m) (t.downs m) (s.downs m) x y
      (shown_same u (x / 2) (y / 2) (omega arith) (rw e2 (above m x y o)))
      (rw (e0, e1, div-one y) at (o.acrosses m (omega arith) (omega arith)))
      (rw e1 at (o.downs m (omega arith) (omega arith)))

pub window_only_lem : WindowOnly
unfolding at_level
window_only_lem k w h l t s x y lk o =
    let e : k - (k - l) ≡ l = omega arith in
    shown_same k w h t s (k - l) x y (omega arith) (rw e o)
