-- What halving keeps: bounds, order and slope. Assumes nothing.
use Rattle.std.proofs.Common.{◌≡◌, ℕ, zero, suc, ◌+◌, ◌*◌, ◌/◌, ◌<◌, ℤ, ◌≤ℤ◌, ap, ◌∙◌, div-one, arith}
use borrow.Author.Differences.{ints}
use Rattle.pairs.specs.Pairs.{mean_of}
use Rattle.pairs.proofs.Half.{half_is}
use Rattle.levels.specs.Maps.{Map, power, size, line_up, means, halved, level}
use Rattle.levels.specs.Laws.{Between, KeepsOrder, KeepsSlopes}
use Rattle.levels.proofs.Sizes.{div_power}
use Rattle.levels.proofs.Lines.{up_pair, up_each, up_both}

-- what holds of the heights of a square, and is kept by means, holds of the place that the square becomes
module _ (P : ℤ → Type 0) (kept : (a b : ℤ) → P a → P b → P (mean_of a b)) where
  halved_each : (w h : ℕ) (p : Map) (x y : ℕ) → x < (w + 1) / 2 → y < (h + 1) / 2 → ((s t : ℕ) → s / 2 ≡ x → t / 2 ≡ y → s < w → t < h → P (p s t)) → P (halved w h p x y)
  unfolding halved means
  halved_each w h p x y hx hy o =
      let row : (t : ℕ) → t / 2 ≡ y → t < h → P (means w p x t) = λ t et ht. up_each P w (λ u. p u t) x kept (λ hs. o (2 * x) t (omega arith) et hs ht) (λ hs. o (2 * x + 1) t (omega arith) et hs ht) hx in
      up_each P h (means w p x) y kept (row (2 * y) (omega arith)) (row (2 * y + 1) (omega arith)) hy

  pub level_each : (l w h : ℕ) (p : Map) (x y : ℕ) → x < size l w → y < size l h → ((u v : ℕ) → u < w → v < h → u / power l ≡ x → v / power l ≡ y → P (p u v)) → P (level l w h p x y)
  unfolding level size power
  level_each zero w h p x y hx hy o = o x y hx hy (div-one x) (div-one y)
  level_each (suc l) w h p x y hx hy o =
      halved_each (size l w) (size l h) (level l w h p) x y hx hy (λ s t es et hs ht. level_each l w h p s t hs ht
      (λ u v hu hv eu ev. o u v hu hv (div_power u l ∙ ap (λ (n : ℕ). n / 2) eu ∙ es) (div_power v l ∙ ap (λ (n : ℕ). n / 2) ev ∙ et)))

pub between_lem : Between
between_lem l w h p x y a b = level_each (λ z. (a ≤ℤ z) × (z ≤ℤ b)) (λ c d hc hd. omega (arith, ints, half_is)) l w h p x y

-- an order that means keep: up or down
module _ (R : ℤ → ℤ → Type 0) (same : (a : ℤ) → R a a) (on : (a b c : ℤ) → R a b → R b c → R a c) (both : (a b c d : ℤ) → R a c → R b d → R (mean_of a b) (mean_of c d))
    (below : (a b c : ℤ) → R a c → R b c → R (mean_of a b) c) (above : (a b c : ℤ) → R c a → R c b → R c (mean_of a b)) where
  pub level_both : (l w h : ℕ) (p q : Map) → ((x y : ℕ) → x < w → y < h → R (p x y) (q x y)) → (x y : ℕ) → x < size l w → y < size l h → R (level l w h p x y) (level l w h q x y)
  unfolding level size halved means
  level_both zero w h p q o x y hx hy = o x y hx hy
  level_both (suc l) w h p q o x y hx hy =
      up_both R (size l h) (means (size l w) (level l w h p) x) (means (size l w) (level l w h q) x) y both
      (λ v hv. up_both R (size l w) (λ u. level l w h p u v) (λ u. level l w h q u v) x both (λ u hu. level_both l w h p q o u v hu hv) hx) hy

  -- a line that goes one way does so one level up: what stands between two pairs is the later one of the first
  line_slope : (n : ℕ) (f : ℕ → ℤ) (i : ℕ) → ((j : ℕ) → j + 1 < n → R (f j) (f (j + 1))) → i + 1 < (n + 1) / 2 → R (line_up n f i) (line_up n f (i + 1))
  line_slope n f i o hi =
      let e : 2 * (i + 1) ≡ 2 * i + 1 + 1 = omega arith in
      let c : ℤ = f (2 * i + 1) in
      let next : R c (f (2 * (i + 1))) = rw e (o (2 * i + 1) (omega arith)) in
      on (line_up n f i) c (line_up n f (i + 1))
      (rw (up_pair n f i (omega arith)) (below (f (2 * i)) c c (o (2 * i) (omega arith)) (same c)))
      (up_each (λ z. R c z) n f (i + 1) (λ a b. above a b c) (λ _. next) (λ h. on c (f (2 * (i + 1))) (f (2 * (i + 1) + 1)) next (o (2 * (i + 1)) h)) hi)

  pub across_kept : (l w h : ℕ) (p : Map) → ((x y : ℕ) → x + 1 < w → y < h → R (p x y) (p (x + 1) y)) → (x y : ℕ) → x + 1 < size l w → y < size l h → R (level l w h p x y) (level l w h p (x + 1) y)
  unfolding level size halved means
  across_kept zero w h p o x y hx hy = o x y hx hy
  across_kept (suc l) w h p o x y hx hy =
      up_both R (size l h) (means (size l w) (level l w h p) x) (means (size l w) (level l w h p) (x + 1)) y both
      (λ v hv. line_slope (size l w) (λ u. level l w h p u v) x (λ u hu. across_kept l w h p o u v hu hv) hx) hy

  pub down_kept : (l w h : ℕ) (p : Map) → ((x y : ℕ) → x < w → y + 1 < h → R (p x y) (p x (y + 1))) → (x y : ℕ) → x < size l w → y + 1 < size l h → R (level l w h p x y) (level l w h p x (y + 1))
  unfolding level size halved means
  down_kept zero w h p o x y hx hy = o x y hx hy
  down_kept (suc l) w h p o x y hx hy =
      line_slope (size l h) (means (size l w) (level l w h p) x) y
      (λ v hv. up_both R (size l w) (λ u. level l w h p u v) (λ u. level l w h p u (v + 1)) x both (λ u hu. down_kept l w h p o u v hu hv) hx) hy

-- up
up_same : (a : ℤ) → a ≤ℤ a
up_same a = omega (arith, ints)

up_on : (a b c : ℤ) → a ≤ℤ b → b ≤ℤ c → a ≤ℤ c
up_on a b c h k = omega (arith, ints)

up_means : (a b c d : ℤ) → a ≤ℤ c → b ≤ℤ d → mean_of a b ≤ℤ mean_of c d
up_means a b c d h k = omega (arith, ints, half_is)

under : (a b c : ℤ) → a ≤ℤ c → b ≤ℤ c → mean_of a b ≤ℤ c
under a b c h k = omega (arith, ints, half_is)

over : (a b c : ℤ) → c ≤ℤ a → c ≤ℤ b → c ≤ℤ mean_of a b
over a b c h k = omega (arith, ints, half_is)

pub keeps_order_lem : KeepsOrder
keeps_order_lem = level_both ◌≤ℤ◌ up_same up_on up_means under over

-- and down, the same the other way round
abbrev Down : ℤ → ℤ → Type 0
Down a b = b ≤ℤ a

pub keeps_slopes_lem : KeepsSlopes
keeps_slopes_lem l w h p = record {
  falls_across = across_kept Down up_same (λ a b c h k. up_on c b a k h) (λ a b c d. up_means c d a b) over under l w h p;
  falls_down = down_kept Down up_same (λ a b c h k. up_on c b a k h) (λ a b c d. up_means c d a b) over under l w h p;
  rises_across = across_kept ◌≤ℤ◌ up_same up_on up_means under over l w h p;
  rises_down = down_kept ◌≤ℤ◌ up_same up_on up_means under over l w h p;
}
