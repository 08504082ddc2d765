-- Where the rows of a window stand, and those of the coarser window that it is made from. Assumes nothing.
use Rattle.std.proofs.Common.{◌≡◌, ℕ, ◌+◌, ◌*◌, ◌/◌, ◌%◌, ◌<◌, ◌≤◌, List, ℤ, pos, sym, ◌∙◌, ⊎_elim, mul-le-mul_right, mul-le-mul, arith}
use Rattle.std.specs.List.{between}
use Rattle.std.proofs.lemmas.List.Edits.{get_or-between}
use Rattle.std.proofs.lemmas.Bool.{cases_eq}
use Rattle.levels.specs.Maps.{Map}
use Rattle.maps.specs.Rows.{line}
use Rattle.windows.specs.Windows.{Row, Window}

-- a row ends within the window
pub row_within : (w h v : ℕ) → v < h → v * w + w ≤ w * h
row_within w h v hv = omega (arith, mul-le-mul_right w hv)

-- the coarser row of the row v ends no later than that row
pub from_within : (w x y v : ℕ) → 0 < w → (y % 2 + v) / 2 * ((x % 2 + w + 1) / 2) + (x % 2 + w + 1) / 2 ≤ v * w + w
from_within w x y v hw =
    let a : (y % 2 + v) / 2 + 1 ≤ v + 1 = omega arith in
    let b : (x % 2 + w + 1) / 2 ≤ w = omega arith in
    omega (arith, mul-le-mul a b)

-- the rows from v on stand where they belong
abbrev pub RowsFrom : (v w h : ℕ) → List ℤ → Map → (x y : ℕ) → Type 0
RowsFrom v w h xs p x y = (u k : ℕ) → u < w → v ≤ k → k < h → line xs (k * w + u) ≡ p (x + u) (y + k)

-- the row v is made, after those below it; q is the coarser map, start what the room began with
pub row_more : (w h x y v : ℕ) (p q : Map) (start before after : List ℤ) → 0 < w → v < h →
    Window ((x % 2 + w + 1) / 2) ((y % 2 + h + 1) / 2) start q (x / 2) (y / 2) →
    RowsFrom (v + 1) w h before p x y →
    ((j : ℕ) → j < (v + 1) * w → line before j ≡ line start j) →
    (Row ((x % 2 + w + 1) / 2) (between ((y % 2 + v) / 2 * ((x % 2 + w + 1) / 2)) ((y % 2 + v) / 2 * ((x % 2 + w + 1) / 2) + (x % 2 + w + 1) / 2) before) q (x / 2) ((y + v) / 2) → Row w (between (v * w) (v * w + w) after) p x (y + v)) →
    ((j : ℕ) → (v * w ≤ j → j < v * w + w → ⊥) → line after j ≡ line before j) →
    RowsFrom v w h after p x y
row_more w h x y v p q start before after hw hv coarse done kept right rest u k hu vk hk =
    ⊎_elim
    (λ e. rw e (
    let made = right (λ i hi.
    let n : ℕ = (x % 2 + w + 1) / 2 in
    let r : ℕ = (y % 2 + v) / 2 in
    let er : y / 2 + r ≡ (y + v) / 2 = omega arith in
    let f = from_within w x y v hw in
    get_or-between before (r * n) (r * n + n) i (pos 0) (omega arith) ∙ kept (r * n + i) (omega arith) ∙ rw er at (coarse i r hi (omega arith))) u hu in
    sym (get_or-between after (v * w) (v * w + w) u (pos 0) (omega arith)) ∙ made))
    (λ n. let lt : v + 1 ≤ k = omega arith in rest (k * w + u) (λ _ l. omega (arith, mul-le-mul_right w lt)) ∙ done u k hu lt hk)
    (cases_eq k v)
