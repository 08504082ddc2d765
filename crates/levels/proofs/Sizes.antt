-- Sizes of levels, and how many numbers a tower has. Assumes nothing.
use Rattle.std.proofs.Common.{◌≡◌, ℕ, zero, suc, ◌+◌, ◌-◌, ◌*◌, ◌/◌, ◌^◌, ◌<◌, ◌≤◌, max, Bool, true, false, cond, leb, sym, refl, ap, ◌∙◌, le_refl, add-zero, add-suc, mul_comm, arith}
use native.Mathlib.Nat.{div-div-eq-div-mul, pow-succ'}
use Rattle.std.proofs.lemmas.Bool.{leb-true, leb-false}
use Rattle.levels.specs.Maps.{power, size}
use Rattle.levels.specs.Towers.{halvings, levels}
use Rattle.levels.specs.Numbering.{differences}
use Rattle.levels.specs.Laws.{LevelsEnough, AsMany}

pub power_pos : (n : ℕ) → 0 < power n
unfolding power
power_pos zero = omega arith
power_pos (suc n) = omega (arith, power_pos n)

pub power_is : (n : ℕ) → power n ≡ 2 ^ n
unfolding power
power_is zero = refl
power_is (suc n) = rw (pow-succ' 2 n) (ap (λ (m : ℕ). 2 * m) (power_is n))

pub power_more : (n d : ℕ) → power n ≤ power (n + d)
unfolding power
power_more n zero = rw add-zero (le_refl (power n))
power_more n (suc d) = rw add-suc (omega (arith, power_more n d))

pub power_most : (n : ℕ) → n ≤ 7 → power n ≤ 128
unfolding power
power_most n h = let e : n + (7 - n) ≡ 7 = omega arith in rw e at (power_more n (7 - n))

-- a place one level up
pub div_power : (x l : ℕ) → x / power (suc l) ≡ x / power l / 2
unfolding power
div_power x l = rw (div-div-eq-div-mul, mul_comm (power l) 2)

-- first one level up, and then n
pub half_power : (x n m : ℕ) → m ≡ suc n → x / 2 / power n ≡ x / power m
unfolding power
half_power x n m e = rw (e, div-div-eq-div-mul)

pub size_pos : (l n : ℕ) → 0 < n → 0 < size l n
unfolding size
size_pos zero n h = h
size_pos (suc l) n h = omega (arith, size_pos l n h)

pub size_one : (l : ℕ) → size l 1 ≡ 1
unfolding size
size_one zero = refl
size_one (suc l) = rw (size_one l)

pub size_mono : (l m n : ℕ) → m ≤ n → size l m ≤ size l n
unfolding size
size_mono zero m n h = h
size_mono (suc l) m n h = omega (arith, size_mono l m n h)

pub size_le : (l n : ℕ) → size l n ≤ n
unfolding size
size_le zero n = le_refl n
size_le (suc l) n = omega (arith, size_le l n)

-- first m levels up, and then l
pub size_size : (l m n : ℕ) → size l (size m n) ≡ size (m + l) n
unfolding size
size_size zero m n = rw add-zero
size_size (suc l) m n = rw (add-suc m l) (ap (λ (a : ℕ). (a + 1) / 2) (size_size l m n))

pub size_inner : (l n : ℕ) → size l ((n + 1) / 2) ≡ (size l n + 1) / 2
unfolding size
size_inner zero n = refl
size_inner (suc l) n = ap (λ (a : ℕ). (a + 1) / 2) (size_inner l n)

-- a line with room for a squares of level l has a places there
pub size_full : (l a n : ℕ) → a * power l ≤ n → a ≤ size l n
unfolding size power
size_full zero a n h = omega arith
size_full (suc l) a n h = let r = size_full l (2 * a) n (omega arith) in omega arith

halved_to_one : (f n : ℕ) → 0 < n → n ≤ f → size (halvings f n) n ≡ 1
unfolding halvings size
halved_to_one zero n h k = absurd (omega arith)
halved_to_one (suc f) n h k = go (leb n 1) refl (halved_to_one f ((n + 1) / 2))
  where
    go : (t : Bool) → leb n 1 ≡ t → (0 < (n + 1) / 2 → (n + 1) / 2 ≤ f → size (halvings f ((n + 1) / 2)) ((n + 1) / 2) ≡ 1) → size (cond t 0 (suc (halvings f ((n + 1) / 2)))) n ≡ 1
    go true e rec = omega (arith, leb-true n 1 e)
    go false e rec = let g = leb-false n 1 e in sym (size_inner (halvings f ((n + 1) / 2)) n) ∙ rec (omega arith) (omega arith)

pub levels_enough_lem : LevelsEnough
unfolding levels
levels_enough_lem w h hw hh =
    let m : ℕ = max w h in
    let k : ℕ = halvings m m in
    let e : size k m ≡ 1 = halved_to_one m m (omega arith) (omega arith) in
    (omega (arith, size_mono k w m (omega arith), size_pos k w hw), omega (arith, size_mono k h m (omega arith), size_pos k h hh))

-- a by b places are those of the coarser map, a₁ by b₁, and the differences, a₁ by b₂ and a₂ by b
parts_add : (a₁ a₂ b₁ b₂ a b d : ℕ) → a₁ + a₂ ≡ a → b₁ + b₂ ≡ b → a₁ * b₁ + (d + (a₁ * b₂ + a₂ * b)) ≡ a * b + d
parts_add a₁ a₂ b₁ b₂ a b d e f = rw (← e, ← f) (omega arith)

pub counts : (k w h : ℕ) → size k w * size k h + differences k w h ≡ w * h
unfolding size differences
counts zero w h = omega arith
counts (suc l) w h =
    let a : ℕ = size l w in
    let b : ℕ = size l h in
    parts_add ((a + 1) / 2) (a / 2) ((b + 1) / 2) (b / 2) a b (differences l w h) (omega arith) (omega arith) ∙ counts l w h

pub as_many_lem : AsMany
as_many_lem k w h tw th = let e = rw (tw, th) at (counts k w h) in omega arith
