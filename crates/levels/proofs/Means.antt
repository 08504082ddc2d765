-- A place and the mean of its square. Assumes nothing.
use Rattle.std.proofs.Common.{◌≡◌, ℕ, zero, suc, ◌+◌, ◌*◌, ◌≤◌, ℤ, pos, ◌+ℤ◌, ◌*ℤ◌, ◌≤ℤ◌, refl, ap, ◌∙◌, ap₂, add-zero, add-suc, mul-le-mul_right, arith}
use mathlib.Core.Path.{fun_ext}
use borrow.Author.Differences.{up, down, ints, sum_is_lem}
use Rattle.pairs.specs.Pairs.{mean_of}
use Rattle.pairs.proofs.Half.{half_is}
use Rattle.levels.specs.Maps.{Map, power, level}
use Rattle.levels.specs.Laws.{line_sum, block_sum, square_sum, NearMean}
use Rattle.levels.proofs.Levels.{level_four}

-- sums of lines
sum_add : (m n : ℕ) (f : ℕ → ℤ) → line_sum (m + n) f ≡ line_sum m f +ℤ line_sum n (λ i. f (m + i))
unfolding line_sum
sum_add m zero f = rw add-zero (omega (arith, ints))
sum_add m (suc n) f = rw add-suc (let e = sum_add m n f in omega (arith, ints))

sum_plus : (n : ℕ) (f g : ℕ → ℤ) → line_sum n (λ i. f i +ℤ g i) ≡ line_sum n f +ℤ line_sum n g
unfolding line_sum
sum_plus zero f g = refl
sum_plus (suc n) f g = let e = sum_plus n f g in omega (arith, ints)

sum_same : (n : ℕ) (f g : ℕ → ℤ) → ((i : ℕ) → f i ≡ g i) → line_sum n f ≡ line_sum n g
sum_same n f g e = ap (line_sum n) (fun_ext e)

-- twice as long a block is two of them
block_two : (n : ℕ) (f : ℕ → ℤ) (i : ℕ) → block_sum (2 * n) f i ≡ block_sum n f (2 * i) +ℤ block_sum n f (2 * i + 1)
unfolding block_sum
block_two n f i =
    let e : 2 * n ≡ n + n = omega arith in
    ap (λ (m : ℕ). line_sum m (λ u. f (i * (2 * n) + u))) e ∙ sum_add n n (λ u. f (i * (2 * n) + u))
    ∙ ap₂ ◌+ℤ◌ (sum_same n _ _ (λ u. ap f (omega arith))) (sum_same n _ _ (λ u. ap f (omega arith)))

block_plus : (n : ℕ) (f g : ℕ → ℤ) (i : ℕ) → block_sum n (λ u. f u +ℤ g u) i ≡ block_sum n f i +ℤ block_sum n g i
unfolding block_sum
block_plus n f g i = sum_plus n (λ u. f (i * n + u)) (λ u. g (i * n + u))

-- a square is its four quarters
quarters : (l : ℕ) (p : Map) (x y : ℕ) → square_sum (suc l) p x y ≡ (square_sum l p (2 * x) (2 * y) +ℤ square_sum l p (2 * x + 1) (2 * y)) +ℤ (square_sum l p (2 * x) (2 * y + 1) +ℤ square_sum l p (2 * x + 1) (2 * y + 1))
unfolding square_sum power
quarters l p x y =
    let n : ℕ = power l in
    let a : ℕ → ℤ = λ v. block_sum n (λ u. p u v) (2 * x) in
    let b : ℕ → ℤ = λ v. block_sum n (λ u. p u v) (2 * x + 1) in
    ap (λ (f : ℕ → ℤ). block_sum (2 * n) f y) (fun_ext (λ v. block_two n (λ u. p u v) x))
    ∙ block_two n (λ v. a v +ℤ b v) y ∙ ap₂ ◌+ℤ◌ (block_plus n a b (2 * y)) (block_plus n a b (2 * y + 1))

-- multiples
times_add : (a b : ℤ) (n : ℕ) → (a +ℤ b) *ℤ pos n ≡ a *ℤ pos n +ℤ b *ℤ pos n
times_add a b n = omega (arith, ints, ap (λ (m : ℕ). m * n) (sum_is_lem a b))

times_le : (a b : ℤ) (n : ℕ) → a ≤ℤ b → (a *ℤ pos n) ≤ℤ (b *ℤ pos n)
times_le a b n h = let e : up a + down b ≤ up b + down a = omega (arith, ints) in omega (arith, ints, mul-le-mul_right n e)

-- four places, and the one that they become
abbrev four : ℤ → ℤ → ℤ → ℤ → ℤ
four a b c d = (a +ℤ b) +ℤ (c +ℤ d)

mean_four : (a b c d m : ℤ) → m ≡ mean_of (mean_of a b) (mean_of c d) → (four m m m m ≤ℤ four a b c d) × (four a b c d ≤ℤ four (m +ℤ pos 1) (m +ℤ pos 1) (m +ℤ pos 1) (m +ℤ pos 1))
mean_four a b c d m e = omega (arith, ints, half_is)

times_four : (m : ℤ) (n : ℕ) → m *ℤ pos (2 * n * (2 * n)) ≡ four m m m m *ℤ pos (n * n)
times_four m n = omega (arith, ints, ap (λ (z : ℕ). z * (n * n)) (sum_is_lem (m +ℤ m) (m +ℤ m)), ap (λ (z : ℕ). z * (n * n)) (sum_is_lem m m))

four_times : (a b c d : ℤ) (n : ℕ) → four a b c d *ℤ pos n ≡ four (a *ℤ pos n) (b *ℤ pos n) (c *ℤ pos n) (d *ℤ pos n)
four_times a b c d n = times_add (a +ℤ b) (c +ℤ d) n ∙ ap₂ ◌+ℤ◌ (times_add a b n) (times_add c d n)

four_le : (a b c d e f g h : ℤ) → a ≤ℤ e → b ≤ℤ f → c ≤ℤ g → d ≤ℤ h → four a b c d ≤ℤ four e f g h
four_le a b c d e f g h i j k l = omega (arith, ints)

more_four : (a b c d m : ℤ) (l : ℕ) → four a b c d ≤ℤ four (m +ℤ pos 1) (m +ℤ pos 1) (m +ℤ pos 1) (m +ℤ pos 1) → four (a +ℤ pos l) (b +ℤ pos l) (c +ℤ pos l) (d +ℤ pos l) ≤ℤ four (m +ℤ pos (suc l)) (m +ℤ pos (suc l)) (m +ℤ pos (suc l)) (m +ℤ pos (suc l))
more_four a b c d m l h = omega (arith, ints)

le_on : (a b c : ℤ) → a ≤ℤ b → b ≤ℤ c → a ≤ℤ c
le_on a b c h k = omega (arith, ints)

-- a mean m of n * n numbers with the sum s is at most so far below
abbrev Near : (n l : ℕ) → (m s : ℤ) → Type 0
Near n l m s = ((m *ℤ pos (n * n)) ≤ℤ s) × (s ≤ℤ ((m +ℤ pos l) *ℤ pos (n * n)))

near_four : (n l : ℕ) (a b c d m s t u v : ℤ) → m ≡ mean_of (mean_of a b) (mean_of c d) → Near n l a s → Near n l b t → Near n l c u → Near n l d v → Near (2 * n) (suc l) m (four s t u v)
near_four n l a b c d m s t u v e ha hb hc hd =
    let k : ℤ = pos l in
    let q : ℤ = m +ℤ pos (suc l) in
    let r = mean_four a b c d m e in
    let up_to_lem = more_four a b c d m l r.1 in (
      rw (times_four m n) (le_on _ _ _ (times_le (four m m m m) (four a b c d) (n * n) r.0) (rw (four_times a b c d (n * n)) (four_le _ _ _ _ _ _ _ _ ha.0 hb.0 hc.0 hd.0))),
      rw (times_four q n) (le_on _ _ _ (four_le _ _ _ _ _ _ _ _ ha.1 hb.1 hc.1 hd.1) (rw (← (four_times (a +ℤ k) (b +ℤ k) (c +ℤ k) (d +ℤ k) (n * n))) (times_le (four (a +ℤ k) (b +ℤ k) (c +ℤ k) (d +ℤ k)) (four q q q q) (n * n) up_to_lem))),
    )

-- a block of one
block_one : (f : ℕ → ℤ) (i : ℕ) → block_sum 1 f i ≡ f i
unfolding block_sum line_sum
block_one f i = let e : i * 1 + 0 ≡ i = omega arith in rw e (omega (arith, ints))

near_one : (z : ℤ) → Near 1 0 z z
near_one z = (omega (arith, ints), omega (arith, ints))

pub near_mean_lem : NearMean
unfolding power level square_sum
near_mean_lem zero w h p x y hx hy = rw (block_one (λ v. block_sum 1 (λ u. p u v) x) y ∙ block_one (λ u. p u y) x) (near_one (p x y))
near_mean_lem (suc l) w h p x y hx hy =
    rw (quarters l p x y) (near_four (power l) l _ _ _ _ _ _ _ _ _ (level_four l w h p x y hx hy)
    (near_mean_lem l w h p (2 * x) (2 * y) (omega arith) (omega arith)) (near_mean_lem l w h p (2 * x + 1) (2 * y) (omega arith) (omega arith))
    (near_mean_lem l w h p (2 * x) (2 * y + 1) (omega arith) (omega arith)) (near_mean_lem l w h p (2 * x + 1) (2 * y + 1) (omega arith) (omega arith)))
