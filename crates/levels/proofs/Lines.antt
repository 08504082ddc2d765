-- A line one level up and back: what rows and columns share. Assumes nothing.
use Rattle.std.proofs.Common.{◌≡◌, ℕ, ◌+◌, ◌*◌, ◌/◌, ◌%◌, ◌<◌, ◌≤◌, ℤ, ap, ◌∙◌, ap₂, ⊎_elim, arith}
use Rattle.std.proofs.lemmas.Bool.{lt-ltb, le-ltb, cases_lt, cases_eq}
use Rattle.pairs.specs.Pairs.{Height, Difference, mean_of, one_of}
use Rattle.pairs.proofs.Half.{both_back_lem, mean_height, difference_in, one_first, one_second}
use Rattle.levels.specs.Maps.{line_up, apart, line_down}

-- a whole pair, and a last place alone
pub up_pair : (n : ℕ) (f : ℕ → ℤ) (i : ℕ) → 2 * i + 1 < n → line_up n f i ≡ mean_of (f (2 * i)) (f (2 * i + 1))
unfolding line_up
up_pair n f i h = rw (lt-ltb (2 * i + 1) n h)

pub up_last : (n : ℕ) (f : ℕ → ℤ) (i : ℕ) → n ≤ 2 * i + 1 → line_up n f i ≡ f (2 * i)
unfolding line_up
up_last n f i h = rw (le-ltb (2 * i + 1) n h)

pub down_pair : (n x : ℕ) (m d : ℤ) → 2 * (x / 2) + 1 < n → line_down n x m d ≡ one_of x m d
unfolding line_down
down_pair n x m d h = rw (lt-ltb (2 * (x / 2) + 1) n h)

pub down_last : (n x : ℕ) (m d : ℤ) → n ≤ 2 * (x / 2) + 1 → line_down n x m d ≡ m
unfolding line_down
down_last n x m d h = rw (le-ltb (2 * (x / 2) + 1) n h)

-- what holds of each place of a line, and is kept by means, holds one level up
pub up_each : (P : ℤ → Type 0) (n : ℕ) (f : ℕ → ℤ) (i : ℕ) → ((a b : ℤ) → P a → P b → P (mean_of a b)) → (2 * i < n → P (f (2 * i))) → (2 * i + 1 < n → P (f (2 * i + 1))) → i < (n + 1) / 2 → P (line_up n f i)
up_each P n f i m a b hi = ⊎_elim
    (λ l. rw (up_pair n f i l) (m (f (2 * i)) (f (2 * i + 1)) (a (omega arith)) (b l)))
    (λ l. rw (up_last n f i l) (a (omega arith)))
    (cases_lt (2 * i + 1) n)

-- the same of two lines, of places that stand at one place
pub up_both : (R : ℤ → ℤ → Type 0) (n : ℕ) (f g : ℕ → ℤ) (i : ℕ) → ((a b c d : ℤ) → R a c → R b d → R (mean_of a b) (mean_of c d)) → ((j : ℕ) → j < n → R (f j) (g j)) → i < (n + 1) / 2 → R (line_up n f i) (line_up n g i)
up_both R n f g i m r hi = ⊎_elim
    (λ l. rw (up_pair n f i l, up_pair n g i l) (m _ _ _ _ (r (2 * i) (omega arith)) (r (2 * i + 1) l)))
    (λ l. rw (up_last n f i l, up_last n g i l) (r (2 * i) (omega arith)))
    (cases_lt (2 * i + 1) n)

pub up_same : (n : ℕ) (f g : ℕ → ℤ) (i : ℕ) → ((j : ℕ) → j < n → f j ≡ g j) → i < (n + 1) / 2 → line_up n f i ≡ line_up n g i
up_same n f g i = up_both (λ a b. a ≡ b) n f g i (λ a b c d e e'. ap₂ mean_of e e')

-- heights stay heights, and their differences are differences
pub up_height : (n : ℕ) (f : ℕ → ℤ) (i : ℕ) → ((j : ℕ) → j < n → Height (f j)) → i < (n + 1) / 2 → Height (line_up n f i)
up_height n f i h = up_each Height n f i mean_height (h (2 * i)) (h (2 * i + 1))

pub apart_difference : (f : ℕ → ℤ) (i : ℕ) → Height (f (2 * i)) → Height (f (2 * i + 1)) → Difference (apart f i)
unfolding apart
apart_difference f i = difference_in (f (2 * i)) (f (2 * i + 1))

-- a whole pair comes back, and so does any place of the line
pub pair_back : (f : ℕ → ℤ) (x : ℕ) → one_of x (mean_of (f (2 * (x / 2))) (f (2 * (x / 2) + 1))) (apart f (x / 2)) ≡ f x
unfolding apart
pair_back f x = ⊎_elim
    (λ (e : x % 2 ≡ 0). one_first x _ _ e ∙ (both_back_lem (f (2 * (x / 2))) (f (2 * (x / 2) + 1))).0 ∙ ap f (omega arith))
    (λ (n : x % 2 ≡ 0 → ⊥). one_second x _ _ (omega arith) ∙ (both_back_lem (f (2 * (x / 2))) (f (2 * (x / 2) + 1))).1 ∙ ap f (omega arith))
    (cases_eq (x % 2) 0)

pub line_back : (n : ℕ) (f : ℕ → ℤ) (x : ℕ) → x < n → line_down n x (line_up n f (x / 2)) (apart f (x / 2)) ≡ f x
line_back n f x h = ⊎_elim
    (λ l. rw (up_pair n f (x / 2) l, down_pair n x (mean_of (f (2 * (x / 2))) (f (2 * (x / 2) + 1))) (apart f (x / 2)) l) (pair_back f x))
    (λ l. rw (up_last n f (x / 2) l, down_last n x (f (2 * (x / 2))) (apart f (x / 2)) l) (ap f (omega arith)))
    (cases_lt (2 * (x / 2) + 1) n)
