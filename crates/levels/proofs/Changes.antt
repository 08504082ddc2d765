-- One height changed. Assumes nothing.
use Rattle.std.proofs.Common.{◌≡◌, ℕ, zero, suc, ◌+◌, ◌*◌, ◌/◌, ℤ, sym, ap, ⊎_elim, div-one, arith}
use mathlib.Core.Path.{fun_ext}
use Rattle.std.proofs.lemmas.Bool.{cases_eq}
use Rattle.std.proofs.lemmas.Bool.Decides.{nat_tests}
use Rattle.levels.specs.Maps.{Map, power, size, line_up, apart, means, across, halved, down, level, with_height}
use Rattle.levels.specs.Towers.{tower}
use Rattle.levels.specs.Laws.{ChangesFew, EitherOrder, Undone, TowersEitherOrder, TowersUndone}
use Rattle.levels.proofs.Sizes.{div_power}

-- two maps are the same but at one place
abbrev pub SameOff : Map → Map → ℕ → ℕ → Type 0
SameOff p q x y = (u v : ℕ) → (u ≡ x → v ≡ y → ⊥) → p u v ≡ q u v

pub with_off : (p : Map) (x y : ℕ) (g : ℤ) → SameOff (with_height p x y g) p x y
unfolding with_height
with_off p x y g u v n = grind (arith, nat_tests)

pub with_at : (p : Map) (x y : ℕ) (g : ℤ) → with_height p x y g x y ≡ g
unfolding with_height
with_at p x y g = grind (arith, nat_tests)

-- a map that is another but at a place is that one with the place changed
pub off_with : (p q : Map) (x y : ℕ) → SameOff p q x y → p ≡ with_height q x y (p x y)
unfolding with_height
off_with p q x y s = fun_ext (λ u. fun_ext (λ v. ⊎_elim (λ e. ⊎_elim (λ f. grind (arith, nat_tests)) (λ f. let h = s u v (λ a b. f b) in grind (arith, nat_tests)) (cases_eq v y)) (λ e. let h = s u v (λ a b. e a) in grind (arith, nat_tests)) (cases_eq u x)))

-- a pair of which both are the same goes up as the same, with the same difference
up_alike : (n : ℕ) (f g : ℕ → ℤ) (i : ℕ) → f (2 * i) ≡ g (2 * i) → f (2 * i + 1) ≡ g (2 * i + 1) → line_up n f i ≡ line_up n g i
unfolding line_up
up_alike n f g i a b = cc

apart_alike : (f g : ℕ → ℤ) (i : ℕ) → f (2 * i) ≡ g (2 * i) → f (2 * i + 1) ≡ g (2 * i + 1) → apart f i ≡ apart g i
unfolding apart
apart_alike f g i a b = cc

module _ (w h : ℕ) (p q : Map) (x y : ℕ) (same : SameOff p q x y) where
  pub means_off : SameOff (means w p) (means w q) (x / 2) y
  unfolding means
  means_off u v n = up_alike w _ _ u (same (2 * u) v (λ e f. n (omega arith) f)) (same (2 * u + 1) v (λ e f. n (omega arith) f))

  pub across_off : SameOff (across p) (across q) (x / 2) y
  unfolding across
  across_off u v n = apart_alike _ _ u (same (2 * u) v (λ e f. n (omega arith) f)) (same (2 * u + 1) v (λ e f. n (omega arith) f))

  pub halved_off : SameOff (halved w h p) (halved w h q) (x / 2) (y / 2)
  unfolding halved
  halved_off u v n = up_alike h _ _ v (means_off u (2 * v) (λ e f. n e (omega arith))) (means_off u (2 * v + 1) (λ e f. n e (omega arith)))

  pub down_off : SameOff (down w p) (down w q) (x / 2) (y / 2)
  unfolding down
  down_off u v n = apart_alike _ _ v (means_off u (2 * v) (λ e f. n e (omega arith))) (means_off u (2 * v + 1) (λ e f. n e (omega arith)))

pub level_off : (l w h : ℕ) (p : Map) (x y : ℕ) (g : ℤ) → SameOff (level l w h (with_height p x y g)) (level l w h p) (x / power l) (y / power l)
unfolding level power
level_off zero w h p x y g = rw (div-one x, div-one y) (with_off p x y g)
level_off (suc l) w h p x y g =
    rw (div_power x l, div_power y l) (halved_off (size l w) (size l h) (level l w h (with_height p x y g)) (level l w h p) (x / power l) (y / power l) (level_off l w h p x y g))

pub changes_few_lem : ChangesFew
changes_few_lem w h l p x y u v g =
    let a : SameOff (across (level l w h (with_height p x y g))) (across (level l w h p)) (x / power l / 2) (y / power l) = across_off (size l w) (size l h) _ _ _ _ (level_off l w h p x y g) in
    let d : SameOff (down (size l w) (level l w h (with_height p x y g))) (down (size l w) (level l w h p)) (x / power l / 2) (y / power l / 2) = down_off (size l w) (size l h) _ _ _ _ (level_off l w h p x y g) in
    rw (div_power x l, div_power y l) (a u v, d u v)

pub either_order_lem : EitherOrder
unfolding with_height
either_order_lem p x y u v f g n = fun_ext (λ a. fun_ext (λ b. let n' : x ≡ u → y ≡ v → ⊥ = λ e e'. n (e, e') in grind (arith, nat_tests)))

pub undone_lem : Undone
undone_lem p x y g = sym (off_with p (with_height p x y g) x y (λ u v n. sym (with_off p x y g u v n)))

pub towers_either_order_lem : TowersEitherOrder
towers_either_order_lem k w h p x y u v f g n = ap (tower k w h) (either_order_lem p x y u v f g n)

pub towers_undone_lem : TowersUndone
towers_undone_lem k w h p x y g = ap (tower k w h) (undone_lem p x y g)
