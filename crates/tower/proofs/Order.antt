-- The refusals, check by check. Assumes nothing.
use Rattle.std.proofs.Common.{◌≡◌, ℕ, ◌+◌, ◌-◌, ◌*◌, ◌<◌, ◌≤◌, min, Bool, true, false, ◌&&◌, ltb, List, ℤ, Some, None, sym, refl, mul-le-mul, arith}
use Rattle.std.proofs.lemmas.Bool.{lt-ltb, le-ltb, eq-eqb, ne_eqb, true≢false}
use Rattle.std.proofs.lemmas.Bool.Decides.{nat_tests}
use Rattle.levels.specs.Maps.{power}
use Rattle.refusals.specs.declared.Refusal.TheVariants.{TooManyLevels, WrongNumber, WrongRoom, NoSuchLevel, OffTheMap, TooHigh}
use Rattle.tower.specs.Checks.{places, first_wrong, is_on_side, build_refusal, window_refusal, change_refusal}

module _ (k : ℕ) (hs : List ℤ) (n : ℕ) where
  pub build_levels : 7 < k → build_refusal k hs n ≡ Some (TooManyLevels k)
  unfolding build_refusal
  build_levels h = rw (lt-ltb 7 k h)

  module _ (hk : k ≤ 7) (s : ℕ) (es : s ≡ power k) where
    pub build_number : (at : ℕ) → first_wrong (s * s) 0 hs ≡ Some at → build_refusal k hs n ≡ Some (WrongNumber at)
    unfolding build_refusal places
    build_number at e = rw (le-ltb 7 k hk, rw es at e)

    pub build_room : first_wrong (s * s) 0 hs ≡ None → (n ≡ s * s → ⊥) → build_refusal k hs n ≡ Some (WrongRoom n)
    unfolding build_refusal places
    build_room e ne = rw (le-ltb 7 k hk, rw es at e, ne_eqb n (power k * power k) (rw es at ne))

    pub build_taken : first_wrong (s * s) 0 hs ≡ None → n ≡ s * s → build_refusal k hs n ≡ None
    unfolding build_refusal places
    build_taken e q = rw (le-ltb 7 k hk, rw es at e, eq-eqb n (power k * power k) (rw es at q))

module _ (k n x y g : ℕ) where
  pub change_levels : 7 < k → change_refusal k n x y g ≡ Some (TooManyLevels k)
  unfolding change_refusal
  change_levels h = rw (lt-ltb 7 k h)

  module _ (hk : k ≤ 7) (s : ℕ) (es : s ≡ power k) where
    pub change_number : (n ≡ s * s → ⊥) → change_refusal k n x y g ≡ Some (WrongNumber (min n (s * s)))
    unfolding change_refusal places
    change_number ne = rw (le-ltb 7 k hk, es, ne_eqb n (power k * power k) (rw es at ne))

    module _ (q : n ≡ s * s) where
      pub change_off : (x < s → y < s → ⊥) → change_refusal k n x y g ≡ Some OffTheMap
      unfolding change_refusal places
      change_off ne = let e : (ltb x (power k) && ltb y (power k)) ≡ false = grind (arith, nat_tests) in rw (le-ltb 7 k hk, eq-eqb n (power k * power k) (rw es at q), e)

      module _ (hx : x < s) (hy : y < s) where
        pub change_high : 65535 < g → change_refusal k n x y g ≡ Some TooHigh
        unfolding change_refusal places
        change_high h = rw (le-ltb 7 k hk, eq-eqb n (power k * power k) (rw es at q), lt-ltb x (power k) (rw es at hx), lt-ltb y (power k) (rw es at hy), lt-ltb 65535 g h)

        pub change_taken : g ≤ 65535 → change_refusal k n x y g ≡ None
        unfolding change_refusal places
        change_taken h = rw (le-ltb 7 k hk, eq-eqb n (power k * power k) (rw es at q), lt-ltb x (power k) (rw es at hx), lt-ltb y (power k) (rw es at hy), le-ltb 65535 g h)

-- a stretch lies within a side
pub on_true : (s x n : ℕ) → is_on_side s x n ≡ true → (x < s) × (x + n ≤ s)
unfolding is_on_side
on_true s x n e = grind (arith, nat_tests)

both : (a b : Bool) → true ≡ (a && b) → (a ≡ true) × (b ≡ true)
both true b e = (refl, sym e)
both false b e = absurd (true≢false e)

pub both_on : (s x w y h : ℕ) → true ≡ (is_on_side s x w && is_on_side s y h) → (is_on_side s x w ≡ true) × (is_on_side s y h ≡ true)
both_on s x w y h e = both (is_on_side s x w) (is_on_side s y h) e

-- a window within sides of at most 128 has few places
pub few_places : (s x w y h : ℕ) → s ≤ 128 → x + w ≤ s → y + h ≤ s → w * h ≤ 16384
few_places s x w y h hs hx hy = let a : w ≤ 128 = omega arith in let b : h ≤ 128 = omega arith in mul-le-mul a b

module _ (k n l x y w h m : ℕ) where
  pub window_levels : 7 < k → window_refusal k n l x y w h m ≡ Some (TooManyLevels k)
  unfolding window_refusal
  window_levels q = rw (lt-ltb 7 k q)

  module _ (hk : k ≤ 7) (t : ℕ) (et : t ≡ power k) where
    pub window_number : (n ≡ t * t → ⊥) → window_refusal k n l x y w h m ≡ Some (WrongNumber (min n (t * t)))
    unfolding window_refusal places
    window_number ne = rw (le-ltb 7 k hk, et, ne_eqb n (power k * power k) (rw et at ne))

    module _ (q : n ≡ t * t) where
      pub window_level : k < l → window_refusal k n l x y w h m ≡ Some NoSuchLevel
      unfolding window_refusal places
      window_level kl = rw (le-ltb 7 k hk, eq-eqb n (power k * power k) (rw et at q), lt-ltb k l kl)

      module _ (lk : l ≤ k) (s : ℕ) (es : s ≡ power (k - l)) where
        pub window_off : (is_on_side s x w && is_on_side s y h) ≡ false → window_refusal k n l x y w h m ≡ Some OffTheMap
        unfolding window_refusal places
        window_off e = rw (le-ltb 7 k hk, eq-eqb n (power k * power k) (rw et at q), le-ltb k l lk, rw es at e)

        module _ (ex : is_on_side s x w ≡ true) (ey : is_on_side s y h ≡ true) where
          pub window_room : (m ≡ w * h → ⊥) → window_refusal k n l x y w h m ≡ Some (WrongRoom m)
          unfolding window_refusal places
          window_room ne = rw (le-ltb 7 k hk, eq-eqb n (power k * power k) (rw et at q), le-ltb k l lk, rw es at ex, rw es at ey, ne_eqb m (w * h) ne)

          pub window_taken : m ≡ w * h → window_refusal k n l x y w h m ≡ None
          unfolding window_refusal places
          window_taken r = rw (le-ltb 7 k hk, eq-eqb n (power k * power k) (rw et at q), le-ltb k l lk, rw es at ex, rw es at ey, eq-eqb m (w * h) r)
