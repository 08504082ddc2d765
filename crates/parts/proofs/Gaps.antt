-- The first place that is missing or too many, part by part. Assumes nothing.
use Rattle.std.proofs.Common.{◌≡◌, ℕ, zero, suc, ◌+◌, ◌-◌, ◌*◌, ◌<◌, ◌≤◌, min, List, [], length, get_or, drop, ℤ, Some, None, refl, ap, arith, Bor}
use Rattle.std.proofs.lemmas.List.{drop_more, drop_all}
use Rattle.std.proofs.lemmas.Bool.{lt-leb, le-leb, eq-eqb, ne_eqb}
use Rattle.levels.specs.Maps.{power}
use Rattle.tower.specs.Checks.{places}
use Rattle.parts.specs.Parts.{begins, part_size, parts_wrong, contents}
use Rattle.parts.proofs.Counts.{places_less, places_four}

-- what is read where there is no part
abbrev pub no_part : Bor (List ℤ)
no_part = record { ref_ptr = (0, 0); now = [] }

pub places_upto : (j n : ℕ) → j ≤ n → places j ≤ places n
places_upto j n h = let e : n - (n - j) ≡ j = omega arith in rw e at (places_less n (n - j) (omega arith))

pub begins_before : (j : ℕ) → begins j ≤ places j
unfolding begins
begins_before zero = omega arith
begins_before (suc j) = let p = places_four j in omega arith

pub begins_next : (j : ℕ) → begins (j + 1) ≡ places j
unfolding begins
begins_next j = let next : j + 1 ≡ suc j = omega arith in rw next refl

pub places_next : (j : ℕ) → places (j + 1) ≡ 4 * places j
places_next j = let next : j + 1 ≡ suc j = omega arith in rw next (places_four j)

-- no part of the seven levels begins or ends behind the finest tower
pub places_small : (j : ℕ) → j ≤ 7 → places j ≤ 16384
unfolding places power
places_small j h = places_upto j 7 h

pub places_one : places 0 ≡ 1
unfolding places power
places_one = refl

module _ (k j : ℕ) (ps : List (Bor (List ℤ))) where
  module _ (d : Bor (List ℤ)) (hj : j < length ps) where
    pub gap_many : j ≡ suc k → parts_wrong k j (contents (drop j ps)) ≡ Some (begins j)
    unfolding parts_wrong contents begins
    gap_many e = rw (drop_more ps j d hj, e, lt-leb (suc k) k (omega arith)) refl

    module _ (hk : j ≤ k) where
      pub gap_here : (length (get_or ps j d).now ≡ part_size j → ⊥) → parts_wrong k j (contents (drop j ps)) ≡ Some (begins j + min (length (get_or ps j d).now) (part_size j))
      unfolding parts_wrong contents
      gap_here ne = rw (drop_more ps j d hj, le-leb j k hk, ne_eqb (length (get_or ps j d).now) (part_size j) ne) refl

      pub gap_step : length (get_or ps j d).now ≡ part_size j → parts_wrong k j (contents (drop j ps)) ≡ parts_wrong k (j + 1) (contents (drop (j + 1) ps))
      unfolding parts_wrong contents
      gap_step e = let next : suc j ≡ j + 1 = omega arith in rw (drop_more ps j d hj, le-leb j k hk, eq-eqb (length (get_or ps j d).now) (part_size j) e) (ap (λ i. parts_wrong k i (contents (drop (j + 1) ps))) next)

  pub gap_missing : length ps ≤ j → j ≤ k → parts_wrong k j (contents (drop j ps)) ≡ Some (begins j)
  unfolding parts_wrong contents
  gap_missing hj hk = rw (drop_all j ps hj, le-leb j k hk) refl

  pub gap_none : length ps ≤ j → k < j → parts_wrong k j (contents (drop j ps)) ≡ None
  unfolding parts_wrong contents
  gap_none hj hk = rw (drop_all j ps hj, lt-leb j k hk) refl
