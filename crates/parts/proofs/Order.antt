-- The refusals, check by check. Assumes nothing.
use Rattle.std.proofs.Common.{◌≡◌, ℕ, ◌+◌, ◌-◌, ◌<◌, ◌≤◌, min, List, ℤ, Some, None, refl, ⊎_elim, arith}
use Rattle.std.proofs.lemmas.Bool.{lt-ltb, le-ltb, le-leb, lt-leb, eq-eqb, ne_eqb, cases_lt}
use Rattle.refusals.specs.declared.Refusal.TheVariants.{TooManyLevels, WrongNumber, WrongRoom, NoSuchLevel}
use Rattle.tower.specs.Checks.{places}
use Rattle.parts.specs.Parts.{coarse_refusal, detail_refusal, join_refusal, parts_wrong, assemble_refusal}

module _ (k n l : ℕ) where
  pub coarse_levels : 7 < k → coarse_refusal k n l ≡ Some (TooManyLevels k)
  unfolding coarse_refusal
  coarse_levels h = rw (lt-ltb 7 k h)

  module _ (hk : k ≤ 7) (m : ℕ) (e : m ≡ places k) where
    pub coarse_number : (n ≡ m → ⊥) → coarse_refusal k n l ≡ Some (WrongNumber (min n m))
    unfolding coarse_refusal
    coarse_number ne = rw (le-ltb 7 k hk, e, ne_eqb n (places k) (rw e at ne))

    module _ (q : n ≡ m) where
      pub coarse_level : k < l → coarse_refusal k n l ≡ Some NoSuchLevel
      unfolding coarse_refusal
      coarse_level h = rw (le-ltb 7 k hk, eq-eqb n (places k) (rw e at q), lt-ltb k l h)

      pub coarse_taken : l ≤ k → coarse_refusal k n l ≡ None
      unfolding coarse_refusal
      coarse_taken h = rw (le-ltb 7 k hk, eq-eqb n (places k) (rw e at q), le-ltb k l h)

-- a detail is there where the coarse part for the next level is
pub detail_is_coarse : (k n l m : ℕ) → (k ≤ 7 → k < m → k ≤ l) → (k ≤ 7 → k ≤ l → k < m) → detail_refusal k n l ≡ coarse_refusal k n m
unfolding detail_refusal coarse_refusal
detail_is_coarse k n l m f g = ⊎_elim
    (λ (b : k < 8). ⊎_elim
    (λ (c : k < m). rw (lt-ltb k m c, le-leb k l (f (omega arith) c)) refl)
    (λ (c : m ≤ k). let d : l < k = ⊎_elim (λ (e : l < k). e) (λ (e : k ≤ l). absurd (let z = g (omega arith) e in omega arith)) (cases_lt l k) in rw (le-ltb k m c, lt-leb k l d) refl)
    (cases_lt k m))
    (λ (b : 8 ≤ k). let c : 7 < k = omega arith in rw (lt-ltb 7 k c) refl)
    (cases_lt k 8)

module _ (k c d n : ℕ) where
  pub join_levels : 7 < k → join_refusal k c d n ≡ Some (TooManyLevels k)
  unfolding join_refusal
  join_levels h = rw (lt-ltb 7 k h)

  module _ (hk : k ≤ 7) where
    pub join_level : k ≡ 0 → join_refusal k c d n ≡ Some NoSuchLevel
    unfolding join_refusal
    join_level h = rw (le-ltb 7 k hk, eq-eqb k 0 h)

    module _ (some : k ≡ 0 → ⊥) (m s : ℕ) (em : m ≡ places k) (es : s ≡ places (k - 1)) where
      pub join_coarse : (c ≡ s → ⊥) → join_refusal k c d n ≡ Some (WrongNumber (min c s))
      unfolding join_refusal
      join_coarse ne = rw (le-ltb 7 k hk, ne_eqb k 0 some, es, ne_eqb c (places (k - 1)) (rw es at ne))

      module _ (qc : c ≡ s) where
        pub join_detail : (d ≡ m - s → ⊥) → join_refusal k c d n ≡ Some (WrongNumber (s + min d (m - s)))
        unfolding join_refusal
        join_detail ne = rw (le-ltb 7 k hk, ne_eqb k 0 some, em, es, eq-eqb c (places (k - 1)) (rw es at qc), ne_eqb d (places k - places (k - 1)) (rw (em, es) at ne))

        module _ (qd : d ≡ m - s) where
          pub join_room : (n ≡ m → ⊥) → join_refusal k c d n ≡ Some (WrongRoom n)
          unfolding join_refusal
          join_room ne = rw (le-ltb 7 k hk, ne_eqb k 0 some, eq-eqb c (places (k - 1)) (rw es at qc), eq-eqb d (places k - places (k - 1)) (rw (em, es) at qd), ne_eqb n (places k) (rw em at ne))

          pub join_taken : n ≡ m → join_refusal k c d n ≡ None
          unfolding join_refusal
          join_taken q = rw (le-ltb 7 k hk, ne_eqb k 0 some, eq-eqb c (places (k - 1)) (rw es at qc), eq-eqb d (places k - places (k - 1)) (rw (em, es) at qd), eq-eqb n (places k) (rw em at q))

module _ (k n : ℕ) (cs : List (List ℤ)) where
  pub assemble_levels : 7 < k → assemble_refusal k cs n ≡ Some (TooManyLevels k)
  unfolding assemble_refusal
  assemble_levels h = rw (lt-ltb 7 k h)

  module _ (hk : k ≤ 7) where
    pub assemble_gap : (at : ℕ) → parts_wrong k 0 cs ≡ Some at → assemble_refusal k cs n ≡ Some (WrongNumber at)
    unfolding assemble_refusal
    assemble_gap at e = rw (le-ltb 7 k hk, e)

    module _ (right : parts_wrong k 0 cs ≡ None) (m : ℕ) (e : m ≡ places k) where
      pub assemble_room : (n ≡ m → ⊥) → assemble_refusal k cs n ≡ Some (WrongRoom n)
      unfolding assemble_refusal
      assemble_room ne = rw (le-ltb 7 k hk, right, ne_eqb n (places k) (rw e at ne))

      pub assemble_taken : n ≡ m → assemble_refusal k cs n ≡ None
      unfolding assemble_refusal
      assemble_taken q = rw (le-ltb 7 k hk, right, eq-eqb n (places k) (rw e at q))
