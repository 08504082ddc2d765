-- What is asked of a detail, from what is asked of the coarse part for the next level. Assumes nothing.
use Rattle.std.proofs.Common.{◌≡◌, ℕ, suc, ◌+◌, ◌-◌, ◌*◌, ◌<◌, min, Some, None, Ok, Err, Result, sym, ap, ◌∙◌, arith}
use Rattle.std.specs.Result.{MatchResult}
use Rattle.refusals.specs.declared.Refusal.{Refusal}
use Rattle.tower.specs.Checks.{places}
use Rattle.parts.specs.Known.{CanHand, CanDetail}
use Rattle.parts.specs.Parts.{coarse_refusal, detail_refusal}
use Rattle.parts.proofs.Counts.{places_less, places_four}
use Rattle.parts.proofs.Order.{detail_is_coarse}

module _ (k n l m : ℕ) (em : m ≡ min (l + 1) 18446744073709551615) (hl : l < 18446744073709551616) where
  same : detail_refusal k n l ≡ coarse_refusal k n m
  same = detail_is_coarse k n l m (λ a b. omega arith) (λ a b. omega arith)

  pub can_detail : (p : ℕ) → CanHand k n m p → CanDetail k n l p
  can_detail p o =
      let a = o.levels in
      let b = o.level in
      let next : m ≡ suc l = omega arith in
      let value : p ≡ places (k - suc l) = o.value ∙ ap (λ (i : ℕ). places (k - i)) next in
      let more : k - l ≡ suc (k - suc l) = omega arith in
      let four : 4 * p ≡ places (k - l) = ap (λ (i : ℕ). 4 * i) value ∙ sym (ap places more ∙ places_four (k - suc l)) in
      let less = places_less k l (omega arith) in
      let whole = o.whole in
      record { level = omega arith; value = value; four = four; within = omega arith }

  pub detail_told : (r : Result ℕ Refusal) → MatchResult r (λ p. (coarse_refusal k n m ≡ None) × CanHand k n m p) (λ e. coarse_refusal k n m ≡ Some e) → MatchResult r (λ p. (detail_refusal k n l ≡ None) × CanDetail k n l p) (λ e. detail_refusal k n l ≡ Some e)
  detail_told (Ok p) o = (same ∙ o.0, can_detail p o.1)
  detail_told (Err e) o = same ∙ o
