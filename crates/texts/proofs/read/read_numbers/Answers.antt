use Rattle.std.proofs.Common.{◌≡◌, length, take, Some, sym, ap, ◌∙◌, arith}
use Rattle.std.proofs.lemmas.List.{length-set, length-take-le, take_all, take_more_set}
use Rattle.texts.specs.Words.{number}
use Rattle.texts.proofs.Readings.{so_far_more, so_far_all, so_far_wrong, so_far_less}
use Rattle.texts.proofs.read.read_numbers.Goals as goal

pub returns-in_err-next : goal.returns-in_err-next
returns-in_err-next g c =
    rw c.from_residual.ensures
    (λ ns e long. let all = so_far_all number _ _ _ c.loop-number.invariant.read c.in_err-next.ensures.steps.0 in
    let same : take c.loop-number.number-index c.loop-number.number-items ≡ ns = cc in
    omega (arith, ap length same, length-take-le c.loop-number.number-index c.loop-number.number-items (omega arith), c.loop-number.invariant.long))

pub returns-in_err-number : goal.returns-in_err-number
returns-in_err-number g c =
    rw c.from_residual-in_err-number.ensures
    (λ ns e long. let wrong = so_far_wrong number _ _ _ _ _ c.loop-number.invariant.read c.in_ok-next.ensures.steps c.in_err-number.ensures in
    let none = sym wrong ∙ e in
    grind arith)

pub loop-number-preserved : goal.loop-number-preserved
loop-number-preserved g c = record {
  long = length-set _ _ _ ∙ c.loop-number.invariant.long;
  read = rw (take_more_set c.loop-number.number-items c.loop-number.number-index c.in_ok-number.field-0 (omega (arith, c.loop-number.invariant.long))) (so_far_more number _ _ _ _ _ c.loop-number.invariant.read c.in_ok-next.ensures.steps _ c.in_ok-number.ensures);
}

pub returns-in-Some : goal.returns-in-Some
returns-in-Some g c ns e long =
    let whole = take_all c.loop-number.number-index c.loop-number.number-items (omega (arith, c.loop-number.invariant.long)) in
    omega (arith, ap length whole, so_far_less number _ _ _ _ _ c.loop-number.invariant.read c.in-Some.ensures.steps ns e, c.loop-number.invariant.long)

pub returns-in-None : goal.returns-in-None
returns-in-None g c =
    let whole = take_all c.loop-number.number-index c.loop-number.number-items (omega (arith, c.loop-number.invariant.long)) in
    (so_far_all number _ _ _ c.loop-number.invariant.read c.in-None.ensures.steps.0 ∙ ap Some whole, c.loop-number.invariant.long)
