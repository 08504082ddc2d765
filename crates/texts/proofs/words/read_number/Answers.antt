use Rattle.std.proofs.Common.{Some, sym, ap, ◌∙◌, arith, true-eqb, false-eqb}
use Rattle.std.specs.Str.Parse.{digits_value}
use Rattle.std.proofs.lemmas.Int.Digits.{digits_more}
use Rattle.std.proofs.lemmas.List.{take_all}
use Rattle.texts.proofs.Numbers.{value_next, number_some, number_empty, number_other, number_big}
use Rattle.texts.proofs.words.read_number.Goals as goal

pub returns-then-is_empty : goal.returns-then-is_empty
returns-then-is_empty c = sym (number_empty _ (true-eqb _ 0 c.if-is_empty.ensures))

pub returns-then-not-is_ascii_digit : goal.returns-then-not-is_ascii_digit
returns-then-not-is_ascii_digit c = sym (number_other _ _ c.loop-byte-test.true c.if-not-is_ascii_digit.ensures.cases)

pub returns-in_err-checked_mul : goal.returns-in_err-checked_mul
returns-in_err-checked_mul c =
    let big = c.in_err-checked_mul.ensures in
    rw c.from_residual.ensures (sym (number_big _ _ c.loop-byte-test.true c.if-not-is_ascii_digit.ensures.cases (omega (arith, c.loop-byte.invariant.1))))

pub returns-in_err-number : goal.returns-in_err-number
returns-in_err-number c =
    let big = c.in_err-number.ensures in
    let so_far = c.in_ok-checked_mul.ensures in
    rw c.from_residual-in_err-number.ensures (sym (number_big _ _ c.loop-byte-test.true c.if-not-is_ascii_digit.ensures.cases (omega (arith, c.loop-byte.invariant.1))))

pub loop-byte-preserved : goal.loop-byte-preserved
loop-byte-preserved c =
    let d = c.if-not-is_ascii_digit.ensures in
    let so_far = c.in_ok-checked_mul.ensures in
    let all = c.in_ok-number.ensures in
    (digits_more 10 _ _ c.loop-byte-test.true c.loop-byte.invariant.0 d.bound, omega (arith, c.loop-byte.invariant.1, value_next _ _ c.loop-byte-test.true d.cases), omega arith)

pub returns : goal.returns
returns c =
    let whole = take_all _ c.args.word.now c.loop-byte-test.false in
    let v = c.loop-byte.invariant.1 ∙ ap (digits_value 10) whole in
    ap Some v ∙ sym (number_some _ (omega (arith, false-eqb _ 0 c.if-is_empty.ensures)) (rw whole at c.loop-byte.invariant.0) (omega (arith, v, c.loop-byte.invariant.2)))
