use Rattle.std.proofs.Common.{sym, ◌∙◌, arith, ltb-true}
use Rattle.std.proofs.lemmas.List.{get_or_past}
use Rattle.texts.proofs.Numbers.{height_plain, height_minus_read}
use Rattle.texts.proofs.words.read_height.Goals as goal
use Rattle.texts.proofs.words.read_height.Goals.{in_default-via-then-word-lt1, in_default-via-else-word-lt1+in_default-1}

pub returns-in_err-number-in-45 : goal.returns-in_err-number-in-45
returns-in_err-number-in-45 c = c.from_residual.ensures ∙ sym (height_minus_read c.args.word.now _ (omega arith) c.in_err-number-in-45.ensures)

pub returns-in_ok-number-in-45 : goal.returns-in_ok-number-in-45
returns-in_ok-number-in-45 c = sym (height_minus_read c.args.word.now _ (omega arith) c.in_ok-number-in-45.ensures)

pub returns-in_default : goal.returns-in_default
returns-in_default c =
    c.read_unsigned-in_default.ensures ∙
    sym (height_plain _ (λ minus. elim c.in_default.branch [ in_default-via-then-word-lt1 w ↦ omega (arith, minus, get_or_past c.args.word.now 0 0 (omega (arith, ltb-true))) | in_default-via-else-word-lt1+in_default-1 w ↦ omega (arith, minus) ]))
