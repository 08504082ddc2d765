use Rattle.std.proofs.Common.{◌+◌, ◌<◌, ◌∷◌, length, take, sym, ◌∙◌, ap, arith, true-eqb, false-eqb, length-drop}
use Rattle.std.proofs.lemmas.List.{nil_from_length, take_rest}
use Rattle.texts.specs.Words.{lines}
use Rattle.texts.proofs.Pieces.{lines_none, lines_lost, lines_found}
use Rattle.texts.proofs.words.next_line.Goals as goal

pub returns-then-is_empty : goal.returns-then-is_empty
returns-then-is_empty c = ap lines (nil_from_length _ (true-eqb _ 0 c.if-is_empty.ensures)) ∙ lines_none

pub returns-in-Some : goal.returns-in-Some
returns-in-Some c =
    let text = c.args.text.now in
    let end = c.in-Some.end in
    let some : 0 < length text = omega (arith, false-eqb _ 0 c.if-is_empty.ensures) in
    let rest = take_rest text (end + 1) in
    (lines_found text end c.in-Some.ensures ∙ ap (λ left. take end text ∷ lines left) (sym rest), omega (arith, ap length rest, length-drop (end + 1) text))

pub returns-in-None : goal.returns-in-None
returns-in-None c =
    let text = c.args.text.now in
    let some : 0 < length text = omega (arith, false-eqb _ 0 c.if-is_empty.ensures) in
    let rest = ap length (take_rest text (length text)) in
    let none = nil_from_length _ (omega (arith, rest, length-drop (length text) text)) in
    (lines_lost text some c.in-None.ensures ∙ ap (λ ls. text ∷ ls) (sym (ap lines none ∙ lines_none)), omega (arith, rest, length-drop (length text) text))
