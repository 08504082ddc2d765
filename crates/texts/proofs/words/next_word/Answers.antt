use Rattle.std.proofs.Common.{◌-◌, ℕ, List, ◌∷◌, length, take, drop, not, sym, refl, ap, ◌∙◌, arith, length-drop}
use Rattle.std.proofs.lemmas.List.{take_rest, length-take-le}
use Rattle.std.proofs.lemmas.List.Sums.{prefix_len-le-length}
use Rattle.texts.specs.Words.{is_blank, words}
use Rattle.texts.proofs.Pieces.{words_lost, words_found, word_there, or_length}
use Rattle.texts.proofs.words.next_word.Goals as goal

pub returns-in_err-begin : goal.returns-in_err-begin
returns-in_err-begin c = rw c.from_residual.ensures (words_lost _ c.in_err-begin.ensures)

pub returns : goal.returns
returns c =
    let line = c.args.line.now in
    let begin = c.in_ok-begin.begin in
    let text : List ℕ = take (length line - begin) (drop begin line) in
    let end = or_length is_blank text _ _ c.find_blank.ensures c.unwrap_or-end.ensures in
    let there = word_there line begin text c.in_ok-begin.ensures refl in
    let rest = take_rest text c.unwrap_or-end.result in (
      words_found line begin text c.in_ok-begin.ensures refl _ end ∙ ap (λ left. take c.unwrap_or-end.result text ∷ words left) (sym rest),
      omega (arith, there, end, prefix_len-le-length (λ b. not (is_blank b)) text, ap length rest, length-drop c.unwrap_or-end.result text, length-take-le (length line - begin) (drop begin line) (omega (arith, length-drop begin line)), length-drop begin line),
    )
