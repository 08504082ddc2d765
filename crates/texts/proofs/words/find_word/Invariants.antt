use Rattle.std.proofs.Common.{not}
use Rattle.texts.specs.Words.{is_blank}
use Rattle.texts.proofs.Pieces.{Unmet}
use Rattle.texts.proofs.words.find_word.Given as goal

abbrev pub invariant-loop-i : goal.invariant-loop-i
invariant-loop-i l = Unmet (λ b. not (is_blank b)) l.text l.i
