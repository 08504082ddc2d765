use Rattle.texts.specs.Words.{is_blank}
use Rattle.texts.proofs.Pieces.{Unmet}
use Rattle.texts.proofs.words.find_blank.Given as goal

abbrev pub invariant-loop-i : goal.invariant-loop-i
invariant-loop-i l = Unmet is_blank l.text l.i
