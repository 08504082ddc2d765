use Rattle.texts.specs.Words.{is_end}
use Rattle.texts.proofs.Pieces.{Unmet}
use Rattle.texts.proofs.words.find_end.Given as goal

abbrev pub invariant-loop-i : goal.invariant-loop-i
invariant-loop-i l = Unmet is_end l.text l.i
