use Rattle.std.proofs.Common.{vec_items}
use Rattle.texts.specs.Words.{words, height_number}
use Rattle.texts.proofs.Readings.{ReadSoFar}
use Rattle.texts.proofs.read.read_row.Given as goal

abbrev pub invariant-loop-word : goal.invariant-loop-word
invariant-loop-word l = ReadSoFar height_number (words l.line) l.word-iterator (vec_items l.numbers)
