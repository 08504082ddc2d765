use Rattle.std.proofs.Common.{◌≡◌, length, take}
use Rattle.texts.specs.Words.{number}
use Rattle.texts.proofs.Readings.{ReadSoFar}
use Rattle.texts.proofs.read.read_numbers.Given as goal

abbrev pub invariant-loop-number : goal.invariant-loop-number
invariant-loop-number g l = record {
  long : length l.number-items ≡ g.row.N;
  read : ReadSoFar number l.initial.words l.words (take l.number-index l.number-items);
}
