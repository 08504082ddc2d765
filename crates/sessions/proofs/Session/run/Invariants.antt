use Rattle.std.proofs.Common.{string_bytes}
use Rattle.texts.specs.Words.{lines}
use Rattle.sessions.proofs.Lines.{Sofar}
use Rattle.sessions.proofs.Session.run.Given as goal

abbrev pub invariant-loop-line : goal.invariant-loop-line
invariant-loop-line l = Sofar l.initial.self (string_bytes l.initial.out) (lines l.text) l.self (string_bytes l.out) l.line-iterator
