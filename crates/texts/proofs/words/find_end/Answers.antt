use Rattle.std.proofs.Common.{◌≡◌, length, arith, eq-eqb}
use Rattle.texts.specs.Words.{is_end}
use Rattle.texts.proofs.Pieces.{met, unmet}
use Rattle.texts.proofs.words.find_end.Goals as goal

pub returns-then-byte-eq10 : goal.returns-then-byte-eq10
returns-then-byte-eq10 c = met is_end c.args.text.now c.loop-i.i (omega arith) c.loop-i.invariant (eq-eqb _ 10 c.if-byte-eq10.true)

pub returns : goal.returns
returns c = let e : c.loop-i.i ≡ length c.args.text.now = omega arith in unmet is_end c.args.text.now (rw e at c.loop-i.invariant)
