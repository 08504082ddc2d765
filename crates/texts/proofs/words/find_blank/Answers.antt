use Rattle.std.proofs.Common.{◌≡◌, length, sym, arith}
use Rattle.texts.specs.Words.{is_blank}
use Rattle.texts.proofs.Pieces.{met, unmet}
use Rattle.texts.proofs.words.find_blank.Goals as goal

pub returns-then-parts_words : goal.returns-then-parts_words
returns-then-parts_words c = met is_blank c.args.text.now c.loop-i.i (omega arith) c.loop-i.invariant (sym c.if-parts_words.ensures)

pub returns : goal.returns
returns c = let e : c.loop-i.i ≡ length c.args.text.now = omega arith in unmet is_blank c.args.text.now (rw e at c.loop-i.invariant)
