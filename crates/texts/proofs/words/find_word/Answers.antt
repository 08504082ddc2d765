use Rattle.std.proofs.Common.{◌≡◌, length, sym, ap, arith, not}
use Rattle.texts.specs.Words.{is_blank}
use Rattle.texts.proofs.Pieces.{met, unmet}
use Rattle.texts.proofs.words.find_word.Goals as goal

pub returns-then-not-parts_words : goal.returns-then-not-parts_words
returns-then-not-parts_words c = met (λ b. not (is_blank b)) c.args.text.now c.loop-i.i (omega arith) c.loop-i.invariant (ap not (sym c.if-not-parts_words.ensures))

pub returns : goal.returns
returns c = let e : c.loop-i.i ≡ length c.args.text.now = omega arith in unmet (λ b. not (is_blank b)) c.args.text.now (rw e at c.loop-i.invariant)
