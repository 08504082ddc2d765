use Rattle.std.proofs.Common.{sym, w64, SFits, rules}
use Rattle.std.proofs.lemmas.Int.{to_z-of_z}
use Rattle.texts.specs.Commands.{row}
use Rattle.texts.specs.Words.{height_number}
use Rattle.texts.proofs.Readings.{so_far_more, so_far_all, so_far_wrong}
use Rattle.texts.proofs.read.read_row.Goals as goal

pub returns-in_default : goal.returns-in_default
unfolding row
returns-in_default c =
    sym (so_far_wrong height_number _ _ _ _ _ c.loop-word.invariant c.in-Some.ensures.steps c.in_default.ensures)

pub loop-word-preserved : goal.loop-word-preserved
loop-word-preserved c =
    let fits : SFits w64 c.in-Some-read_height.number = search rules in
    rw (c.in_ok-push.ensures.items, to_z-of_z w64 c.in-Some-read_height.number)
    (so_far_more height_number _ _ _ _ _ c.loop-word.invariant c.in-Some.ensures.steps _ c.in-Some-read_height.ensures)

pub returns : goal.returns
unfolding row
returns c = sym (so_far_all height_number _ _ _ c.loop-word.invariant c.in-None.ensures.steps.0)
