use Rattle.std.proofs.Common.{get_or, pos, w32, SFits, rules}
use Rattle.std.proofs.lemmas.Int.{to_z-of_z}
use Rattle.places.proofs.Rising.{last_rises, one_rises}
use Rattle.places.proofs.line_rise.Goals as goal

pub returns-then-x-places : goal.returns-then-x-places
returns-then-x-places c f hf d = last_rises _ f _ c.requires.place.0 c.if-x-places.true

pub returns : goal.returns
returns c f hf d =
    let fd : SFits w32 (get_or c.args.tower.now c.args.index (pos 0)) = search rules in
    let fr : SFits w32 c.one.result = search rules in
    rw (to_z-of_z w32 _ fr) (one_rises _ f _ c.requires.place.0 _ _ c.if-x-places.false hf (d c.if-x-places.false) (simp to_z-of_z at c.one.ensures.exact))
