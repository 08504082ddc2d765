use Rattle.std.proofs.Common.{◌/◌, ◌+ℤ◌, sym, ap, ◌∙◌, arith, w32, SFits, rules}
use Rattle.std.proofs.lemmas.Int.{wrapping_add_is}
use Rattle.levels.specs.Maps.{means, halved}
use Rattle.levels.proofs.Held.{halved_height}
use Rattle.places.proofs.Levels.{row_heights, column_heights, row_difference, column_difference}
use Rattle.places.proofs.Rising.{level_rises}
use Rattle.places.proofs.rise.Goals as goal

pub returns : goal.returns
unfolding halved means
returns c k p o =
    let w = c.args.place.size.wide in
    let h = c.args.place.size.high in
    let x = c.args.place.x in
    let y = c.args.place.y in
    let ts = c.args.tower.now in
    let hx = c.args.place.across in
    let hy = c.args.place.down in
    let fa : SFits w32 c.line_rise-across.result = search rules in
    let fd : SFits w32 c.line_rise-down.result = search rules in
    level_rises (p x y) (means w p (x / 2) y) (halved w h p (x / 2) (y / 2)) _ _ (o.heights x y hx hy) (halved_height w h p o.heights (x / 2) (y / 2) (omega arith) (omega arith))
    (c.line_rise-across.ensures (λ u. p u y) (row_heights k w h ts p x y hx hy o) (row_difference k w h ts p x y hx hy o _ c.across_at.ensures.value))
    (c.line_rise-down.ensures (means w p (x / 2)) (column_heights k w h ts p x y hx hy o) (column_difference k w h ts p x y hx hy o _ c.down_at.ensures.value))
    ∙ ap (λ z. halved w h p (x / 2) (y / 2) +ℤ z) (sym (wrapping_add_is w32 _ _ fa fd))
