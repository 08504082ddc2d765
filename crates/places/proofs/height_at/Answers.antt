use Rattle.std.proofs.Common.{suc, ◌+◌, ◌/◌, ◌<◌, ◌≤◌, get_or, ℤ, pos, ◌+ℤ◌, sym, ap, ◌∙◌, mul-le-mul, arith, w32, SFits, rules}
use Rattle.std.specs.Int.{int_wrap}
use Rattle.std.proofs.lemmas.Int.{wrapping_add_onto}
use Rattle.std.proofs.lemmas.Bool.{eqb-true, eqb-false}
use Rattle.levels.specs.Maps.{halved}
use Rattle.levels.specs.Numbering.{Holds}
use Rattle.levels.proofs.Held.{above, next_level, top_shown}
use Rattle.places.proofs.Rising.{sum_rises, sum_shown}
use Rattle.places.proofs.height_at.Goals as goal

pub loop-place-preserved : goal.loop-place-preserved
loop-place-preserved c =
    let w = c.loop-place.place.size.wide in
    let h = c.loop-place.place.size.high in
    let x = c.loop-place.place.x in
    let y = c.loop-place.place.y in
    let ts = c.args.tower.now in
    let n = eqb-false _ _ (sym c.loop-place-test.ensures) in
    let more : 2 < c.loop-place.place.size.wide + c.loop-place.place.size.high = omega arith in
    let ew : (c.loop-place.place.size.wide + 1) / 2 ≤ c.loop-place.place.size.wide = omega arith in
    let eh : (c.loop-place.place.size.high + 1) / 2 ≤ c.loop-place.place.size.high = omega arith in
    let fr : SFits w32 c.rise-above.result = search rules in
    let sum = wrapping_add_onto w32 _ c.rise-above.result c.loop-place.auto.above.fits fr in
    rw (c.up-place.ensures.size.0, c.up-place.ensures.size.1, c.up-place.ensures.place.0, c.up-place.ensures.place.1) (
      λ k p o.
          let i = c.loop-place.invariant.0 k p o in
          let q = i.1 in
          let m = next_level i.0 w h i.2.wide i.2.high more in
          let o' : Holds (suc m.0) c.loop-place.place.size.wide c.loop-place.place.size.high c.args.tower.now i.1 = rw m.1 at i.2 in
          (m.0, halved w h q, above m.0 w h ts q o', ap (λ (z : ℤ). int_wrap w32 (halved w h q (x / 2) (y / 2) +ℤ z)) sum ∙ sum_rises (q x y) _ _ _ (c.rise-above.ensures m.0 q o') ∙ i.3),
      omega (arith, mul-le-mul ew eh),
    )

pub returns : goal.returns
returns c k p o =
    let i = c.loop-place.invariant.0 k p o in
    let q = i.1 in
    let ft : SFits w32 (get_or c.args.tower.now 0 (pos 0)) = search rules in
    let top = top_shown i.0 _ _ _ q _ _ c.loop-place.place.across c.loop-place.place.down (eqb-true _ _ (sym c.loop-place-test.ensures)) i.2 in
    wrapping_add_onto w32 _ _ c.loop-place.auto.above.fits ft ∙ sum_shown _ _ _ _ top i.3
