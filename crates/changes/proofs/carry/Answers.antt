use Rattle.std.proofs.Common.{◌+◌, ◌/◌, ◌<◌, ◌≤◌, length, get_or, pos, sym, mul-le-mul, arith, w32, SFits, rules}
use borrow.Author.Differences.{ints}
use Rattle.std.proofs.lemmas.Int.{to_z-of_z}
use Rattle.std.proofs.lemmas.Bool.{eqb-true}
use Rattle.changes.proofs.Carrying.{carried_by, none_carried, sum_bits, top_carried}
use Rattle.changes.proofs.carry.Goals as goal

pub loop-by-preserved : goal.loop-by-preserved
loop-by-preserved c =
    let ew : (c.loop-by.place.size.wide + 1) / 2 ≤ c.loop-by.place.size.wide = omega arith in
    let eh : (c.loop-by.place.size.high + 1) / 2 ≤ c.loop-by.place.size.high = omega arith in
    let fr : SFits w32 c.carry_level-by.result = search rules in
    rw (c.up-place.ensures.size.0, c.up-place.ensures.size.1, c.up-place.ensures.place.0, c.up-place.ensures.place.1) (
      λ zs on. c.loop-by.invariant.0 zs (c.carry_level-by.ensures zs (carried_by (to_z-of_z w32 _ fr) on)),
      omega (arith, mul-le-mul ew eh),
    )

pub returns-then-is_alone : goal.returns-then-is_alone
returns-then-is_alone c =
    let hx = c.loop-by.place.across in
    let hy = c.loop-by.place.down in
    let fb : SFits w32 c.args.by = c.ranges.by in
    let fd : SFits w32 (get_or c.loop-by.tower 0 (pos 0)) = search rules in
    let room : 0 < length c.loop-by.tower = omega (arith, mul-le-mul hx hy) in
    let one = eqb-true _ _ (sym c.if-is_alone.ensures) in
    (simp to_z-of_z at c.loop-by.invariant.0) _ (top_carried _ _ _ _ _ _ _ hx hy one room (sum_bits _ _ fd c.loop-by.auto.by.fits))

pub returns : goal.returns
returns c =
    let fb : SFits w32 c.args.by = c.ranges.by in
    (simp to_z-of_z at c.loop-by.invariant.0) _ (none_carried _ _ _ _ _ _ (omega (arith, ints)))
