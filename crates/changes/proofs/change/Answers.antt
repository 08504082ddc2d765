use Rattle.std.proofs.Common.{◌≡◌, ◌+◌, ◌-◌, ◌%◌, ◌^◌, ◌+ℤ◌, ◌-ℤ◌, ap, ◌∙◌, arith, w32, SFits, to_z, of_z, rules}
use borrow.Author.Differences.{ints}
use Rattle.std.specs.Int.{int_wrap}
use Rattle.std.proofs.lemmas.Int.{wrapping_sub_is, int_wrap_fits}
use Rattle.changes.proofs.change.Goals as goal

pub returns : goal.returns
returns c =
    let g = c.args.height in
    let fr : SFits w32 c.height_at.result = search rules in
    record {
      holds = λ k p o hg.
          let old = p c.args.place.x c.args.place.y in
          let ho = o.heights _ _ c.args.place.across c.args.place.down in
          let f : SFits w32 (c.args.height -ℤ p c.args.place.x c.args.place.y) = omega (arith, ints) in
          let by : to_z w32 ((of_z w32 c.args.height + (2 ^ 32 - of_z w32 c.height_at.result)) % 2 ^ 32) ≡ c.args.height -ℤ p c.args.place.x c.args.place.y =
          wrapping_sub_is w32 g c.height_at.result c.ranges.height fr ∙ ap (λ z. int_wrap w32 (g -ℤ z)) (c.height_at.ensures k p o) ∙ int_wrap_fits w32 _ f in
          let new : old +ℤ (g -ℤ old) ≡ g = omega (arith, ints) in
          (simp (by, new) at (c.carry.ensures.holds k p o)) hg;
      rest = c.carry.ensures.rest;
    }
