use Rattle.std.proofs.Common.{◌<◌, ◌≢◌, length, pos, refl, ◌∙◌, arith, w32, SFits, rules, below_more}
use Rattle.std.proofs.lemmas.List.{get_or-set_same, get_or-set_other}
use Rattle.std.proofs.lemmas.Int.{to_z-of_z}
use Rattle.pairs.specs.Pairs.{one_of}
use Rattle.pairs.proofs.Exact.{one_read}
use Rattle.windows.proofs.ones.Goals as goal

pub loop-i-preserved : goal.loop-i-preserved
loop-i-preserved c =
    let i = c.loop-i.i in
    let row = c.loop-i.row in
    let f : SFits w32 c.one.result = search rules in
    below_more _ _
    (λ k h hm hd. let ne : k ≢ i = omega arith in get_or-set_other row i k _ (pos 0) ne ∙ c.loop-i.invariant k h hm hd)
    (λ hm hd. let lt : i < length row = omega arith in get_or-set_same row i _ (pos 0) lt ∙ to_z-of_z w32 _ f ∙ one_read (one_of c.args.place) _ _ _ _ _ refl refl hm hd c.one.ensures.exact)
