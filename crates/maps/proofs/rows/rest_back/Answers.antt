use Rattle.std.proofs.Common.{refl, arith, w32, SFits, ◌∙◌, rules}
use Rattle.std.proofs.lemmas.Int.{to_z-of_z}
use Rattle.pairs.specs.Pairs.{one_of}
use Rattle.pairs.proofs.Exact.{one_read}
use Rattle.maps.proofs.Back.{place_more}
use Rattle.maps.proofs.rows.rest_back.Goals as goal

pub loop-i-preserved : goal.loop-i-preserved
loop-i-preserved c =
    let f : SFits w32 c.one.result = search rules in
    place_more _ _ _ c.loop-i.i _ (omega arith) (λ hm hd. to_z-of_z w32 _ f ∙ one_read (one_of c.loop-i.i) _ _ _ _ _ refl refl hm hd c.one.ensures.exact) c.loop-i.invariant
