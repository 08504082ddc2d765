use Rattle.pairs.specs.Pairs.{Height}
use Rattle.maps.proofs.Quads.{quad_made, quad_holds}
use Rattle.maps.proofs.quad.Quad.of.Goals as goal

pub returns : goal.returns
returns c =
    let made = λ (ha : Height c.args.a) (hb : Height c.args.b) (hc : Height c.args.c) (hd : Height c.args.d).
    quad_made c.args.a c.args.b c.args.c c.args.d ha hb hc hd _ _ _ _ _ _ c.of-upper.ensures.exact c.of-lower.ensures.exact c.of-means.ensures.exact in
    record { quad = made; tower = λ ha hb hc hd. quad_holds c.args.a c.args.b c.args.c c.args.d ha hb hc hd _ (made ha hb hc hd) }
