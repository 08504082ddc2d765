use Rattle.pairs.specs.Pairs.{mean_of}
use Rattle.pairs.proofs.Half.{mean_height}
use Rattle.pairs.proofs.Exact.{read_height}
use Rattle.maps.proofs.Quads.{first_back, second_back}
use Rattle.maps.proofs.quad.Quad.heights.Goals as goal

pub returns : goal.returns
returns c a b e f ha hb he hf o =
    let hu = mean_height a b ha hb in
    let hl = mean_height e f he hf in
    let u = first_back (mean_of a b) (mean_of e f) hu hl _ _ _ o.mean o.down c.first.ensures.exact in
    let l = second_back (mean_of a b) (mean_of e f) hu hl _ _ _ o.mean o.down c.second.ensures.exact in
    let ra = read_height _ a (first_back a b ha hb _ _ _ u o.upper c.first-2.ensures.exact) ha in
    let rb = read_height _ b (second_back a b ha hb _ _ _ u o.upper c.second-2.ensures.exact) hb in
    let re = read_height _ e (first_back e f he hf _ _ _ l o.lower c.first-3.ensures.exact) he in
    let rf = read_height _ f (second_back e f he hf _ _ _ l o.lower c.second-3.ensures.exact) hf in
    cc
