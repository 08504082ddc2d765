use Rattle.std.proofs.Common.{refl, ◌∙◌, arith}
use Rattle.pairs.proofs.Exact.{read_height}
use Rattle.building.proofs.Steps.{quad_built}
use Rattle.building.proofs.put_quad.Goals as goal

pub returns-clause-holds : goal.returns-clause-holds
returns-clause-holds c k p s lies =
    let a = c.requires.heights 0 (omega arith) in
    let b = c.requires.heights 1 (omega arith) in
    let d = c.requires.heights 2 (omega arith) in
    let e = c.requires.heights 3 (omega arith) in
    let q = (rw (read_height _ _ refl a, read_height _ _ refl b, read_height _ _ refl d, read_height _ _ refl e) at c.of-quad.ensures.quad) a b d e in
    let ns = c.copy_from_slice.ensures.after ∙ c.from.ensures in
    rw ns (quad_built k c.args.map.now _ p s lies c.requires.heights q.mean q.down q.upper q.lower)
