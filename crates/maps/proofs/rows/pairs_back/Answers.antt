use Rattle.std.proofs.Common.{◌-◌, length, refl, ◌∙◌, arith, w32, SFits, to_z, of_z, rules}
use Rattle.std.proofs.lemmas.List.{length-set}
use Rattle.std.proofs.lemmas.Int.{to_z-of_z}
use Rattle.pairs.specs.Pairs.{second_of}
use Rattle.pairs.proofs.Exact.{one_read}
use Rattle.maps.proofs.Back.{even_from, back_second, part_more}
use Rattle.maps.proofs.rows.pairs_back.Goals as goal

pub returns-then-from-eq0 : goal.returns-then-from-eq0
returns-then-from-eq0 c = even_from _ _ _ _ _ c.if-from-eq0.true c.even_back.ensures

pub returns-then-w-gt0 : goal.returns-then-w-gt0
returns-then-w-gt0 c u j hu ej =
    let x = c.args.from in
    let ms = c.args.means.now in
    let ds = c.args.differences.now in
    let row = c.args.row.now in
    let f : SFits w32 c.second.result = search rules in
    let el = length-set row 0 (to_z w32 (of_z w32 c.second.result)) in
    part_more x 1 1 (length ms) (length ds) (length row - 1) _ ms ds _ c.even_back-then-w-gt0.new.row (omega arith) (omega arith) (omega arith) (omega arith) (omega arith)
    (back_second x ms ds row _ (omega arith) (omega arith) (λ hm hd. to_z-of_z w32 _ f ∙ one_read second_of _ _ _ _ _ refl refl hm hd c.second.ensures.exact))
    (λ v i hv ei. c.even_back-then-w-gt0.ensures v i (omega arith) ei) u j (omega arith) ej
