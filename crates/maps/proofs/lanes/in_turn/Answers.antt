use Rattle.std.proofs.Common.{◌≡◌, ◌+◌, ◌*◌, List, length, ℤ, ap, ◌∙◌, rules}
use Rattle.maps.specs.Rows.{line}
use Rattle.maps.proofs.Vectors.{stored, turn_first, turn_second}
use Rattle.maps.proofs.lanes.in_turn.Goals as goal

pub returns : goal.returns
returns c =
    let xs = c.args.firsts in
    let ys = c.args.seconds in
    let lx : length c.args.firsts ≡ 4 = search rules in
    let ly : length c.args.seconds ≡ 4 = search rules in
    let all = stored _ _ _ _ _ _ _ _ c.args.row.now c.requires in
    record {
      first = λ i hi f. ap (λ (l : List ℤ). line l (2 * i)) all ∙ turn_first xs ys lx ly i hi f;
      second = λ i hi f. ap (λ (l : List ℤ). line l (2 * i + 1)) all ∙ turn_second xs ys lx ly i hi f;
    }
