use Rattle.std.proofs.Common.{◌≡◌, length, ◌∙◌, w32, SFits, rules}
use Rattle.maps.specs.Rows.{line}
use Rattle.maps.proofs.Vectors.{less_lane, second_lane}
use Rattle.maps.proofs.lanes.seconds.Goals as goal

pub returns : goal.returns
returns c i m hi hm hd e =
    let fs = c.args.firsts in
    let ds = c.args.differences in
    let lf : length c.args.firsts ≡ 4 = search rules in
    let ld : length c.args.differences ≡ 4 = search rules in
    let fd : SFits w32 (line c.args.differences i) = search rules in
    less_lane _ fs ds i lf ld hi ∙ second_lane m (line ds i) fd hm hd (line fs i) e
