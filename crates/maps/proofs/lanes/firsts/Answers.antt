use Rattle.std.proofs.Common.{◌≡◌, length, ◌∙◌, w32, SFits, rules}
use Rattle.maps.specs.Rows.{line}
use Rattle.maps.proofs.Vectors.{sum_lane, first_lane}
use Rattle.maps.proofs.lanes.firsts.Goals as goal

pub returns : goal.returns
returns c i hi hm hd =
    let ms = c.args.means in
    let ds = c.args.differences in
    let lm : length c.args.means ≡ 4 = search rules in
    let ld : length c.args.differences ≡ 4 = search rules in
    let fm : SFits w32 (line c.args.means i) = search rules in
    let fd : SFits w32 (line c.args.differences i) = search rules in
    sum_lane _ _ ms ds i lm ld hi ∙ first_lane (line ms i) (line ds i) fd hm hd fm
