use Rattle.std.proofs.Common.{◌≡◌, ◌+◌, ◌*◌, ◌%◌, ◌<◌, ◌≤◌, length, ap, ◌∙◌, ⊎_elim, arith, rules}
use Rattle.std.proofs.lemmas.Bool.{cases_eq}
use Rattle.maps.specs.Rows.{line}
use Rattle.maps.proofs.Back.{first_there, second_there}
use Rattle.maps.proofs.Vectors.{first_written, second_written}
use Rattle.maps.proofs.lanes.four_back.Goals as goal

pub returns : goal.returns
returns c u j hu ej hm hd =
    let ms = c.args.means.now in
    let ds = c.args.differences.now in
    let row = c.in_turn.new.row in
    let lm : 4 ≤ length c.args.means.now = omega arith in
    let ld : 4 ≤ length c.args.differences.now = omega arith in
    let lf : length c.firsts-firsts.result ≡ 4 = search rules in
    let ls : length c.seconds.result ≡ 4 = search rules in
    let hj : j < 4 = omega arith in
    let fs = c.firsts-firsts.ensures j hj in
    ⊎_elim
    (λ (e : u % 2 ≡ 0).
    let eu : u ≡ 2 * j = omega arith in
    ap (line row) eu ∙ first_there ms ds (0 + u) j j _ (omega arith) (omega arith) (λ hm hd. first_written ms ds _ _ lm ld lf ls j hj fs (λ m hm. c.seconds.ensures j m hj hm) hm hd _ (c.in_turn.ensures.first j hj)) hm hd)
    (λ n.
    let eu : u ≡ 2 * j + 1 = omega arith in
    ap (line row) eu ∙ second_there ms ds (0 + u) j j _ (omega arith) (omega arith) (λ hm hd. second_written ms ds _ _ lm ld lf ls j hj fs (λ m hm. c.seconds.ensures j m hj hm) hm hd _ (c.in_turn.ensures.second j hj)) hm hd)
    (cases_eq (u % 2) 0)
