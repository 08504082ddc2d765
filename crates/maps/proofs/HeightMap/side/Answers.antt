use Rattle.std.proofs.Common.{◌≡◌, ◌*◌, ◌^◌, ◌<◌, ◌≤◌, sym, ◌∙◌, mod-eq_of_lt, arith, pow_mono}
use Rattle.levels.proofs.Sizes.{power_is}
use Rattle.maps.proofs.HeightMap.side.Goals as goal

pub returns-then-k-le-MAX_K : goal.returns-then-k-le-MAX_K
returns-then-k-le-MAX_K c =
    let k = c.args.k in
    let h : k ≤ 7 = omega arith in
    let small : 2 ^ k ≤ 2 ^ 7 = pow_mono h in
    let fits : 1 * 2 ^ k < 18446744073709551616 = omega arith in
    (h, mod-eq_of_lt fits ∙ (let e : 1 * 2 ^ k ≡ 2 ^ k = omega arith in e) ∙ sym (power_is k))
