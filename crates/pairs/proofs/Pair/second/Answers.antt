use Rattle.std.proofs.Common.{ℤ, pos, ◌+ℤ◌, ◌-ℤ◌, neg_ℤ, ap, ◌∙◌, w32, SFits, rules}
use Rattle.std.specs.Int.{int_wrap}
use Rattle.std.proofs.lemmas.Int.{wrapping_sub_is, int_wrap-add_left}
use Rattle.pairs.specs.Pairs.{half}
use Rattle.pairs.proofs.Exact.{second_exact}
use Rattle.pairs.proofs.Pair.second.Goals as goal

pub returns : goal.returns
returns c =
    let m = c.args.self.mean in
    let d = c.args.self.difference in
    let fd : SFits w32 c.args.self.difference = search rules in
    let fr : SFits w32 c.first.result = search rules in
    let v = wrapping_sub_is w32 c.first.result d fr fd ∙ ap (λ (z : ℤ). int_wrap w32 (z -ℤ d)) c.first.ensures.wraps ∙ int_wrap-add_left w32 (m +ℤ half (int_wrap w32 (d +ℤ pos 1))) (neg_ℤ d) in
    record { wraps = v; exact = λ hm hd. v ∙ second_exact m d hm hd }
