use Rattle.std.proofs.Common.{◌≡◌, ℤ, pos, ◌+ℤ◌, ap, ◌∙◌, w32, SFits, rules}
use Rattle.std.specs.Int.{int_wrap}
use Rattle.std.proofs.lemmas.Int.{wrapping_add_is}
use Rattle.pairs.specs.Pairs.{half}
use Rattle.pairs.proofs.Exact.{first_exact}
use Rattle.pairs.proofs.Pair.first.Goals as goal

pub returns : goal.returns
returns c =
    let m = c.args.self.mean in
    let d = c.args.self.difference in
    let fm : SFits w32 c.args.self.mean = search rules in
    let fd : SFits w32 c.args.self.difference = search rules in
    let f1 : SFits w32 (pos 1) = search rules in
    let fr : SFits w32 c.halve.result = search rules in
    let e : c.halve.result ≡ half (int_wrap w32 (d +ℤ pos 1)) = c.halve.ensures ∙ ap half (wrapping_add_is w32 d (pos 1) fd f1) in
    let v = wrapping_add_is w32 m c.halve.result fm fr ∙ ap (λ (z : ℤ). int_wrap w32 (m +ℤ z)) e in
    record { wraps = v; exact = λ hm hd. v ∙ first_exact m d hm hd }
