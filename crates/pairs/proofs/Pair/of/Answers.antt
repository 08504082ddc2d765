use Rattle.std.proofs.Common.{◌≡◌, ◌+ℤ◌, ap, ◌∙◌, w32, SFits, to_z, of_z, rules}
use Rattle.std.specs.Int.{int_wrap}
use Rattle.std.proofs.lemmas.Int.{to_z-of_z, wrapping_add_is, wrapping_sub_is}
use Rattle.pairs.specs.Pairs.{half}
use Rattle.pairs.proofs.Exact.{mean_exact, difference_exact}
use Rattle.pairs.proofs.Pair.of.Goals as goal

pub returns : goal.returns
returns c =
    let a = c.args.left in
    let b = c.args.right in
    let f : SFits w32 c.halve.result = search rules in
    let m : to_z w32 (of_z w32 c.halve.result) ≡ half (int_wrap w32 (a +ℤ b)) = to_z-of_z w32 _ f ∙ c.halve.ensures ∙ ap half (wrapping_add_is w32 a b c.ranges.left c.ranges.right) in
    let d = wrapping_sub_is w32 a b c.ranges.left c.ranges.right in
    record { mean = m; difference = d; exact = λ ha hb. (m ∙ mean_exact a b ha hb, d ∙ difference_exact a b ha hb) }
