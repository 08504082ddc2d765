use Rattle.std.proofs.Common.{sym, ◌∙◌, arith, w32, SFits, rules}
use Rattle.std.proofs.lemmas.Int.{to_z-of_z}
use Rattle.pairs.proofs.Half.{one_first, one_second}
use Rattle.pairs.proofs.Pair.one.Goals as goal

pub returns-then-place-eq0-clause-exact : goal.returns-then-place-eq0-clause-exact
returns-then-place-eq0-clause-exact c hm hd =
    let f : SFits w32 c.first.result = search rules in
    to_z-of_z w32 _ f ∙ c.first.ensures.exact hm hd ∙ sym (one_first c.args.place _ _ c.if-place-eq0.true)

pub returns-else-place-eq0-clause-exact : goal.returns-else-place-eq0-clause-exact
returns-else-place-eq0-clause-exact c hm hd =
    let f : SFits w32 c.second.result = search rules in
    to_z-of_z w32 _ f ∙ c.second.ensures.exact hm hd ∙ sym (one_second c.args.place _ _ (omega arith))
