use Rattle.std.proofs.Common.{vec_items, ap, ◌∙◌, arith}
use Rattle.std.proofs.lemmas.List.{with_items_is}
use Rattle.std.proofs.lemmas.Result.{err_from_is_err_and}
use Rattle.drafts.proofs.Standing.{finish_refused, finish_taken}
use Rattle.drafts.proofs.Draft.finish.Goals as goal

pub returns-in_err-build : goal.returns-in_err-build
returns-in_err-build c =
    λ g o. let p = err_from_is_err_and c.from_residual-in_err-build.result c.from_residual-in_err-build.ensures.1 in
    rw (p.1, p.2) (finish_refused o (c.in_ok-side.ensures.tells g o) _ _ _ c.deref.ensures.value _ (c.deref_mut.ensures.len ∙ c.in_ok-tower.ensures.len) c.build.result _ (grind arith) c.build.ensures)

pub returns : goal.returns
returns c = λ g o.
    finish_taken o (c.in_ok-side.ensures.tells g o) _ _ _ c.deref.ensures.value _ (c.deref_mut.ensures.len ∙ c.in_ok-tower.ensures.len) c.build.result _ (grind arith) c.new.ensures.0 c.new.ensures.1.0 (ap vec_items c.new.ensures.1.1 ∙ with_items_is c.in_ok-tower.tower _ (c.build.auto.room ∙ c.deref_mut.ensures.len)) c.build.ensures
