use Rattle.std.proofs.Common.{is_ok, sym, ap, ◌∙◌, ⊎_elim, arith, w32, w64, SFits, rules}
use Rattle.std.proofs.ResultArms.{chosen}
use Rattle.std.proofs.lemmas.Int.{to_z-of_z}
use Rattle.std.proofs.lemmas.Result.{err_from_is_err_and}
use Rattle.std.proofs.str.Laws.{order}
use Rattle.maps.specs.Rows.{line}
use Rattle.tower.proofs.Wrong.{wrong_step, wrong_here, wrong_many}
use Rattle.drafts.proofs.Rows.{told_wrong, heights_more, row_ended}
use Rattle.drafts.proofs.put_heights.Goals as goal

pub returns-in_default : goal.returns-in_default
returns-in_default c = told_wrong _ _ _ (sym c.loop-at.invariant.right ∙ wrong_many c.args.row.now c.args.many c.loop-at.at (omega arith) (omega arith))

pub returns-in_default-2 : goal.returns-in_default-2
returns-in_default-2 c =
    let f : SFits w64 (line c.args.row.now c.loop-at.at) = search rules in
    let h = rw (to_z-of_z w64 (line c.args.row.now c.loop-at.at) f) at c.in_default.ensures in
    told_wrong _ _ _
    (sym c.loop-at.invariant.right ∙
    ⊎_elim
    (λ lt. wrong_here c.args.row.now c.args.many c.loop-at.at (omega arith) lt h)
    (λ ge. wrong_many c.args.row.now c.args.many c.loop-at.at (omega arith) (omega arith))
    (order c.loop-at.at c.args.many))

pub returns-in_err-push-in-Some : goal.returns-in_err-push-in-Some
returns-in_err-push-in-Some c = let p = err_from_is_err_and c.from_residual.result c.from_residual.ensures.1 in rw p.1 tt

pub loop-at-preserved : goal.loop-at-preserved
loop-at-preserved c =
    let f : SFits w64 (line c.args.row.now c.loop-at.at) = search rules in
    let g : SFits w32 c.in-Some.height = search rules in
    let h = rw (to_z-of_z w64 (line c.args.row.now c.loop-at.at) f) at c.in-Some.ensures in
    let put = rw (to_z-of_z w32 c.in-Some.height g) at (chosen _ _ _ _ c.push.ensures.items (ap is_ok c.in_ok-push-in-Some.was)) in
    record {
      within = omega arith;
      right = sym (wrong_step c.args.row.now c.args.many c.loop-at.at (omega arith) (omega arith) h.1) ∙ c.loop-at.invariant.right;
      put = heights_more _ _ _ c.args.row.now c.loop-at.at c.in-Some.height (omega arith) h.0 c.loop-at.invariant.put put;
    }

pub returns : goal.returns
returns c = rw c.then_some.ensures (row_ended _ _ _ _ _ (omega arith) c.loop-at.invariant.within c.loop-at.invariant.right c.loop-at.invariant.put)
