use Rattle.std.proofs.Common.{Some, Err, sym, refl, ap, ◌∙◌}
use Rattle.std.proofs.lemmas.Result.{err_from_is_err_and}
use Rattle.tower.proofs.Taken.{answer_refused, answer_taken}
use Rattle.parts.proofs.Order.{assemble_levels, assemble_gap, assemble_room, assemble_taken}
use Rattle.parts.proofs.Filling.{joined_whole, assembled}
use Rattle.parts.proofs.assembly.assemble.Goals as goal

pub returns-in_err-whole : goal.returns-in_err-whole
returns-in_err-whole c =
    let p = err_from_is_err_and c.from_residual.result c.from_residual.ensures.1 in
    let o = c.in_err-whole.ensures in
    answer_refused _ _ _ _ _ _ (assemble_levels _ _ _ o.0 ∙ ap Some (sym o.1)) (p.1 ∙ ap Err p.2)

pub returns-in-Some : goal.returns-in-Some
returns-in-Some c =
    let s = c.in_ok-whole.ensures in
    answer_refused _ _ _ _ _ _ (assemble_gap _ _ _ s.levels _ (sym c.in-Some.ensures)) refl

pub returns-then-room-whole : goal.returns-then-room-whole
returns-then-room-whole c =
    let s = c.in_ok-whole.ensures in
    answer_refused _ _ _ _ _ _ (assemble_room _ _ _ s.levels (sym c.in_default.ensures) _ s.value c.if-room-whole.true) refl

pub put_all-requires : goal.put_all-requires
put_all-requires c =
    let s = c.in_ok-whole.ensures in
    joined_whole c.args.k _ (sym c.in_default.ensures) ∙ sym (c.if-room-whole.false ∙ s.value)

pub returns : goal.returns
returns c =
    let s = c.in_ok-whole.ensures in
    let right = sym c.in_default.ensures in
    answer_taken _ _ _ _ _ (assemble_taken _ _ _ s.levels right _ s.value c.if-room-whole.false) (assembled _ _ _ right c.put_all.ensures)
