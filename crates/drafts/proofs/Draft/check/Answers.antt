use Rattle.std.proofs.Common.{Some, sym, ap, ◌∙◌}
use Rattle.std.proofs.lemmas.Result.{err_from_is_err_and}
use Rattle.drafts.proofs.Standing.{levels_refused, rows_refused, rows_whole}
use Rattle.drafts.proofs.Draft.check.Goals as goal

pub returns-in_err-side : goal.returns-in_err-side
returns-in_err-side c =
    let p = err_from_is_err_and c.from_residual.result c.from_residual.ensures.1 in
    let h = c.in_err-side.ensures in
    record { side = rw p.1 tt; tells = λ g o. rw (p.1, p.2) (levels_refused o h.0 ∙ ap Some (sym h.1)) }

pub returns-in-Some : goal.returns-in-Some
returns-in-Some c = record { side = tt; tells = λ g o. rows_refused o c.in_ok-side.ensures.levels _ c.in-Some.is }

pub returns-in-None : goal.returns-in-None
returns-in-None c =
    let side = c.in_ok-side.ensures in
    record { side = side; tells = λ g o. rows_whole o side.levels _ side c.in-None.is }
