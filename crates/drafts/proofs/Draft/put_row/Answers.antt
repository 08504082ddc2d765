use Rattle.std.proofs.Common.{sym, refl, ◌∙◌, rules}
use Rattle.drafts.proofs.Rows.{none_from, some_from, wrong_within}
use Rattle.drafts.proofs.Standing.{few, too_large, refused_before, row_beyond, row_wrong, row_kept}
use Rattle.drafts.proofs.Draft.put_row.Goals as goal

pub returns-in_default : goal.returns-in_default
returns-in_default c = λ g line o. too_large o line _ c.in_default.ensures.0

pub returns-then-is_some : goal.returns-then-is_some
returns-then-is_some c = λ g line o. let p = some_from _ c.if-is_some.ensures in refused_before o line _ p.0 p.1

pub returns-then-begin-side : goal.returns-then-begin-side
returns-then-begin-side c = λ g line o.
    row_beyond o line _ _ refl (none_from _ (sym c.if-is_some.ensures)) _ _ c.in-Ok.ensures c.len-begin.ensures c.if-begin-side.true refl

pub overflow_add-self : goal.overflow_add-self
overflow_add-self c =
    let most = few _ _ c.in-Ok.ensures in
    let place = wrong_within _ _ _ _ (sym c.in_ok-place.ensures.0 ∙ c.in-Some.is) in
    search rules

pub returns-in-Some : goal.returns-in-Some
returns-in-Some c = λ g line o.
    row_wrong o line _ _ refl (none_from _ (sym c.if-is_some.ensures)) _ _ c.in-Ok.ensures c.len-begin.ensures _ c.if-begin-side.false (sym c.in-Some.is ∙ c.in_ok-place.ensures.0) refl

pub returns-in_default-2 : goal.returns-in_default-2
returns-in_default-2 c = λ g line o.
    row_kept o line _ _ refl (none_from _ (sym c.if-is_some.ensures)) _ _ c.in-Ok.ensures c.len-begin.ensures c.if-begin-side.false
    (sym c.in_default-2.is ∙ c.in_ok-place.ensures.0) (none_from _ (sym c.if-is_some.ensures)) (c.in_ok-place.ensures.1 c.in_default-2.is)
