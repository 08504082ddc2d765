use Rattle.std.proofs.Common.{refl}
use Rattle.sessions.proofs.Standing.{one_more, row_taken, other_taken}
use Rattle.sessions.proofs.Session.take_line.Goals as goal

pub returns-then-is_row : goal.returns-then-is_row
returns-then-is_row c =
    λ s o. let more = one_more o _ c.saturating_add-self.ensures refl refl in row_taken o _ _ _ _ (c.if-is_row.ensures _ more) (λ g e. c.put_row.ensures _ g more e)

pub returns : goal.returns
returns c =
    λ s o.
    let more = one_more o _ c.saturating_add-self.ensures refl refl in
    let ends = c.in_ok-end_rows.ensures _ more in
    other_taken o _ _ _ _ _ _ _ (c.if-is_row.ensures _ more) ends (c.ask.ensures _ ends.stands refl)
