use Rattle.std.proofs.Common.{sym, refl}
use Rattle.sessions.proofs.Standing.{end_taken, end_refused}
use Rattle.sessions.proofs.Session.end_rows.Goals as goal

pub returns-in-Ok : goal.returns-in-Ok
returns-in-Ok c =
    λ s o. end_taken o c.in-Some.draft c.in-Ok.viewer _ _ (sym c.in-Some.ensures.value) c.in-Ok.ensures refl c.take.ensures.after refl

pub returns-in_ok-write_refusal-in-Err-Refused : goal.returns-in_ok-write_refusal-in-Err-Refused
returns-in_ok-write_refusal-in-Err-Refused c =
    λ s o. end_refused o c.in-Some.draft c.in-Err-Refused.refusal _ _ _ (sym c.in-Some.ensures.value) (rw c.in-Err-Refused.field-0-is at c.in-Err-Refused.ensures) refl c.take.ensures.after refl c.in_ok-write_refusal-in-Err-Refused.ensures
