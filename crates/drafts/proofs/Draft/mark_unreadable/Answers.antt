use Rattle.std.proofs.Common.{◌≡◌, Some, refl, rules}
use Rattle.refusals.specs.declared.Refusal.TheVariants.{Unreadable}
use Rattle.drafts.proofs.Standing.{marked, marked_before}
use Rattle.drafts.proofs.Draft.mark_unreadable.Goals as goal
use Rattle.drafts.proofs.Draft.mark_unreadable.Goals.{in_default-via-in-Some+in_default, in_default-via-in_default}

pub returns-in-Some-Unreadable : goal.returns-in-Some-Unreadable
returns-in-Some-Unreadable c = λ g o. let e : c.args.self.now.refusal ≡ Some (Unreadable c.in-Some-Unreadable.field-0-0) = search rules in marked_before o _ _ e

pub returns-in_default : goal.returns-in_default
returns-in_default c = λ g o. marked o _ _ refl refl (λ l e. elim c.in_default.branch [ in_default-via-in-Some+in_default w ↦ let f : w.in_default.field-0 ≡ Unreadable l = cc in search rules | in_default-via-in_default w ↦ let h = w.in_default.is in cc ])
