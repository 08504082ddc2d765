use Rattle.std.proofs.Common.{sym, ◌∙◌, arith}
use Rattle.std.proofs.lemmas.List.{get_or_past}
use Rattle.std.proofs.lemmas.Bool.Decides.{nat_tests}
use Rattle.texts.proofs.Readings.{row_begins, row_none}
use Rattle.texts.proofs.read.is_row_line.Goals as goal

pub returns-in-Some-48-to-57 : goal.returns-in-Some-48-to-57
returns-in-Some-48-to-57 c = rw (row_begins _ _ _ (sym c.of.ensures ∙ c.in-Some-48-to-57.ensures.steps)) (grind (arith, nat_tests))

pub returns-in-Some-48-to-57-2 : goal.returns-in-Some-48-to-57-2
returns-in-Some-48-to-57-2 c = rw (row_begins _ _ _ (sym c.of.ensures ∙ c.in-Some-48-to-57.ensures.steps)) (grind (arith, nat_tests))

pub returns-in_default : goal.returns-in_default
returns-in_default c = let h = rw c.in_default.is at c.next.ensures.steps in rw (row_begins _ _ _ (sym c.of.ensures ∙ h)) (grind (arith, nat_tests, get_or_past))

pub returns-in_default-2 : goal.returns-in_default-2
returns-in_default-2 c = let h = rw c.in_default.is at c.next.ensures.steps in rw (row_begins _ _ _ (sym c.of.ensures ∙ h)) (grind (arith, nat_tests))

pub returns-in_default-3 : goal.returns-in_default-3
returns-in_default-3 c = let h = rw c.in_default.is at c.next.ensures.steps in rw (row_begins _ _ _ (sym c.of.ensures ∙ h)) (grind (arith, nat_tests))

pub returns-in_default-4 : goal.returns-in_default-4
returns-in_default-4 c = let h = rw c.in_default.is at c.next.ensures.steps in sym (row_none _ (sym c.of.ensures ∙ h.0))
