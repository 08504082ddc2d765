use Rattle.messages.proofs.Rows.{row_empty, row_first}
use Rattle.messages.proofs.write.write_row.Goals as goal

pub returns-in-empty : goal.returns-in-empty
returns-in-empty c = row_empty c.write.result _ _ _ c.in-empty.len_below c.write.ensures.bytes

pub returns-in_ok-write-in-len1-up : goal.returns-in_ok-write-in-len1-up
returns-in_ok-write-in-len1-up c = row_first c.write_rest.result _ _ _ _ c.in-len1-up.len_at_least c.in_ok-write-in-len1-up.ensures.bytes c.write_rest.ensures
