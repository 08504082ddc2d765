use Rattle.std.proofs.Common.{sym, append-nil, arith, rules}
use Rattle.messages.specs.Writing.{rows_of}
use Rattle.messages.proofs.Rows.{left_next, rows_more}
use Rattle.messages.proofs.write.write_rows.Goals as goal

pub loop-v-init : goal.loop-v-init
unfolding rows_of
loop-v-init c = record { written = sym (append-nil _); left = search rules }

pub loop-v-preserved : goal.loop-v-preserved
loop-v-preserved c = record {
  written = rows_more _ _ _ _ _ _ _ c.loop-v.invariant.written c.loop-v.invariant.left (grind arith);
  left = left_next _ _ _ _ _ c.loop-v.invariant.left c.split_at.ensures.back;
}
