use Rattle.std.proofs.Common.{rules}
use Rattle.messages.specs.Writing.{refusal_text}
use Rattle.messages.proofs.write.write_refusal.Goals as goal

pub returns : goal.returns
unfolding refusal_text
returns c = search rules
