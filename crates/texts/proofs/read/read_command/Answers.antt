use Rattle.std.proofs.Common.{sym, ◌∙◌}
use Rattle.texts.proofs.Named.{command_none, command_is}
use Rattle.texts.proofs.read.read_command.Goals as goal

pub returns-in_err-name : goal.returns-in_err-name
returns-in_err-name c = c.from_residual.ensures ∙ sym (command_none _ (sym c.of-words.ensures ∙ c.in_err-name.ensures.steps.0))

pub returns : goal.returns
returns c = c.command_named.ensures ∙ sym (command_is _ _ _ (sym c.of-words.ensures ∙ c.in_ok-name.ensures.steps))
