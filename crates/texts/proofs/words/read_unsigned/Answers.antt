use Rattle.std.proofs.Common.{pos, sym, ap, ◌∙◌}
use Rattle.std.specs.Option.{option_map}
use Rattle.texts.proofs.Numbers.{half_none, half_some}
use Rattle.texts.proofs.words.read_unsigned.Goals as goal

pub returns-in_err-read_number : goal.returns-in_err-read_number
returns-in_err-read_number c = c.from_residual.ensures ∙ ap (option_map pos) (sym (half_none _ (sym c.in_err-read_number.ensures)))

pub returns : goal.returns
returns c = c.ok.ensures.value ∙ half_some _ _ _ (sym c.in_ok-read_number.ensures) c.try_from.ensures
