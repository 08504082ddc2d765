use Rattle.std.proofs.Common.{◌≡◌, ◌++◌, drop, string_bytes}
use Rattle.messages.specs.Writing.{rest_text}
use Rattle.messages.proofs.write.write_rest.Given as goal

-- what is still to come makes it the whole
abbrev pub invariant-loop-number : goal.invariant-loop-number
invariant-loop-number l = string_bytes l.out ++ rest_text (drop l.number-index l.numbers) ≡ string_bytes l.initial.out ++ rest_text l.numbers
