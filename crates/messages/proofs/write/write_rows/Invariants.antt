use Rattle.std.proofs.Common.{◌≡◌, ◌*◌, ◌++◌, drop, string_bytes}
use Rattle.std.specs.List.{flat_map}
use Rattle.messages.specs.Writing.{row_text, rows_of}
use Rattle.messages.proofs.write.write_rows.Given as goal

abbrev pub invariant-loop-v : goal.invariant-loop-v
invariant-loop-v l = record {
  written : string_bytes l.out ≡ string_bytes l.initial.out ++ flat_map row_text (rows_of l.wide l._v l.numbers);
  left : l.rest ≡ drop (l._v * l.wide) l.numbers;
}
