-- What is written is read back as what it was. Each is a statement; a function of this crate has it as its contract. Assumes nothing.
use Rattle.std.specs.Prelude.{◌≡◌, ℕ, ◌+◌, ◌^◌, ◌<◌, List, [], ◌∷◌, ◌++◌, ℤ, Some, codes, decimal}
use Rattle.std.specs.Int.Signed.{mag}
use Rattle.std.specs.Fmt.{signed_decimal}
use Rattle.std.specs.List.{All}
use Rattle.messages.specs.declared.command.Command.{Command}
use Rattle.messages.specs.declared.command.Command.TheVariants.{Map, Level, Window, Set, Tower, Coarse}
use Rattle.texts.specs.Words.{number, height_number}
use Rattle.texts.specs.Commands.{command, row}
use Rattle.messages.specs.Writing.{row_text}

abbrev pub NumberBack : Type 0
NumberBack = (n : ℕ) → n < 2 ^ 64 → number (decimal n) ≡ Some n

-- `mag z` is n at n and at -(n + 1)
abbrev pub HeightBack : Type 0
HeightBack = (z : ℤ) → mag z + 1 < 2 ^ 63 → height_number (signed_decimal z) ≡ Some z

-- so a window that was printed can be handed on as rows of a map
abbrev pub RowBack : Type 0
RowBack = (zs : List ℤ) → All (λ z. mag z + 1 < 2 ^ 63) zs → row (row_text zs) ≡ Some zs

-- the name of a command, and its numbers
abbrev pub its_name : Command → List ℕ
its_name (Map k) = codes "map"
its_name (Level l) = codes "level"
its_name (Window x y wide high) = codes "window"
its_name (Set x y height) = codes "set"
its_name Tower = codes "tower"
its_name (Coarse l) = codes "coarse"

abbrev pub its_numbers : Command → List ℕ
its_numbers (Map k) = k ∷ []
its_numbers (Level l) = l ∷ []
its_numbers (Window x y wide high) = x ∷ y ∷ wide ∷ high ∷ []
its_numbers (Set x y height) = x ∷ y ∷ height ∷ []
its_numbers Tower = []
its_numbers (Coarse l) = l ∷ []

-- each behind a blank
unfoldable pub numbers_text : List ℕ → List ℕ
numbers_text [] = []
numbers_text (n ∷ ns) = codes " " ++ (decimal n ++ numbers_text ns)

-- the text of a command is read as that command
abbrev pub CommandBack : Type 0
CommandBack = (c : Command) → All (λ n. n < 2 ^ 64) (its_numbers c) → command (its_name c ++ numbers_text (its_numbers c)) ≡ Some c
