-- Commands and rows, by their words. Assumes nothing: these are definitions.
--     command             the command of a line, or none where it cannot be read
--     is_row              a line is a row of a map: its first word begins with a digit or a minus sign
--     row                 the numbers of a row, or none where one of its words is no number
use Rattle.std.specs.Prelude.{ℕ, Bool, false, if◌then◌else◌, ◌||◌, List, [], ◌∷◌, ℤ, Some, None, codes, Option, ◌==◌, slice_index}
use Rattle.std.specs.Char.{is_ascii_digit}
use Rattle.std.specs.Str.{bytes_eq}
use Rattle.messages.specs.declared.command.Command.{Command}
use Rattle.messages.specs.declared.command.Command.TheVariants.{Map, Level, Window, Set, Tower, Coarse}
use Rattle.texts.specs.Words.{words, number, height_number, all_read}

-- just so many numbers, and what they make
abbrev pub no_number : Command → List ℕ → Option Command
no_number c [] = Some c
no_number c (n ∷ ns) = None

abbrev pub one_number : (ℕ → Command) → List ℕ → Option Command
one_number f [] = None
one_number f (n ∷ ns) = no_number (f n) ns

abbrev pub three_numbers : (ℕ → ℕ → ℕ → Command) → List ℕ → Option Command
three_numbers f [] = None
three_numbers f (a ∷ []) = None
three_numbers f (a ∷ b ∷ ns) = one_number (f a b) ns

abbrev pub four_numbers : (ℕ → ℕ → ℕ → ℕ → Command) → List ℕ → Option Command
four_numbers f [] = None
four_numbers f (a ∷ ns) = three_numbers (f a) ns

-- by its name and the numbers behind it
unfoldable pub named : (name : List ℕ) → List ℕ → Option Command
named name ns =
    if bytes_eq name (codes "map") then one_number Map ns
    else (if bytes_eq name (codes "level") then one_number Level ns
    else (if bytes_eq name (codes "window") then four_numbers Window ns
    else (if bytes_eq name (codes "set") then three_numbers Set ns
    else (if bytes_eq name (codes "tower") then no_number Tower ns
    else (if bytes_eq name (codes "coarse") then one_number Coarse ns
    else None)))))

abbrev pub with_numbers : (name : List ℕ) → Option (List ℕ) → Option Command
with_numbers name None = None
with_numbers name (Some ns) = named name ns

abbrev pub command_of : List (List ℕ) → Option Command
command_of [] = None
command_of (name ∷ ws) = with_numbers name (all_read number ws)

unfoldable pub command : List ℕ → Option Command
command line = command_of (words line)

abbrev pub begins_row : List (List ℕ) → Bool
begins_row [] = false
begins_row (w ∷ ws) = is_ascii_digit (slice_index w 0) || slice_index w 0 == 45

unfoldable pub is_row : List ℕ → Bool
is_row line = begins_row (words line)

unfoldable pub row : List ℕ → Option (List ℤ)
row line = all_read height_number (words line)
