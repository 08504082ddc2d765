-- The numbers and the places of refusals. Assumes nothing: these are definitions.
--     number, place       what each case is known by outside
--     refused_text        how a refusal prints: its number and its place
--     refused_if          a refusal where a test applies, and else what the later tests give: a list of refusals is written in the order of its checks
use Rattle.std.specs.Prelude.{ℕ, Bool, true, false, List, ◌++◌, Some, codes, decimal, Option}
use Rattle.refusals.specs.declared.Refusal.{Refusal}
use Rattle.refusals.specs.declared.Refusal.TheVariants.{TooManyLevels, WrongNumber, WrongRoom, NoSuchLevel, OffTheMap, TooHigh, Unreadable}

abbrev pub number : Refusal → ℕ
number (TooManyLevels k) = 1
number (WrongNumber at) = 2
number (WrongRoom length) = 3
number NoSuchLevel = 4
number OffTheMap = 4
number TooHigh = 4
number (Unreadable line) = 5

-- of the number 4 the place is which: 0 the level, 1 the window or the place, 2 the height
abbrev pub place : Refusal → ℕ
place (TooManyLevels k) = k
place (WrongNumber at) = at
place (WrongRoom length) = length
place NoSuchLevel = 0
place OffTheMap = 1
place TooHigh = 2
place (Unreadable line) = line

abbrev pub refused_text : Refusal → List ℕ
refused_text e = codes "refused " ++ (decimal (number e) ++ (codes " " ++ decimal (place e)))

abbrev pub refused_if : Bool → Refusal → Option Refusal → Option Refusal
refused_if true r later = Some r
refused_if false r later = later
