-- Lines of text taken one after the other, by the map itself and copies halved from it. Assumes nothing: these are definitions.
--     State               how many lines were taken, the map whose rows are being given, and the map that is looked at
--     start               before the first line
--     ended, rows_ended, ended_text     the rows of a map have ended: it is taken or refused
--     asked, asked_text   a line that is no row of a map
--     taken, taken_text   a line, and what it answers
--     after, said         lines one after the other, and what they answer
--     session_text        what a whole text answers: its lines, and its end, which ends the rows of a map
use Rattle.std.specs.Prelude.{ℕ, ◌+◌, ◌-◌, ◌^◌, min, Bool, true, false, List, [], ◌∷◌, ◌++◌, Some, None, Option}
use Rattle.refusals.specs.declared.Refusal.{Refusal}
use Rattle.refusals.specs.declared.Refusal.TheVariants.{Unreadable}
use Rattle.messages.specs.declared.command.Command.{Command}
use Rattle.messages.specs.declared.command.Command.TheVariants.{Map, Level, Window, Set, Tower, Coarse}
use Rattle.messages.specs.Writing.{refusal_text, answer_text}
use Rattle.viewer.specs.Originals.{Original, answered, answer, next}
use Rattle.drafts.specs.Given.{Given, no_rows, with_row, map_refusal, map_given}
use Rattle.texts.specs.Words.{lines, words}
use Rattle.texts.specs.Commands.{command, is_row, row}

pub record State : Type 0 where
  pub line : ℕ
  pub given : Option Given
  pub original : Option Original

unfoldable pub start : State
start = record { line = 0; given = None; original = None }

-- lines are counted from 0, as far as 64 bits go
abbrev pub next_line : ℕ → ℕ
next_line n = min (n + 1) (2 ^ 64 - 1)

-- a map that is refused leaves the one before it
abbrev pub map_or : Option Refusal → Option Original → Original → Option Original
map_or (Some e) before map = before
map_or None before map = Some map

abbrev pub ended : Option Given → Option Original → Option Original
ended None before = before
ended (Some g) before = map_or (map_refusal g) before (map_given g)

abbrev pub ended_text : Option Given → List ℕ
ended_text None = []
ended_text (Some g) = answer_text (answered (map_refusal g) [])

abbrev pub rows_ended : State → State
rows_ended s = record { line = s.line; given = None; original = ended s.given s.original }

-- `map K` begins the rows of a map, any other command asks something of the map that there is
abbrev pub begins : Command → Option Given
begins (Map k) = Some (no_rows k)
begins (Level l) = None
begins (Window x y wide high) = None
begins (Set x y height) = None
begins Tower = None
begins (Coarse l) = None

abbrev pub unless_begun : Option Given → List ℕ → List ℕ
unless_begun (Some g) text = []
unless_begun None text = text

abbrev pub obeyed : Option Original → Command → Option Original
obeyed None c = None
obeyed (Some o) c = Some (next o c)

-- before the first map any other command cannot be read
abbrev pub obeyed_text : (line : ℕ) → Option Original → Command → List ℕ
obeyed_text n None c = unless_begun (begins c) (refusal_text (Unreadable n))
obeyed_text n (Some o) c = answer_text (answer o c)

-- an empty line answers nothing
abbrev pub unread_text : (line : ℕ) → (words : List (List ℕ)) → List ℕ
unread_text n [] = []
unread_text n (w ∷ ws) = refusal_text (Unreadable n)

abbrev pub asked_given : Option Command → Option Given
asked_given None = None
asked_given (Some c) = begins c

abbrev pub asked : Option Original → Option Command → Option Original
asked o None = o
asked o (Some c) = obeyed o c

abbrev pub asked_text : (line : ℕ) → Option Original → (words : List (List ℕ)) → Option Command → List ℕ
asked_text n o ws None = unread_text n ws
asked_text n o ws (Some c) = obeyed_text n o c

-- the map of which a line is a row, if it is one
abbrev pub row_of : Bool → Option Given → Option Given
row_of true g = g
row_of false g = None

abbrev pub taken_by : Option Given → State → List ℕ → State
taken_by (Some g) s line = record { line = next_line s.line; given = Some (with_row g s.line (row line)); original = s.original }
taken_by None s line = record { line = next_line s.line; given = asked_given (command line); original = asked (ended s.given s.original) (command line) }

abbrev pub text_by : Option Given → State → List ℕ → List ℕ
text_by (Some g) s line = []
text_by None s line = ended_text s.given ++ asked_text s.line (ended s.given s.original) (words line) (command line)

unfoldable pub taken : State → List ℕ → State
taken s line = taken_by (row_of (is_row line) s.given) s line

unfoldable pub taken_text : State → List ℕ → List ℕ
taken_text s line = text_by (row_of (is_row line) s.given) s line

unfoldable pub after : State → List (List ℕ) → State
after s [] = s
after s (line ∷ rest) = after (taken s line) rest

unfoldable pub said : State → List (List ℕ) → List ℕ
said s [] = []
said s (line ∷ rest) = taken_text s line ++ said (taken s line) rest

unfoldable pub session_text : List ℕ → List ℕ
session_text text = said start (lines text) ++ ended_text (after start (lines text)).given
