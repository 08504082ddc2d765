-- A viewer, which has no map but its tower, stands for an original. Assumes nothing: these are definitions.
use Rattle.std.specs.Prelude.{◌≡◌, ℕ, List, ◌++◌, vec_items, String, string_bytes}
use Rattle.levels.specs.Maps.{power}
use Rattle.levels.specs.Numbering.{Holds}
use Rattle.messages.specs.declared.command.Command.{Command}
use Rattle.messages.specs.Writing.{answer_text}
use Rattle.viewer.specs.declared.Viewer.{Viewer}
use Rattle.viewer.specs.Originals.{Original, answer, next}

pub record Shows (v : Viewer) (o : Original) : Type 0 where
  pub k : v.k ≡ o.k
  pub level : v.level ≡ o.level
  pub holds : Holds o.k (power o.k) (power o.k) (vec_items v.tower) o.heights

-- a command was obeyed: its answer is written, and the viewer stands for what comes next
pub record Obeyed (o : Original) (command : Command) (after : Viewer) (said written : List ℕ) : Type 0 where
  pub shows : Shows after (next o command)
  pub says : written ≡ said ++ answer_text (answer o command)

-- whatever original it stands for
abbrev pub Obeys : {Z : Type 0} → Viewer → Command → (after : Viewer) → (out written : String Z) → Type 0
Obeys v command after out written = (o : Original) → Shows v o → Obeyed o command after (string_bytes out) (string_bytes written)

-- a command that changes nothing
abbrev pub Tells : {Z : Type 0} → Viewer → Command → (out written : String Z) → Type 0
Tells v command out written = (o : Original) → Shows v o → string_bytes written ≡ string_bytes out ++ answer_text (answer o command)
