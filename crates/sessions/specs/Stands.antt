-- A session, which has no map but a tower, stands for a state of a run. Assumes nothing: these are definitions.
use Rattle.std.specs.Prelude.{◌≡◌, ℕ, List, ◌++◌, Some, None, Option, Result, OnOk, String, string_bytes}
use Rattle.viewer.specs.Shows.{Shows}
use Rattle.drafts.specs.Drafts.{Drafts}
use Rattle.sessions.specs.declared.Session.{Session}
use Rattle.sessions.specs.Runs.{State}

-- neither is there, or both are and the one stands for the other
abbrev pub Both : {X Y : Type 0} → (X → Y → Type 0) → Option X → Option Y → Type 0
Both R None None = Unit {0}
Both R None (Some y) = ⊥
Both R (Some x) None = ⊥
Both R (Some x) (Some y) = R x y

pub record Stands (c : Session) (s : State) : Type 0 where
  pub line : c.line ≡ s.line
  pub draft : Both Drafts c.draft s.given
  pub viewer : Both Shows c.viewer s.original

-- what was to be said is written, and the session stands for what comes next
pub record Went (next : State) (said : List ℕ) (after : Session) (before written : List ℕ) : Type 0 where
  pub stands : Stands after next
  pub says : written ≡ before ++ said

-- whatever state it stands for, a call that is done leads to the next and says its text
abbrev pub Moves : {Z E : Type 0} → Result (Unit {0}) E → Session → (next : State → State) → (said : State → List ℕ) → (after : Session) → (out written : String Z) → Type 0
Moves result c next said after out written = (s : State) → Stands c s → OnOk result (Went (next s) (said s) after (string_bytes out) (string_bytes written))
