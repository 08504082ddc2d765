-- Lines taken one after the other. Assumes nothing.
use Rattle.std.proofs.Common.{◌≡◌, ℕ, List, [], ◌∷◌, ◌++◌, sym, refl, ◌∙◌, append_assoc, append-nil}
use Rattle.sessions.specs.declared.Session.{Session}
use Rattle.sessions.specs.Runs.{State, taken, taken_text, after, said}
use Rattle.sessions.specs.Stands.{Stands, Went}

-- the session stands for a state from which the lines that are left lead to where all lines lead
pub record Midway (s : State) (all : List (List ℕ)) (before : List ℕ) (c : Session) (written : List ℕ) (left : List (List ℕ)) : Type 0 where
  pub state : State
  pub stands : Stands c state
  pub ahead : after state left ≡ after s all
  pub says : written ++ said state left ≡ before ++ said s all

abbrev pub Sofar : (first : Session) (before : List ℕ) (all : List (List ℕ)) (c : Session) (written : List ℕ) (left : List (List ℕ)) → Type 0
Sofar first before all c written left = (s : State) → Stands first s → Midway s all before c written left

pub none_yet : (first : Session) (before : List ℕ) (all : List (List ℕ)) → Sofar first before all first before all
none_yet first before all s o = record { state = s; stands = o; ahead = refl; says = refl }

pub line_more : {first : Session} {before : List ℕ} {all : List (List ℕ)} {c next : Session} {written then line : List ℕ} {left later : List (List ℕ)} → Sofar first before all c written left → left ≡ line ∷ later →
    ((s : State) → Stands c s → Went (taken s line) (taken_text s line) next written then) → Sofar first before all next then later
unfolding after said
line_more {line} m e step s o =
    let mid = m s o in
    let went = step mid.state mid.stands in
    record {
      state = taken mid.state line;
      stands = went.stands;
      ahead = rw e at mid.ahead;
      says = rw (went.says, append_assoc) (rw e at mid.says);
    }

pub no_more : {first : Session} {before : List ℕ} {all : List (List ℕ)} {c : Session} {written : List ℕ} {left : List (List ℕ)} → Sofar first before all c written left → left ≡ [] → (s : State) → Stands first s → Went (after s all) (said s all) c before written
unfolding after said
no_more m e s o =
    let mid = m s o in
    record { stands = rw (← rw e at mid.ahead) mid.stands; says = sym (append-nil _) ∙ (rw e at mid.says) }
