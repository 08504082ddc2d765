-- What a session stands for after a step. Assumes nothing.
use Rattle.std.proofs.Common.{◌≡◌, ℕ, Bool, true, false, List, [], ◌++◌, is_some, IfOk, MatchResult, Some, None, Ok, Err, Option, Result, sym, refl, ap, ◌∙◌, append_assoc, append-nil}
use Rattle.std.proofs.lemmas.Result.{IfOk-weaker}
use Rattle.std.proofs.lemmas.Bool.{true≢false}
use Rattle.refusals.specs.declared.Refusal.{Refusal}
use Rattle.messages.specs.declared.command.Command.TheVariants.{Map}
use Rattle.messages.specs.Writing.{refusal_text, answer_text}
use Rattle.viewer.specs.declared.Viewer.{Viewer}
use Rattle.viewer.specs.Originals.{Original, answer, next}
use Rattle.viewer.specs.Shows.{Shows}
use Rattle.drafts.specs.declared.Draft.{Draft}
use Rattle.drafts.specs.declared.MapError.{MapError}
use Rattle.drafts.specs.declared.MapError.TheVariants.{Refused}
use Rattle.drafts.specs.Given.{Given, no_rows, with_row, map_refusal, map_given}
use Rattle.drafts.specs.Drafts.{Drafts, Refuses}
use Rattle.drafts.proofs.Rows.{none_from}
use Rattle.texts.specs.Words.{words}
use Rattle.texts.specs.Commands.{command, is_row, row}
use Rattle.sessions.specs.declared.Session.{Session}
use Rattle.sessions.specs.Runs.{State, next_line, ended, rows_ended, ended_text, begins, obeyed, obeyed_text, asked_given, asked, asked_text, row_of, taken, taken_text}
use Rattle.sessions.specs.Stands.{Both, Stands, Went}

-- what a draft says when its rows have ended
abbrev pub Finished : Draft → Result Viewer MapError → Type 0
Finished d m = (g : Given) → Drafts d g → MatchResult m (λ v. (map_refusal g ≡ None) × Shows v (map_given g)) (Refuses (map_refusal g))

rows_taken : (d : Draft) (v : Viewer) (given : Option Given) (before : Option Original) → Finished d (Ok v) → Both Drafts (Some d) given → Both Shows (Some v) (ended given before) × (ended_text given ≡ [])
unfolding answer_text
rows_taken d v None before f o = absurd o
rows_taken d v (Some g) before f o = let t = f g o in (rw t.0 t.1, rw t.0)

rows_refused : (d : Draft) (e : Refusal) (given : Option Given) (before : Option Original) → Finished d (Err (Refused e)) → Both Drafts (Some d) given → (ended given before ≡ before) × (ended_text given ≡ refusal_text e)
unfolding answer_text
rows_refused d e None before f o = absurd o
rows_refused d e (Some g) before f o = (rw (f g o), rw (f g o))

module _ {c : Session} {s : State} (o : Stands c s) where
  pub end_taken : (d : Draft) (v : Viewer) (after : Session) (text : List ℕ) → c.draft ≡ Some d → Finished d (Ok v) → after.line ≡ c.line → after.draft ≡ None → after.viewer ≡ Some v → Went (rows_ended s) (ended_text s.given) after text text
  end_taken d v after text ed f el en ev =
      let t = rows_taken d v s.given s.original f (rw ed at o.draft) in
      record { stands = record { line = el ∙ o.line; draft = rw en tt; viewer = rw ev t.0 }; says = rw t.1 (sym (append-nil text)) }

  pub end_refused : (d : Draft) (e : Refusal) (after : Session) (text written : List ℕ) → c.draft ≡ Some d → Finished d (Err (Refused e)) → after.line ≡ c.line → after.draft ≡ None → after.viewer ≡ c.viewer → written ≡ text ++ refusal_text e → Went (rows_ended s) (ended_text s.given) after text written
  end_refused d e after text written ed f el en ev w =
      let t = rows_refused d e s.given s.original f (rw ed at o.draft) in
      record { stands = record { line = el ∙ o.line; draft = rw en tt; viewer = rw (ev, t.0) o.viewer }; says = rw t.1 w }

-- `map K` changes nothing of the map that is looked at, and answers nothing
map_keeps : (k n : ℕ) (before : Option Original) → (obeyed before (Map k) ≡ before) × (obeyed_text n before (Map k) ≡ [])
unfolding next answer answer_text
map_keeps k n None = (refl, refl)
map_keeps k n (Some o) = (refl, refl)

module _ {c : Session} {s : State} (o : Stands c s) where
  pub map_begun : (n k : ℕ) (d : Draft) (after : Session) (text : List ℕ) → Drafts d (no_rows k) → after.line ≡ c.line → after.draft ≡ Some d → after.viewer ≡ c.viewer →
      Went (record { line = s.line; given = begins (Map k); original = obeyed s.original (Map k) }) (obeyed_text n s.original (Map k)) after text text
  map_begun n k d after text od el ed ev =
      let m = map_keeps k n s.original in
      record { stands = record { line = el ∙ o.line; draft = rw ed od; viewer = rw (ev, m.0) o.viewer }; says = rw m.1 (sym (append-nil text)) }

  -- the line is counted
  abbrev pub counted : State
  counted = record { line = next_line s.line; given = s.given; original = s.original }

  pub one_more : (after : Session) → after.line ≡ next_line c.line → after.draft ≡ c.draft → after.viewer ≡ c.viewer → Stands after counted
  one_more after el ed ev = record { line = el ∙ ap next_line o.line; draft = rw ed o.draft; viewer = rw ev o.viewer }

  module _ (line : List ℕ) where
    pub row_taken : {X Y : Type 0} (r : Result X Y) (after : Session) (text : List ℕ) → true ≡ is_some (row_of (is_row line) s.given) →
        ((g : Given) → s.given ≡ Some g → IfOk r (λ _. Stands after (record { line = next_line s.line; given = Some (with_row g c.line (row line)); original = s.original }))) → IfOk r (λ _. Went (taken s line) (taken_text s line) after text text)
    unfolding taken taken_text
    row_taken r after text t put =
        let g = which (is_row line) s.given t in
        IfOk-weaker r _ _ (λ _ st. record { stands = rw g.2 (rw o.line at st); says = rw g.2 (sym (append-nil text)) }) (put g.0 g.1)
      where
        which : (b : Bool) (given : Option Given) → true ≡ is_some (row_of b given) → (g : Given) × (given ≡ Some g) × (row_of b given ≡ Some g)
        which true None e = absurd (true≢false e)
        which true (Some g) e = (g, refl, refl)
        which false given e = absurd (true≢false e)

    pub other_taken : {X Y : Type 0} (r : Result X Y) (between after : Session) (text then written : List ℕ) → false ≡ is_some (row_of (is_row line) s.given) →
        Went (record { line = next_line s.line; given = None; original = ended s.given s.original }) (ended_text s.given) between text then →
        IfOk r (λ _. Went (record { line = next_line s.line; given = asked_given (command line); original = asked (ended s.given s.original) (command line) }) (asked_text c.line (ended s.given s.original) (words line) (command line)) after then written) →
        IfOk r (λ _. Went (taken s line) (taken_text s line) after text written)
    unfolding taken taken_text
    other_taken r between after text then written t ends asks =
        let none : row_of (is_row line) s.given ≡ None = none_from _ (sym t) in
        IfOk-weaker r _ _ (λ _ w. record { stands = rw none w.stands; says = rw none (w.says ∙ rw (ends.says, o.line) (append_assoc text (ended_text s.given) _)) }) asks
