-- A text in pieces that end with their lines. Assumes nothing.
use Rattle.std.proofs.Common.{◌≡◌, ℕ, Bool, true, false, List, [], ◌∷◌, ◌++◌, sym, refl, ap, ◌∙◌, append_assoc, append-nil}
use Rattle.std.specs.List.{slice_split, onto_first}
use Rattle.std.proofs.lemmas.List.Splits.{slice_split-cons_yes, slice_split-cons_no}
use Rattle.texts.specs.Words.{is_end, but_last_empty, lines}
use Rattle.texts.proofs.Pieces.{kept_before}
use Rattle.sessions.specs.Runs.{State, taken, taken_text, after, said}
use Rattle.sessions.specs.Laws.{RunsInPieces}

after_both : (s : State) (ls ms : List (List ℕ)) → after s (ls ++ ms) ≡ after (after s ls) ms
unfolding after
after_both s [] ms = refl
after_both s (l ∷ ls) ms = after_both (taken s l) ls ms

said_both : (s : State) (ls ms : List (List ℕ)) → said s (ls ++ ms) ≡ said s ls ++ said (after s ls) ms
unfolding after said
said_both s [] ms = refl
said_both s (l ∷ ls) ms = rw (said_both (taken s l) ls ms) (sym (append_assoc (taken_text s l) (said (taken s l) ls) (said (after (taken s l) ls) ms)))

-- a text that ends with a line is cut into its lines and an empty rest, whatever follows
pub record Cut (front : List ℕ) : Type 0 where
  pub first : List ℕ
  pub more : List (List ℕ)
  pub parts : (rest : List ℕ) → slice_split is_end ((front ++ (10 ∷ [])) ++ rest) ≡ first ∷ (more ++ slice_split is_end rest)

cut : (front : List ℕ) → Cut front
cut [] = record { first = []; more = []; parts = λ rest. refl }
cut (b ∷ front) = go (is_end b) refl (cut front)
  where
    go : (t : Bool) → is_end b ≡ t → Cut front → Cut (b ∷ front)
    go true e c = record { first = []; more = c.first ∷ c.more; parts = λ rest. slice_split-cons_yes is_end b ((front ++ (10 ∷ [])) ++ rest) e ∙ ap (λ ps. [] ∷ ps) (c.parts rest) }
    go false e c = record { first = b ∷ c.first; more = c.more; parts = λ rest. slice_split-cons_no is_end b ((front ++ (10 ∷ [])) ++ rest) e ∙ ap (onto_first b) (c.parts rest) }

-- a last part that is empty is no line
kept : (ps : List (List ℕ)) (rest : List ℕ) → but_last_empty (ps ++ slice_split is_end rest) ≡ ps ++ but_last_empty (slice_split is_end rest)
unfolding but_last_empty
kept [] rest = refl
kept (p ∷ []) rest = kept_before is_end p rest
kept (p ∷ q ∷ ps) rest = ap (λ ls. p ∷ ls) (kept (q ∷ ps) rest)

cut_of : (front rest : List ℕ) → lines ((front ++ (10 ∷ [])) ++ rest) ≡ lines (front ++ (10 ∷ [])) ++ lines rest
unfolding lines but_last_empty
cut_of front rest =
    let c = cut front in
    let own = ap lines (sym (append-nil (front ++ (10 ∷ [])))) ∙ ap but_last_empty (c.parts []) ∙ kept (c.first ∷ c.more) [] ∙ append-nil (c.first ∷ c.more) in
    ap but_last_empty (c.parts rest) ∙ kept (c.first ∷ c.more) rest ∙ ap (λ ls. ls ++ lines rest) (sym own)

pub runs_in_pieces_lem : RunsInPieces
runs_in_pieces_lem s front rest =
    let cut : lines ((front ++ (10 ∷ [])) ++ rest) ≡ lines (front ++ (10 ∷ [])) ++ lines rest = cut_of front rest in
    record { state = rw cut (after_both s (lines (front ++ (10 ∷ []))) (lines rest)); text = rw cut (said_both s (lines (front ++ (10 ∷ []))) (lines rest)) }
