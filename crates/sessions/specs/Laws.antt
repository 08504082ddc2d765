-- The law of runs. Assumes nothing.
use Rattle.std.specs.Prelude.{◌≡◌, ℕ, List, [], ◌∷◌, ◌++◌}
use Rattle.texts.specs.Words.{lines}
use Rattle.sessions.specs.Runs.{State, after, said}

-- a text in pieces that end with their lines answers what the whole text answers: so lines can be taken as they come
pub record InPieces (s : State) (front rest : List ℕ) : Type 0 where
  pub state : after s (lines ((front ++ 10 ∷ []) ++ rest)) ≡ after (after s (lines (front ++ 10 ∷ []))) (lines rest)
  pub text : said s (lines ((front ++ 10 ∷ []) ++ rest)) ≡ said s (lines (front ++ 10 ∷ [])) ++ said (after s (lines (front ++ 10 ∷ []))) (lines rest)

abbrev pub RunsInPieces : Type 0
RunsInPieces = (s : State) (front rest : List ℕ) → InPieces s front rest
