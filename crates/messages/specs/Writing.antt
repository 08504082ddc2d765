-- Answers as text. Bytes are numbers below 256. Assumes nothing: these are definitions.
--     row_text            numbers in one line, parted by one blank
--     refusal_text        a refusal in one line
--     failure_text        want of memory
--     rows_of             numbers that stand row by row, cut into rows
--     Answer, answer_text what a command answers, and its text: rows of numbers, one to a line, or a refusal; a command that prints nothing answers no rows
use Rattle.std.specs.Prelude.{ℕ, ◌*◌, List, [], ◌∷◌, ◌++◌, map, take, drop, ℤ, codes}
use Rattle.std.specs.List.{range_with_len, flat_map}
use Rattle.std.specs.Fmt.{signed_decimal}
use Rattle.refusals.specs.declared.Refusal.{Refusal}
use Rattle.refusals.specs.Refusals.{refused_text}

-- each behind a blank, and the line's end
unfoldable pub rest_text : List ℤ → List ℕ
rest_text [] = codes "\n"
rest_text (z ∷ zs) = codes " " ++ (signed_decimal z ++ rest_text zs)

unfoldable pub row_text : List ℤ → List ℕ
row_text [] = codes "\n"
row_text (z ∷ zs) = signed_decimal z ++ rest_text zs

unfoldable pub refusal_text : Refusal → List ℕ
refusal_text e = refused_text e ++ codes "\n"

abbrev pub failure_text : List ℕ
failure_text = codes "out of memory"

unfoldable pub rows_of : (wide high : ℕ) → List ℤ → List (List ℤ)
rows_of wide high zs = map (λ v. take wide (drop (v * wide) zs)) (range_with_len 0 high)

pub data Answer : Type 0 where
  rows : List (List ℤ) → Answer
  refused : Refusal → Answer

unfoldable pub answer_text : Answer → List ℕ
answer_text (rows rs) = flat_map row_text rs
answer_text (refused e) = refusal_text e
