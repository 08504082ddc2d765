-- The rows of a map as they are given, and whether they make one. Assumes nothing: these are definitions.
--     Given               k, the rows that could be read, and the line of the first that could not
--     with_row            one row more, on a line
--     rows_wrong          the first place, counted row by row, that is missing, too many or no height
--     map_refusal         when the rows make no map
--     map_given           the map that they make
use Rattle.std.specs.Prelude.{ℕ, zero, suc, ◌+◌, List, [], ◌∷◌, ◌++◌, ℤ, Some, None, Option, nat_lt}
use Rattle.std.specs.List.{flat_map}
use Rattle.std.specs.Option.{option_or}
use Rattle.levels.specs.Maps.{power}
use Rattle.levels.specs.Numbering.{map_in}
use Rattle.maps.specs.Limits.{max_k}
use Rattle.refusals.specs.declared.Refusal.{Refusal}
use Rattle.refusals.specs.declared.Refusal.TheVariants.{TooManyLevels, Unreadable}
use Rattle.refusals.specs.Refusals.{refused_if}
use Rattle.tower.specs.Checks.{first_wrong, wrong_at}
use Rattle.viewer.specs.Originals.{Original}

pub record Given : Type 0 where
  pub k : ℕ
  pub rows : List (List ℤ)
  pub unreadable : Option ℕ

unfoldable pub no_rows : ℕ → Given
no_rows k = record { k = k; rows = []; unreadable = None }

unfoldable pub with_row : Given → (line : ℕ) → Option (List ℤ) → Given
with_row g line None = record { k = g.k; rows = g.rows; unreadable = option_or g.unreadable (Some line) }
with_row g line (Some row) = record { k = g.k; rows = g.rows ++ row ∷ []; unreadable = g.unreadable }

-- of n rows of s places, the first of which is counted as `at`
unfoldable pub rows_wrong : (s n at : ℕ) → List (List ℤ) → Option ℕ
rows_wrong s zero at [] = None
rows_wrong s zero at (row ∷ rows) = Some at
rows_wrong s (suc n) at [] = Some at
rows_wrong s (suc n) at (row ∷ rows) = option_or (first_wrong s at row) (rows_wrong s n (at + s) rows)

abbrev pub unreadable_at : Option ℕ → Option Refusal → Option Refusal
unreadable_at (Some line) later = Some (Unreadable line)
unreadable_at None later = later

unfoldable pub map_refusal : Given → Option Refusal
map_refusal g =
    refused_if (nat_lt max_k g.k) (TooManyLevels g.k)
    (unreadable_at g.unreadable
    (wrong_at (rows_wrong (power g.k) (power g.k) 0 g.rows) None))

-- seen from its finest level
unfoldable pub map_given : Given → Original
map_given g = record { k = g.k; level = 0; heights = map_in (power g.k) (flat_map (λ row. row) g.rows) }
