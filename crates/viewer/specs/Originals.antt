-- What commands answer, by the map itself and copies halved from it. Assumes nothing: these are definitions.
--     Original            a map as it was given and changed, and the level that is looked at
--     seen                the map halved so often
--     answer, next        what a command answers, and the map and level after it
use Rattle.std.specs.Prelude.{ℕ, ◌-◌, ◌*◌, List, [], ◌∷◌, ℤ, pos, Some, None, Option, nat_lt}
use Rattle.levels.specs.Maps as Maps
use Rattle.levels.specs.Maps.{power, with_height}
use Rattle.levels.specs.Listing.{rows_at, tower_list}
use Rattle.refusals.specs.declared.Refusal.{Refusal}
use Rattle.refusals.specs.declared.Refusal.TheVariants.{NoSuchLevel}
use Rattle.refusals.specs.Refusals.{refused_if}
use Rattle.tower.specs.Checks.{places, window_refusal, change_refusal}
use Rattle.parts.specs.Parts.{coarse_refusal}
use Rattle.messages.specs.declared.command.Command.{Command}
use Rattle.messages.specs.declared.command.Command.TheVariants.{Map, Level, Window, Set, Tower, Coarse}
use Rattle.messages.specs.Writing.{Answer, rows, refused}

-- a map of 2^k by 2^k places
pub record Original : Type 0 where
  pub k : ℕ
  pub level : ℕ
  pub heights : Maps.Map

unfoldable pub seen : Original → ℕ → Maps.Map
seen o l = Maps.level l (power o.k) (power o.k) o.heights

unfoldable pub level_refusal : Original → ℕ → Option Refusal
level_refusal o l = refused_if (nat_lt o.k l) NoSuchLevel None

abbrev pub answered : Option Refusal → List (List ℤ) → Answer
answered (Some e) rs = refused e
answered None rs = rows rs

-- a map is answered when its rows have ended; its own line answers nothing
unfoldable pub answer : Original → Command → Answer
answer o (Map k) = rows []
answer o (Level l) = answered (level_refusal o l) []
answer o (Window x y w h) = answered (window_refusal o.k (places o.k) o.level x y w h (w * h)) (rows_at x y w h (seen o o.level))
answer o (Set x y g) = answered (change_refusal o.k (places o.k) x y g) []
answer o Tower = rows (tower_list o.k (power o.k) (power o.k) o.heights ∷ [])
answer o (Coarse l) = answered (coarse_refusal o.k (places o.k) l) (tower_list (o.k - l) (power (o.k - l)) (power (o.k - l)) (seen o l) ∷ [])

-- what is refused changes nothing
abbrev pub unless : Option Refusal → Original → Original → Original
unless (Some e) same other = same
unless None same other = other

unfoldable pub next : Original → Command → Original
next o (Map k) = o
next o (Level l) = unless (level_refusal o l) o (record { k = o.k; level = l; heights = o.heights })
next o (Window x y w h) = o
next o (Set x y g) = unless (change_refusal o.k (places o.k) x y g) o (record { k = o.k; level = o.level; heights = with_height o.heights x y (pos g) })
next o Tower = o
next o (Coarse l) = o
