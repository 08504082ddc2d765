-- A draft, which keeps the heights alone, stands for the rows that were given. Assumes nothing: these are definitions.
use Rattle.std.specs.Prelude.{◌≡◌, ℕ, zero, suc, ◌+◌, ◌≤◌, List, [], ◌∷◌, ℤ, Some, None, vec_items, Option}
use Rattle.std.specs.List.{flat_map}
use Rattle.std.specs.Option.{option_or}
use Rattle.levels.specs.Maps.{power}
use Rattle.maps.specs.Limits.{max_k}
use Rattle.tower.specs.Checks.{places, first_wrong, wrong_at, build_refusal}
use Rattle.tower.specs.Known.{SideOf}
use Rattle.refusals.specs.declared.Refusal.{Refusal}
use Rattle.refusals.specs.Refusals.{refused_text}
use Rattle.messages.specs.Writing.{failure_text}
use Rattle.drafts.specs.declared.Draft.{Draft}
use Rattle.drafts.specs.declared.MapError.{MapError}
use Rattle.drafts.specs.declared.MapError.TheVariants.{Refused, OutOfMemory}
use Rattle.drafts.specs.Given.{Given, unreadable_at, map_refusal}

-- the first wrong place in the rows so far, whatever rows are missing
unfoldable pub wrong_so_far : (s n at : ℕ) → List (List ℤ) → Option ℕ
wrong_so_far s n at [] = None
wrong_so_far s zero at (row ∷ rows) = Some at
wrong_so_far s (suc n) at (row ∷ rows) = option_or (first_wrong s at row) (wrong_so_far s n (at + s) rows)

-- what the rows so far are refused for
abbrev pub refused_so_far : Given → Option Refusal
refused_so_far g = unreadable_at g.unreadable (wrong_at (wrong_so_far (power g.k) (power g.k) 0 g.rows) None)

-- rows of a map that is too large do not matter, and heights are kept as long as nothing is refused
pub record Drafts (d : Draft) (g : Given) : Type 0 where
  pub k : d.k ≡ g.k
  pub refusal : g.k ≤ max_k → d.refusal ≡ refused_so_far g
  pub kept : g.k ≤ max_k → d.refusal ≡ None → vec_items d.heights ≡ flat_map (λ row. row) g.rows

-- nothing is wrong with the rows, though some may be missing: it is told by the heights alone
pub record Whole (g : Given) (heights : List ℤ) (side : ℕ) : Type 0 where
  pub side_of : SideOf g.k side
  pub refusal : map_refusal g ≡ build_refusal g.k heights (places g.k)
  pub all : heights ≡ flat_map (λ row. row) g.rows

-- why no map is made: what the rows are refused for, or want of memory, which nothing tells beforehand
abbrev pub Refuses : Option Refusal → MapError → Type 0
Refuses refusal (Refused e) = refusal ≡ Some e
Refuses refusal (OutOfMemory _) = Unit {0}

-- how that prints
abbrev pub error_text : MapError → List ℕ
error_text (Refused e) = refused_text e
error_text (OutOfMemory _) = failure_text
