-- One place of a line of heights, and the difference of its pair. Assumes nothing: these are definitions.
--     Heights             each of the n places of a line has a height
--     DifferenceAt        the difference of the pair that a place is in stands at an index of a list, if the pair is whole
use Rattle.std.specs.Prelude.{◌≡◌, ℕ, ◌+◌, ◌*◌, ◌/◌, ◌<◌, List, ℤ, pos, slice_index_or}
use Rattle.pairs.specs.Pairs.{Height}
use Rattle.levels.specs.Maps.{apart}

abbrev pub Heights : ℕ → (ℕ → ℤ) → Type 0
Heights n f = (i : ℕ) → i < n → Height (f i)

abbrev pub DifferenceAt : (n : ℕ) (f : ℕ → ℤ) (x : ℕ) (ts : List ℤ) (i : ℕ) → Type 0
DifferenceAt n f x ts i = 2 * (x / 2) + 1 < n → slice_index_or ts i (pos 0) ≡ apart f (x / 2)
