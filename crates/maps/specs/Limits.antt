-- The limits of a map. Assumes nothing: these are definitions.
--     max_k, max_side     the most levels and the longest side; the largest height is max_height of the crate pairs
use Rattle.std.specs.Prelude.{ℕ}

abbrev pub max_k : ℕ
max_k = 7

abbrev pub max_side : ℕ
max_side = 128
