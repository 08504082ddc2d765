-- Four heights that become one. Assumes nothing: these are definitions.
--     QuadOf              a quad is that of the heights a b, and c d below them: rows are halved first, then the two means
--     numbers             its numbers in the order of a tower
use Rattle.std.specs.Prelude.{◌≡◌, List, [], ◌∷◌, ℤ}
use Rattle.pairs.specs.Pairs.{mean_of, difference_of}
use Rattle.maps.specs.declared.quad.Quad.{Quad}

pub record QuadOf (a b c d : ℤ) (q : Quad) : Type 0 where
  pub mean : q.mean ≡ mean_of (mean_of a b) (mean_of c d)
  pub down : q.down ≡ difference_of (mean_of a b) (mean_of c d)
  pub upper : q.upper ≡ difference_of a b
  pub lower : q.lower ≡ difference_of c d

abbrev pub numbers : Quad → List ℤ
numbers q = q.mean ∷ q.down ∷ q.upper ∷ q.lower ∷ []
