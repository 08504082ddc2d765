-- What is said of any size, in the words of 2^k by 2^k places. Assumes nothing.
use Rattle.std.proofs.Common.{◌≡◌, ℕ, ◌-◌, ◌<◌, ◌≤◌, List, ℤ, sym, ◌∙◌}
use Rattle.levels.specs.Maps.{Map, power, level}
use Rattle.levels.specs.Towers as Sized
use Rattle.levels.specs.Numbering as SizedNumbers
use Rattle.levels.specs.Numbering.{Holds}
use Rattle.levels.specs.Square as Square
use Rattle.levels.proofs.Held.{level_held}
use Rattle.levels.proofs.Squares.{size_power, size_end, whole, level_whole, towers_same, numbering_same, to_square, from_square, same_sym, same_trans}
use Rattle.levels.proofs.SquareLaws.{shows_held_lem}
use Rattle.tower.specs.Calls.{IsTowerOf}

module _ (k : ℕ) (ts : List ℤ) (p : Map) where
  pub to_tower : Holds k (power k) (power k) ts p → IsTowerOf k ts p
  to_tower o = record {
    heights = o.heights;
    same = same_trans k (Square.tower_in k ts) (Sized.tower k (power k) (power k) p) (Square.tower k p)
        (same_trans k (Square.tower_in k ts) (SizedNumbers.tower_in (power k) (power k) ts) (Sized.tower k (power k) (power k) p)
        (same_sym k (SizedNumbers.tower_in (power k) (power k) ts) (Square.tower_in k ts) (numbering_same k ts)) (to_square k _ _ o.same))
        (towers_same k p);
  }

  pub from_tower : IsTowerOf k ts p → Holds k (power k) (power k) ts p
  from_tower o = record {
    wide = size_end k;
    high = size_end k;
    heights = o.heights;
    same = from_square k _ _ (same_trans k (SizedNumbers.tower_in (power k) (power k) ts) (Square.tower k p) (Sized.tower k (power k) (power k) p)
        (same_trans k (SizedNumbers.tower_in (power k) (power k) ts) (Square.tower_in k ts) (Square.tower k p) (numbering_same k ts) o.same)
        (same_sym k (Sized.tower k (power k) (power k) p) (Square.tower k p) (towers_same k p)));
  }

  -- the tower of a level, of the level's own side
  pub level_tower : (l s : ℕ) → l ≤ k → s ≡ power (k - l) → Holds k (power k) (power k) ts p → Holds (k - l) s s ts (level l (power k) (power k) p)
  level_tower l s lk e o = rw e (rw (size_power k l lk) at (level_held l k (power k) (power k) ts p lk o))

  -- what is shown at a level, in those words
  pub level_shown : (l x y : ℕ) → l ≤ k → x < power (k - l) → y < power (k - l) → IsTowerOf k ts p → level l (power k) (power k) p x y ≡ Square.at_level k (Square.tower_in k ts) l x y
  level_shown l x y lk hx hy o = level_whole l (power k) (power k) p x y (whole k l x lk hx) (whole k l y lk hy) ∙ sym (shows_held_lem k l (Square.tower_in k ts) p x y lk hx hy o.same)
