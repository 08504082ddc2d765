use Rattle.std.proofs.Common.{◌≡◌, ℕ, ◌+◌, ◌+ℤ◌, w32}
use Rattle.std.specs.Int.{int_wrap}
use Rattle.levels.specs.Maps.{Map}
use Rattle.levels.specs.Numbering.{Holds}
use Rattle.maps.specs.Sizes.{Covers}
use Rattle.places.proofs.height_at.Given as goal

-- the tower holds some coarser map too, and with what is summed up the place there is the height that is wanted
abbrev pub invariant-loop-place : goal.invariant-loop-place
invariant-loop-place l =
    ((k : ℕ) (p : Map) → Holds k l.initial.place.size.wide l.initial.place.size.high l.tower p → (j : ℕ) × (q : Map) × Holds j l.place.size.wide l.place.size.high l.tower q × (int_wrap w32 (q l.place.x l.place.y +ℤ l.above) ≡ p l.initial.place.x l.initial.place.y))
    × Covers l.place.size l.tower

abbrev pub decreases-loop-place : goal.decreases-loop-place
decreases-loop-place l = l.place.size.wide + l.place.size.high
