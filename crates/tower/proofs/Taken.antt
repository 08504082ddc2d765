-- What the calls answer and leave. Assumes nothing.
use Rattle.std.proofs.Common.{◌≡◌, ℕ, ◌+◌, ◌-◌, List, length, ℤ, pos, Some, None, Ok, Err, Option, Result, refl, ◌∙◌, arith}
use borrow.Author.Differences.{ints}
use Rattle.std.specs.List.{ContainsAt}
use Rattle.pairs.specs.Pairs.{Height}
use Rattle.levels.specs.Maps.{Map, power, size, level, with_height}
use Rattle.levels.specs.Numbering.{Holds, map_in, touched}
use Rattle.levels.proofs.Squares.{size_end}
use Rattle.levels.proofs.Touched.{few}
use Rattle.maps.specs.Rows.{line}
use Rattle.maps.specs.declared.HeightMap.{HeightMap}
use Rattle.places.specs.declared.Place.{Place}
use Rattle.windows.specs.Areas.{IsOf, Shows}
use Rattle.windows.specs.declared.area.Area.{Area}
use Rattle.refusals.specs.declared.Refusal.{Refusal}
use Rattle.tower.specs.Checks.{places}
use Rattle.tower.specs.Known.{CanBuild, CanChange, CanShowArea}
use Rattle.tower.specs.Calls.{BuiltTower, ChangedTower, ShownWindow, Answered}
use Rattle.tower.proofs.Squared.{to_tower, from_tower, level_tower, level_shown}

module _ {X : Type 0} (f : Option Refusal) (d : X) (was : List ℤ) (taken : Type 0) where
  pub answer_refused : (r : Result X Refusal) (e : Refusal) → f ≡ Some e → r ≡ Err e → Answered f r d was was taken
  answer_refused r e q p = rw q (p, refl)

  pub answer_taken : (after : List ℤ) → f ≡ None → taken → Answered f (Ok d) d was after taken
  answer_taken after q t = rw q (refl, t)

pub built : (k n : ℕ) (hs after : List ℤ) (m : HeightMap) → CanBuild k hs n m → length after ≡ n →
    ((j : ℕ) → size j m.size.wide ≡ 1 → size j m.size.high ≡ 1 → Holds j m.size.wide m.size.high after (map_in m.size.wide m.heights.now)) → BuiltTower k hs after
unfolding places
built k n hs after m o el holds =
    let e = o.side.value in
    let one = size_end k in
    let h = (rw (o.square, e, o.heights) at holds) k one one in
    record { length_is = el ∙ o.room ∙ rw e refl; holds = h; square = to_tower k after (map_in (power k) hs) h }

pub changed : (k n x y g : ℕ) (z : ℤ) (ts after : List ℤ) (q : Place) → z ≡ pos g → CanChange k n x y g q → length after ≡ length ts →
    ((j : ℕ) (p : Map) → Holds j q.size.wide q.size.high ts p → Height z → Holds j q.size.wide q.size.high after (with_height p q.x q.y z)) →
    ((j i : ℕ) → size j q.size.wide ≡ 1 → size j q.size.high ≡ 1 → (ContainsAt (touched j q.size.wide q.size.high q.x q.y) i → ⊥) → line after i ≡ line ts i) → ChangedTower k ts x y g after
changed k n x y g z ts after q ez o el holds rest =
    let e = o.side.value in
    let one = size_end k in
    let hg : Height (pos g) = let h = o.height in omega (arith, ints) in
    let hold = λ (p : Map) (t : Holds k (power k) (power k) ts p). (rw (o.square, e, o.place.0, o.place.1, ez) at holds) k p t hg in
    record {
      length_is = el;
      few = few k (power k) (power k) x y;
      rest = λ i. (rw (o.square, e, o.place.0, o.place.1) at rest) k i one one;
      holds = hold;
      square = λ p t. to_tower k after (with_height p x y (pos g)) (hold p (from_tower k ts p t));
    }

pub shown : (k l x y w h m : ℕ) (ts after : List ℤ) (a : Area) → CanShowArea k ts l x y w h m a → length after ≡ m →
    ((j : ℕ) (p : Map) → IsOf a j p → Shows a after p) → ShownWindow k ts l x y w h after
shown k l x y w h m ts after a o el window =
    let e = o.side.value in
    let seen = rw (o.square, o.tower, o.from.0, o.from.1, o.extent.0, o.extent.1) at window in
    let shows = λ (p : Map) (t : Holds k (power k) (power k) ts p). seen (k - l) (level l (power k) (power k) p) (level_tower k ts p l a.size.wide o.level e t) in
    let ax = rw (o.from.0, o.extent.0) at a.across in
    let ay = rw (o.square, o.from.1, o.extent.1) at a.down in
    record {
      length_is = el ∙ o.room;
      shows = shows;
      square = λ p t u v hu hv. shows p (from_tower k ts p t) u v hu hv ∙ level_shown k ts p l (x + u) (y + v) o.level (omega arith) (omega arith) t;
    }
