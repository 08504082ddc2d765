-- The coarse part is the tower of the smaller map, and parts fit together. Assumes nothing.
use Rattle.std.proofs.Common.{◌≡◌, ℕ, ◌+◌, ◌-◌, ◌*◌, ◌≤◌, List, ◌++◌, length, take, drop, ℤ, pos, None, Option, refl, arith}
use Rattle.std.proofs.lemmas.List.{get_or-take, take_at, drop-drop, drop_all, append-nil, length-append, length-drop}
use Rattle.levels.specs.Maps.{Map, power, level}
use Rattle.levels.specs.Numbering.{Holds}
use Rattle.levels.proofs.Held.{held_by}
use Rattle.levels.proofs.Sizes.{power_pos}
use Rattle.levels.proofs.Squares.{whole, level_whole}
use Rattle.levels.proofs.SquareLaws as SquareLaws
use Rattle.refusals.specs.declared.Refusal.{Refusal}
use Rattle.tower.specs.Checks.{places}
use Rattle.tower.proofs.Squared.{from_tower, level_tower}
use Rattle.parts.specs.Parts.{coarse_of, CoarsePart, Handed}

pub coarse_part : (k l n : ℕ) (ts : List ℤ) → l ≤ k → n ≡ places (k - l) → CoarsePart k ts l (take n ts)
unfolding coarse_of places
coarse_part k l n ts lk e =
    let s : ℕ = power (k - l) in
    let some = power_pos (k - l) in
    let hold = λ (p : Map) (o : Holds k (power k) (power k) ts p).
    held_by (k - l) s s ts (take (s * s) ts) (level l (power k) (power k) p) some some (λ i hi. get_or-take (s * s) ts i (pos 0) hi) (level_tower k ts p l s lk refl o) in
    rw e (record {
      numbers = refl;
      holds = hold;
      square = λ p o. record {
        heights = λ x y hx hy. rw (← (level_whole l (power k) (power k) p x y (whole k l x lk hx) (whole k l y lk hy))) ((hold p (from_tower k ts p o)).heights x y hx hy);
        same = SquareLaws.part_is_tower_lem k l p ts lk o.same;
      };
    })

-- what stands in a room that is filled by two parts
pub filled : (n m : ℕ) (xs ys room : List ℤ) → length xs ≡ n → length room ≡ 4 * n → m ≡ 3 * n → take n (xs ++ drop (n - 0) room) ++ (ys ++ drop m (drop n (xs ++ drop (n - 0) room))) ≡ xs ++ ys
filled n m xs ys room e er em =
    let ws = drop (n - 0) room in
    let all : length (xs ++ ws) ≤ n + m = omega (arith, length-append xs ws, length-drop (n - 0) room) in
    rw (take_at xs ws n e, drop-drop m n (xs ++ ws), drop_all (n + m) (xs ++ ws) all, append-nil ys) refl

pub part_handed : (f : Option Refusal) (part : List ℤ) (there : Type 0) → f ≡ None → there → Handed f part there
part_handed f part there e t = rw e t
