-- Parts fit together, and windows of a part are windows of the whole. Assumes nothing.
use Rattle.std.proofs.Common.{◌≡◌, ℕ, zero, suc, ◌+◌, ◌-◌, ◌*◌, ◌/◌, ◌%◌, ◌<◌, List, ◌++◌, length, take, ℤ, pos, sym, refl, ap, ◌∙◌, arith, take-add}
use Rattle.std.proofs.lemmas.List.{ext_get_or, take_all}
use Rattle.std.proofs.lemmas.Nat.{div-add-mod', div_below, mod_below}
use Rattle.levels.specs.Maps.{power, level}
use Rattle.levels.proofs.Parts.{level_level}
use Rattle.levels.proofs.Squares.{size_power}
use Rattle.maps.specs.Rows.{line}
use Rattle.tower.specs.Checks.{places}
use Rattle.parts.specs.Parts.{coarse_of, detail_of, Joined}
use Rattle.parts.specs.Laws.{TogetherAgain, SameWindows}
use Rattle.parts.proofs.Counts.{places_four}
use Rattle.parts.proofs.Cut.{coarse_part}

-- the detail that leads to a level stands behind the coarse part of the next coarser one
pub next_finer : (k l : ℕ) (ts : List ℤ) → l < k → coarse_of k ts (suc l) ++ detail_of k ts l ≡ coarse_of k ts l
unfolding coarse_of detail_of
next_finer k l ts lk =
    let next : k - l ≡ suc (k - suc l) = omega arith in
    let four = ap places next ∙ places_four (k - suc l) in
    let less : places (k - suc l) + (places (k - l) - places (k - suc l)) ≡ places (k - l) = omega arith in
    sym (take-add (places (k - suc l)) (places (k - l) - places (k - suc l)) ts) ∙ ap (λ n. take n ts) less

pub together_again_lem : TogetherAgain
unfolding coarse_of
together_again_lem k ts e = let none : k - 0 ≡ k = omega arith in ((λ l lk. next_finer k l ts lk), rw none (take_all (places k) ts (omega arith)))

pub joined_parts : (k : ℕ) (cs ds after : List ℤ) → 0 < k → after ≡ cs ++ ds → Joined k cs ds after
unfolding coarse_of
joined_parts k cs ds after some e = record {
  numbers = e;
  grows = λ l ts q qc qd.
      let same : after ≡ coarse_of (k + l) ts l = e ∙ (λ i. qc i ++ qd i) ∙ next_finer (k + l) l ts (omega arith) in
      rw same (coarse_part (k + l) l _ ts (omega arith) refl);
}

wide : (w h i : ℕ) → i < h * w → 0 < w
wide zero h i p = omega arith
wide (suc n) h i p = omega arith

-- lists are the same where they are, row by row
same_rows : (w h : ℕ) (a b : List ℤ) → length a ≡ w * h → length b ≡ w * h → ((u v : ℕ) → u < w → v < h → line a (v * w + u) ≡ line b (v * w + u)) → a ≡ b
same_rows w h a b ea eb f = ext_get_or (pos 0) a b (ea ∙ sym eb) (λ i hi.
    let inside : i < h * w = omega arith in
    let some = wide w h i inside in
    rw (sym (div-add-mod' i w)) (f (i % w) (i / w) (mod_below i w some) (div_below i w h some inside)))

pub same_windows_lem : SameWindows
unfolding coarse_of
same_windows_lem k j l x y w h ts a b p jk lk e o s t =
    let part = coarse_part k j (places (k - j)) ts jk refl in
    let at_part = λ (u v : ℕ) (hu : u < w) (hv : v < h). s.shows (level j (power k) (power k) p) (part.holds p o) u v hu hv in
    let levels : level l (power (k - j)) (power (k - j)) (level j (power k) (power k) p) ≡ level (j + l) (power k) (power k) p =
    rw (size_power k j jk) at (level_level l j (power k) (power k) p) in
    let at = λ (u v : ℕ) (hu : u < w) (hv : v < h). at_part u v hu hv ∙ ap (λ m. m (x + u) (y + v)) levels ∙ sym (t.shows p o u v hu hv) in
    same_rows w h a b s.length_is t.length_is at
