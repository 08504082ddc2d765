-- Which numbers of a tower a change of one height touches. Assumes nothing.
use Rattle.std.proofs.Common.{◌≡◌, ℕ, zero, suc, ◌+◌, ◌*◌, ◌/◌, ◌<◌, ◌≤◌, Bool, true, false, cond, List, [], ◌∷◌, ◌++◌, length, get_or, ℤ, pos, sym, refl, ◌∙◌, div-one, arith, length-append}
use Rattle.std.specs.List.{ContainsAt}
use Rattle.std.proofs.ByRecursion.{has_get_or, has_append_left, has_append_right}
use Rattle.std.proofs.lemmas.Bool.{lt-ltb}
use Rattle.levels.specs.Maps.{Map, power, size, paired, with_height}
use Rattle.levels.specs.Towers.{tower, SameTower}
use Rattle.levels.specs.Numbering.{down_index, across_index, tower_in, Entry, the_top, a_down, an_across, index, There, touched}
use Rattle.levels.specs.Laws.{TouchesFew}
use Rattle.levels.proofs.Sizes.{size_inner, half_power}
use Rattle.levels.proofs.Changes.{changes_few_lem}
use Rattle.levels.proofs.Numbers.{numbers_all_lem}

at_most_one : (b : Bool) (i : ℕ) → length (cond b (i ∷ []) []) ≤ 1
at_most_one true i = omega arith
at_most_one false i = omega arith

pub few : (k w h x y : ℕ) → length (touched k w h x y) ≤ 1 + 2 * k
unfolding touched
few zero w h x y = omega arith
few (suc k) w h x y = simp length-append
    (omega (arith, at_most_one (paired w (x / 2)) (across_index w h 0 (x / 2) y), at_most_one (paired h (y / 2)) (down_index w h 0 (x / 2) (y / 2)), few k ((w + 1) / 2) ((h + 1) / 2) (x / 2) (y / 2)))

-- the one of a list that a test puts there
has_tested : (b : Bool) (i : ℕ) → b ≡ true → ContainsAt (cond b (i ∷ []) []) i
has_tested true i e = has_get_or (i ∷ []) 0 0 (omega arith)
has_tested false i e = absurd (let z : ◌≡◌ {A = ℕ} 0 1 = cc in omega arith)

-- the three parts of the list: the difference across and the one down of the finest level, and those of the coarser ones
module _ (k w h x y : ℕ) where
  an_across_part : List ℕ
  an_across_part = cond (paired w (x / 2)) (across_index w h 0 (x / 2) y ∷ []) []

  a_down_part : List ℕ
  a_down_part = cond (paired h (y / 2)) (down_index w h 0 (x / 2) (y / 2) ∷ []) []

  abbrev coarse_part : List ℕ
  coarse_part = touched k ((w + 1) / 2) ((h + 1) / 2) (x / 2) (y / 2)

  pub has_across_0 : 2 * (x / 2) + 1 < w → ContainsAt (touched (suc k) w h x y) (across_index w h 0 (x / 2) y)
  unfolding touched an_across_part a_down_part
  has_across_0 two = has_append_left an_across_part (a_down_part ++ coarse_part) _ (has_tested (paired w (x / 2)) (across_index w h 0 (x / 2) y) (lt-ltb (2 * (x / 2) + 1) w two))

  pub has_down_0 : 2 * (y / 2) + 1 < h → ContainsAt (touched (suc k) w h x y) (down_index w h 0 (x / 2) (y / 2))
  unfolding touched an_across_part a_down_part
  has_down_0 two = has_append_right an_across_part (a_down_part ++ coarse_part) _ (has_append_left a_down_part coarse_part _ (has_tested (paired h (y / 2)) (down_index w h 0 (x / 2) (y / 2)) (lt-ltb (2 * (y / 2) + 1) h two)))

  pub has_coarser : (i : ℕ) → ContainsAt (touched k ((w + 1) / 2) ((h + 1) / 2) (x / 2) (y / 2)) i → ContainsAt (touched (suc k) w h x y) i
  unfolding touched an_across_part a_down_part
  has_coarser i o = has_append_right an_across_part (a_down_part ++ coarse_part) i (has_append_right a_down_part coarse_part i o)

pub has_top : (k w h x y : ℕ) → ContainsAt (touched k w h x y) 0
unfolding touched
has_top zero w h x y = has_get_or (0 ∷ []) 0 0 (omega arith)
has_top (suc k) w h x y = has_coarser k w h x y 0 (has_top k ((w + 1) / 2) ((h + 1) / 2) (x / 2) (y / 2))

-- the indices of a level are those of the level below it in the halved map
down_index_up : (l w h x y : ℕ) → down_index ((w + 1) / 2) ((h + 1) / 2) l x y ≡ down_index w h (suc l) x y
unfolding down_index size
down_index_up l w h x y = rw (size_inner l w, size_inner l h)

across_index_up : (l w h x y : ℕ) → across_index ((w + 1) / 2) ((h + 1) / 2) l x y ≡ across_index w h (suc l) x y
unfolding across_index size
across_index_up l w h x y = rw (size_inner l w, size_inner l h)

has_down : (l k w h x y : ℕ) → l < k → 2 * (y / power (suc l)) + 1 < size l h → ContainsAt (touched k w h x y) (down_index w h l (x / power (suc l)) (y / power (suc l)))
unfolding power size
has_down l zero w h x y lk two = absurd (omega arith)
has_down zero (suc k) w h x y lk two = has_down_0 k w h x y two
has_down (suc l) (suc k) w h x y lk two =
    let ex = half_power x (suc l) (suc (suc l)) refl in
    let ey = half_power y (suc l) (suc (suc l)) refl in
    let r = has_down l k ((w + 1) / 2) ((h + 1) / 2) (x / 2) (y / 2) (omega arith) (rw (ey, size_inner l h) two) in
    has_coarser k w h x y _ (rw (ex, ey, down_index_up l w h (x / power (suc (suc l))) (y / power (suc (suc l)))) at r)

has_across : (l k w h x y : ℕ) → l < k → 2 * (x / power (suc l)) + 1 < size l w → ContainsAt (touched k w h x y) (across_index w h l (x / power (suc l)) (y / power l))
unfolding power size
has_across l zero w h x y lk two = absurd (omega arith)
has_across zero (suc k) w h x y lk two = rw (div-one y) (has_across_0 k w h x y two)
has_across (suc l) (suc k) w h x y lk two =
    let ex = half_power x (suc l) (suc (suc l)) refl in
    let ey = half_power y l (suc l) refl in
    let r = has_across l k ((w + 1) / 2) ((h + 1) / 2) (x / 2) (y / 2) (omega arith) (rw (ex, size_inner l w) two) in
    has_coarser k w h x y _ (rw (ex, ey, across_index_up l w h (x / power (suc (suc l))) (y / power (suc l))) at r)

module _ (k w h x y : ℕ) (p : Map) (g : ℤ) (ts us : List ℤ) (s : SameTower k w h (tower_in w h ts) (tower k w h p)) (s' : SameTower k w h (tower_in w h us) (tower k w h (with_height p x y g))) where
  kept : (e : Entry) → There k w h e → (ContainsAt (touched k w h x y) (index w h e) → ⊥) → get_or us (index w h e) (pos 0) ≡ get_or ts (index w h e) (pos 0)
  unfolding tower_in tower
  kept the_top o n = absurd (n (has_top k w h x y))
  kept (a_down l u v) o n =
      s'.downs l u v o.0 o.1 o.2
      ∙ (changes_few_lem w h l p x y u v g).1 (λ eu ev. let two : 2 * (y / power (suc l)) + 1 < size l h = rw (← ev) (let b = o.2 in omega arith) in n (rw (eu, ev) (has_down l k w h x y o.0 two)))
      ∙ sym (s.downs l u v o.0 o.1 o.2)
  kept (an_across l u v) o n =
      s'.acrosses l u v o.0 o.1 o.2
      ∙ (changes_few_lem w h l p x y u v g).0 (λ eu ev. let two : 2 * (x / power (suc l)) + 1 < size l w = rw (← eu) (let b = o.1 in omega arith) in n (rw (eu, ev) (has_across l k w h x y o.0 two)))
      ∙ sym (s.acrosses l u v o.0 o.1 o.2)

pub touches_few_lem : TouchesFew
touches_few_lem k w h x y tw th = record {
  few = few k w h x y;
  rest = λ p g ts us s s' i hi n.
      let f = (numbers_all_lem k w h tw th).all i hi in
      rw f.2 at (kept k w h x y p g ts us s s' f.0 f.1 (λ o. n (rw f.2 at o)));
}
