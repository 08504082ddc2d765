-- Changes made one after the other. Assumes nothing.
use Rattle.std.proofs.Common.{◌≡◌, ℕ, zero, suc, ◌+◌, ◌<◌, ◌≤◌, List, [], ◌∷◌, length, get_or, drop, ℤ, pos, Some, None, Option, sym, refl, ◌∙◌, arith}
use Rattle.std.proofs.lemmas.List.{drop_more, drop_all, ext_get_or}
use Rattle.std.proofs.lemmas.Bool.Decides.{nat_tests}
use Rattle.levels.specs.Maps.{Map, power, with_height}
use Rattle.levels.specs.Numbering.{Holds, map_in, number, index, tower_in, Entry, the_top, a_down, an_across, There}
use Rattle.levels.specs.Square as Square
use Rattle.levels.specs.Towers.{tower}
use Rattle.levels.proofs.Changes.{either_order_lem, undone_lem}
use Rattle.levels.proofs.Numbers.{numbers_all_lem}
use Rattle.levels.proofs.Squares.{size_end}
use Rattle.levels.proofs.SquareLaws.{shows_held_lem}
use Rattle.maps.specs.Rows.{line}
use Rattle.refusals.specs.declared.Refusal.{Refusal}
use Rattle.tower.specs.declared.runs.Change.{Change}
use Rattle.tower.specs.Checks.{places, build_refusal, change_refusal}
use Rattle.tower.specs.Runs.{made_all, or_else, first_refusal, replay_refusal, Replayed, CallsEitherOrder, CallsUndone}
use Rattle.tower.proofs.Squared.{to_tower}

-- the refusals of a list, from a place on
module _ (k n : ℕ) (cs : List Change) (i : ℕ) (d : Change) where
  pub refusal_step : i < length cs → change_refusal k n (get_or cs i d).x (get_or cs i d).y (get_or cs i d).height ≡ None → first_refusal k n (drop i cs) ≡ first_refusal k n (drop (i + 1) cs)
  unfolding first_refusal
  refusal_step h e = rw (drop_more cs i d h, e)

  pub refusal_here : (e : Refusal) → i < length cs → change_refusal k n (get_or cs i d).x (get_or cs i d).y (get_or cs i d).height ≡ Some e → first_refusal k n (drop i cs) ≡ Some e
  unfolding first_refusal
  refusal_here e h q = rw (drop_more cs i d h, q)

pub refusal_none : (k n : ℕ) (cs : List Change) (i : ℕ) → length cs ≤ i → first_refusal k n (drop i cs) ≡ None
unfolding first_refusal
refusal_none k n cs i h = rw (drop_all i cs h)

-- where none is refused, each is taken
pub each_taken : (k n : ℕ) (cs : List Change) (i : ℕ) (d : Change) → first_refusal k n cs ≡ None → i < length cs → change_refusal k n (get_or cs i d).x (get_or cs i d).y (get_or cs i d).height ≡ None
unfolding first_refusal
each_taken k n [] i d e h = absurd (omega arith)
each_taken k n (c ∷ cs) i d e h = go (change_refusal k n c.x c.y c.height) refl e i h (each_taken k n cs)
  where
    go : (f : Option Refusal) → change_refusal k n c.x c.y c.height ≡ f → or_else f (first_refusal k n cs) ≡ None → (i : ℕ) → i < suc (length cs) →
        ((j : ℕ) (d : Change) → first_refusal k n cs ≡ None → j < length cs → change_refusal k n (get_or cs j d).x (get_or cs j d).y (get_or cs j d).height ≡ None) →
        change_refusal k n (get_or (c ∷ cs) i d).x (get_or (c ∷ cs) i d).y (get_or (c ∷ cs) i d).height ≡ None
    go (Some r) q e i h rec = absurd (let z : ◌≡◌ {A = ℕ} 0 1 = cc in omega arith)
    go None q e zero h rec = q
    go None q e (suc i) h rec = rec i d e (omega arith)

-- a run is refused as its map is, and then as its changes are
module _ (k n : ℕ) (hs : List ℤ) (cs : List Change) where
  pub run_map : (e : Refusal) → build_refusal k hs n ≡ Some e → replay_refusal k hs cs n ≡ Some e
  unfolding replay_refusal
  run_map e q = rw q

  pub run_rest : build_refusal k hs n ≡ None → replay_refusal k hs cs n ≡ first_refusal k n cs
  unfolding replay_refusal
  run_rest q = rw q

-- what a change that is taken is known by
pub taken_place : (k n x y g : ℕ) → change_refusal k n x y g ≡ None → (x < power k) × (y < power k) × (g ≤ 65535)
unfolding change_refusal
taken_place k n x y g e = (grind (arith, nat_tests), grind (arith, nat_tests), grind (arith, nat_tests))

-- one change more
pub made_step : (p : Map) (cs : List Change) (i : ℕ) (d : Change) → i < length cs → made_all p (drop i cs) ≡ made_all (with_height p (get_or cs i d).x (get_or cs i d).y (pos (get_or cs i d).height)) (drop (i + 1) cs)
unfolding made_all
made_step p cs i d h = rw (drop_more cs i d h)

pub made_none : (p : Map) (cs : List Change) (i : ℕ) → length cs ≤ i → made_all p (drop i cs) ≡ p
unfolding made_all
made_none p cs i h = rw (drop_all i cs h)

pub replayed : (k : ℕ) (hs : List ℤ) (cs : List Change) (after : List ℤ) → Holds k (power k) (power k) after (made_all (map_in (power k) hs) cs) → Replayed k hs cs after
replayed k hs cs after o = record {
  holds = o;
  shows = λ l x y lk hx hy. shows_held_lem k l (Square.tower_in k after) (made_all (map_in (power k) hs) cs) x y lk hx hy (to_tower k after (made_all (map_in (power k) hs) cs) o).same;
}

-- two lists of as many numbers that hold the tower of one map are one
entry_held : (k : ℕ) (ts : List ℤ) (p : Map) (e : Entry) → There k (power k) (power k) e → Holds k (power k) (power k) ts p → line ts (index (power k) (power k) e) ≡ number (tower k (power k) (power k) p) e
unfolding tower_in
entry_held k ts p the_top t o = o.same.top
entry_held k ts p (a_down l x y) t o = o.same.downs l x y t.0 t.1 t.2
entry_held k ts p (an_across l x y) t o = o.same.acrosses l x y t.0 t.1 t.2

pub one_tower : (k : ℕ) (ts us : List ℤ) (p : Map) → length ts ≡ places k → length us ≡ places k → Holds k (power k) (power k) ts p → Holds k (power k) (power k) us p → ts ≡ us
unfolding places
one_tower k ts us p lt lu o q = ext_get_or (pos 0) ts us (lt ∙ sym lu) (λ i hi.
    let f = (numbers_all_lem k (power k) (power k) (size_end k) (size_end k)).all i (rw lt at hi) in
    rw f.2 at (entry_held k ts p f.0 f.1 o ∙ sym (entry_held k us p f.0 f.1 q)))

pub calls_either_order : CallsEitherOrder
calls_either_order k x y f u v g p ts t₁ t₂ s₁ s₂ n l o a b c d =
    one_tower k t₂ s₂ (with_height (with_height p x y (pos f)) u v (pos g)) (b.length_is ∙ a.length_is ∙ l) (d.length_is ∙ c.length_is ∙ l)
    (b.holds (with_height p x y (pos f)) (a.holds p o)) (rw (← (either_order_lem p x y u v (pos f) (pos g) n)) at (d.holds (with_height p u v (pos g)) (c.holds p o)))

pub calls_undone : CallsUndone
calls_undone k x y f g p ts t₁ t₂ l o e a b =
    one_tower k t₂ ts p (b.length_is ∙ a.length_is ∙ l) l
    (rw (undone_lem p x y (pos f)) at (rw (← e) at (b.holds (with_height p x y (pos f)) (a.holds p o)))) o
