-- Whole runs: a map built, and changes made one after the other; and the laws of the calls. Assumes nothing: these are definitions.
--     made_all            the map after a list of changes
--     first_refusal, replay_refusal     the first of them that is refused; the refusal of a whole run
--     Replayed            what a run leaves: every level of its tower shows the changed map halved so often
--     CallsEitherOrder, CallsUndone     what calls of `change` leave in either order, and after a change back
use Rattle.std.specs.Prelude.{◌≡◌, ℕ, ◌-◌, ◌<◌, ◌≤◌, List, [], ◌∷◌, length, ℤ, pos, Some, None, Option}
use Rattle.levels.specs.Maps.{Map, power, with_height}
use Rattle.levels.specs.Numbering.{Holds, map_in}
use Rattle.levels.specs.Square as Square
use Rattle.refusals.specs.declared.Refusal.{Refusal}
use Rattle.tower.specs.declared.runs.Change.{Change}
use Rattle.tower.specs.Checks.{places, build_refusal, change_refusal}
use Rattle.tower.specs.Calls.{ChangedTower}

unfoldable pub made_all : Map → List Change → Map
made_all p [] = p
made_all p (c ∷ cs) = made_all (with_height p c.x c.y (pos c.height)) cs

abbrev pub or_else : Option Refusal → Option Refusal → Option Refusal
or_else (Some e) later = Some e
or_else None later = later

unfoldable pub first_refusal : (k tower : ℕ) → List Change → Option Refusal
first_refusal k n [] = None
first_refusal k n (c ∷ cs) = or_else (change_refusal k n c.x c.y c.height) (first_refusal k n cs)

unfoldable pub replay_refusal : (k : ℕ) → (heights : List ℤ) → List Change → (room : ℕ) → Option Refusal
replay_refusal k hs cs n = or_else (build_refusal k hs n) (first_refusal k n cs)

pub record Replayed (k : ℕ) (hs : List ℤ) (cs : List Change) (after : List ℤ) : Type 0 where
  pub holds : Holds k (power k) (power k) after (made_all (map_in (power k) hs) cs)
  pub shows : (l x y : ℕ) → l ≤ k → x < power (k - l) → y < power (k - l) → Square.at_level k (Square.tower_in k after) l x y ≡ Square.halved_times l (made_all (map_in (power k) hs) cs) x y

abbrev pub CallsEitherOrder : Type 0
CallsEitherOrder =
    (k x y f u v g : ℕ) (p : Map) (ts t₁ t₂ s₁ s₂ : List ℤ) → ((x ≡ u) × (y ≡ v) → ⊥) → length ts ≡ places k → Holds k (power k) (power k) ts p →
    ChangedTower k ts x y f t₁ → ChangedTower k t₁ u v g t₂ → ChangedTower k ts u v g s₁ → ChangedTower k s₁ x y f s₂ → t₂ ≡ s₂

abbrev pub CallsUndone : Type 0
CallsUndone =
    (k x y f g : ℕ) (p : Map) (ts t₁ t₂ : List ℤ) → length ts ≡ places k → Holds k (power k) (power k) ts p → p x y ≡ pos g →
    ChangedTower k ts x y f t₁ → ChangedTower k t₁ x y g t₂ → t₂ ≡ ts
