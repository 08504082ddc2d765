-- A change carried through one level: what the numbers are then. Assumes nothing.
use Rattle.std.proofs.Common.{◌≡◌, ℕ, suc, ◌+◌, ◌*◌, ◌/◌, ◌%◌, ◌^◌, ◌<◌, ◌≤◌, ◌&&◌, eqb, ◌≢◌, List, length, get_or, set, ℤ, pos, ◌+ℤ◌, sym, refl, ap, ◌∙◌, ⊎_elim, arith, w32, SFits, to_z, of_z}
use borrow.Author.Differences.{ints}
use Rattle.std.specs.List.{ContainsAt}
use Rattle.std.specs.Int.{int_wrap}
use Rattle.std.proofs.lemmas.List.{get_or-set_same, get_or-set_other}
use Rattle.std.proofs.lemmas.Int.{to_z-of_z, int_wrap_fits, wrapping_add-bits}
use Rattle.std.proofs.lemmas.Bool.{cases_eq, cond_both}
use Rattle.pairs.specs.Pairs.{Height}
use Rattle.levels.specs.Maps.{Map, size, means, across, halved, down, with_height}
use Rattle.levels.specs.Numbering.{Holds, across_index, down_index, touched}
use Rattle.levels.proofs.Changes.{SameOff, with_off, with_at, off_with, means_off, across_off, halved_off, down_off}
use Rattle.levels.proofs.Numbers.{row_same, downs_under, acrosses_past}
use Rattle.levels.proofs.Touched.{has_across_0, has_down_0, has_coarser, has_top}
use Rattle.levels.proofs.Held.{above, below, held_by, one_held, top_shown, across_there, down_there, halved_height}
use Rattle.places.specs.Lines.{DifferenceAt}
use Rattle.changes.specs.Carried.{Carried, Raised}
use Rattle.changes.proofs.Touched.{touched_within}

-- us are the numbers ts but at an index, and only if the pair is whole
abbrev SameBut : Type 0 → ℕ → List ℤ → List ℤ → Type 0
SameBut whole i ts us = (m : ℕ) → (whole → m ≡ i → ⊥) → get_or us m (pos 0) ≡ get_or ts m (pos 0)

-- rows of n numbers from an index on hold p; then one number changes, and they hold q
rows_changed : (n from a b : ℕ) (ts us : List ℤ) (p q : Map) (whole : Type 0) → (whole → a < n) → SameOff q p a b → SameBut whole (from + (b * n + a)) ts us → (whole → get_or us (from + (b * n + a)) (pos 0) ≡ q a b) →
    (u v : ℕ) → u < n → (u ≡ a → v ≡ b → whole) → get_or ts (from + (v * n + u)) (pos 0) ≡ p u v → get_or us (from + (v * n + u)) (pos 0) ≡ q u v
rows_changed n from a b ts us p q whole inside off same here u v hu there e =
    let other : (u ≡ a → v ≡ b → ⊥) → get_or us (from + (v * n + u)) (pos 0) ≡ q u v = λ ne.
    same (from + (v * n + u)) (λ o f. let s = row_same n v u b a hu (inside o) (omega arith) in ne s.1 s.0) ∙ e ∙ sym (off u v ne) in
    let same_one : u ≡ a → v ≡ b → get_or us (from + (v * n + u)) (pos 0) ≡ q u v = λ eu ev. rw (eu, ev) (here (there eu ev)) in
    ⊎_elim (λ eu. ⊎_elim (same_one eu) (λ ne. other (λ _ ev. ne ev)) (cases_eq v b)) (λ ne. other (λ eu _. ne eu)) (cases_eq u a)

-- the differences down stand before those across, and both behind the coarser levels
downs_before : (w h u v : ℕ) → u < (w + 1) / 2 → 2 * v + 1 < h → down_index w h 0 u v < (w + 1) / 2 * h
unfolding down_index size
downs_before w h u v hu hv = downs_under ((w + 1) / 2) h u v hu (omega arith)

module _ (w h : ℕ) (p : Map) (x y : ℕ) (g : ℤ) where
  pub with_heights : ((u v : ℕ) → u < w → v < h → Height (p u v)) → Height g → (u v : ℕ) → u < w → v < h → Height (with_height p x y g u v)
  unfolding with_height
  with_heights o hg u v hu hv = cond_both (eqb u x && eqb v y) g (p u v) Height (λ _. hg) (λ _. o u v hu hv)

  pub halved_with : (r : ℤ) → halved w h (with_height p x y g) (x / 2) (y / 2) ≡ r → with_height (halved w h p) (x / 2) (y / 2) r ≡ halved w h (with_height p x y g)
  halved_with r e = rw (← e) (sym (off_with (halved w h (with_height p x y g)) (halved w h p) (x / 2) (y / 2) (halved_off w h (with_height p x y g) p x y (with_off p x y g))))

-- the row of the place is raised there, and the column of means where the row's mean is
module _ (w h : ℕ) (p : Map) (x y : ℕ) (by : ℤ) where
  pub row_raised : Raised (λ u. p u y) (λ u. with_height p x y (p x y +ℤ by) u y) x by
  row_raised = record { here = with_at p x y (p x y +ℤ by); elsewhere = λ u ne. with_off p x y (p x y +ℤ by) u y (λ e _. ne e) }

  pub column_raised : (rb : ℤ) → means w (with_height p x y (p x y +ℤ by)) (x / 2) y ≡ means w p (x / 2) y +ℤ rb → Raised (means w p (x / 2)) (means w (with_height p x y (p x y +ℤ by)) (x / 2)) y rb
  column_raised rb e = record { here = e; elsewhere = λ v ne. means_off w h (with_height p x y (p x y +ℤ by)) p x y (with_off p x y (p x y +ℤ by)) (x / 2) v (λ _ ev. ne ev) }

-- ts are the numbers before, us with the difference across changed, vs with that down too, zs with the coarser levels too
module _ (k w h x y i j : ℕ) (ts us vs zs : List ℤ) (hx : x < w) (hy : y < h) (ei : i ≡ across_index w h 0 (x / 2) y) (ej : j ≡ down_index w h 0 (x / 2) (y / 2))
    (same_u : SameBut (2 * (x / 2) + 1 < w) i ts us) (same_v : SameBut (2 * (y / 2) + 1 < h) j us vs)
    (same_z : (m : ℕ) → (ContainsAt (touched k ((w + 1) / 2) ((h + 1) / 2) (x / 2) (y / 2)) m → ⊥) → get_or zs m (pos 0) ≡ get_or vs m (pos 0)) where
  pub rest_kept : (m : ℕ) → (ContainsAt (touched (suc k) w h x y) m → ⊥) → get_or zs m (pos 0) ≡ get_or ts m (pos 0)
  rest_kept m n = same_z m (λ t. n (has_coarser k w h x y m t)) ∙ same_v m (λ whole e. n (rw (e, ej) (has_down_0 k w h x y whole))) ∙ same_u m (λ whole e. n (rw (e, ei) (has_across_0 k w h x y whole)))

  i_behind : (w + 1) / 2 * h ≤ i
  unfolding across_index size
  i_behind = rw ei (omega arith)

  j_behind : (w + 1) / 2 * ((h + 1) / 2) ≤ j
  unfolding down_index size
  j_behind = rw ej (omega arith)

  j_before : 2 * (y / 2) + 1 < h → j < (w + 1) / 2 * h
  j_before whole = rw ej (downs_before w h (x / 2) (y / 2) (omega arith) whole)

  coarser_kept : (m : ℕ) → m < (w + 1) / 2 * ((h + 1) / 2) → get_or vs m (pos 0) ≡ get_or ts m (pos 0)
  coarser_kept m hm = same_v m (λ _ e. omega (arith, j_behind)) ∙ same_u m (λ _ e. omega (arith, i_behind, acrosses_past ((w + 1) / 2) h))

  finest_kept : (m : ℕ) → (w + 1) / 2 * ((h + 1) / 2) ≤ m → get_or zs m (pos 0) ≡ get_or vs m (pos 0)
  finest_kept m hm = same_z m (λ t. omega (arith, touched_within k ((w + 1) / 2) ((h + 1) / 2) (x / 2) (y / 2) m (omega arith) (omega arith) t))

  -- the change across leaves the difference down as it was
  pub column_still : (f : ℕ → ℤ) → DifferenceAt h f y ts j → DifferenceAt h f y us j
  column_still f d whole = same_u j (λ _ e. omega (arith, j_before whole, i_behind)) ∙ d whole

  module _ (p : Map) (by mb : ℤ) (o : Holds (suc k) w h ts p) (hq : Height (p x y +ℤ by))
      (row : DifferenceAt w (λ u. with_height p x y (p x y +ℤ by) u y) x us i) (column : DifferenceAt h (means w (with_height p x y (p x y +ℤ by)) (x / 2)) y vs j)
      (rise : halved w h (with_height p x y (p x y +ℤ by)) (x / 2) (y / 2) ≡ halved w h p (x / 2) (y / 2) +ℤ mb)
      (carried : Holds k ((w + 1) / 2) ((h + 1) / 2) vs (halved w h p) → Height (halved w h p (x / 2) (y / 2) +ℤ mb) → Holds k ((w + 1) / 2) ((h + 1) / 2) zs (with_height (halved w h p) (x / 2) (y / 2) (halved w h p (x / 2) (y / 2) +ℤ mb))) where
    abbrev q : Map
    q = with_height p x y (p x y +ℤ by)

    acrosses_new : (u v : ℕ) → u < w / 2 → v < h → get_or zs ((w + 1) / 2 * h + (v * (w / 2) + u)) (pos 0) ≡ across q u v
    unfolding across across_index size
    acrosses_new u v hu hv =
        finest_kept _ (omega (arith, acrosses_past ((w + 1) / 2) h)) ∙ same_v _ (λ whole e. omega (arith, j_before whole))
        ∙ rows_changed (w / 2) ((w + 1) / 2 * h) (x / 2) y ts us (across p) (across q) (2 * (x / 2) + 1 < w) (λ whole. omega arith) (across_off w h q p x y (with_off p x y (p x y +ℤ by)))
        (rw ei at same_u) (rw ei at row) u v hu (λ eu ev. omega arith) (across_there k w h ts p o u v (omega arith) hv)

    downs_new : (u v : ℕ) → u < (w + 1) / 2 → v < h / 2 → get_or zs ((w + 1) / 2 * ((h + 1) / 2) + (v * ((w + 1) / 2) + u)) (pos 0) ≡ down w q u v
    unfolding down down_index size
    downs_new u v hu hv =
        finest_kept _ (omega arith)
        ∙ rows_changed ((w + 1) / 2) ((w + 1) / 2 * ((h + 1) / 2)) (x / 2) (y / 2) us vs (down w p) (down w q) (2 * (y / 2) + 1 < h) (λ whole. omega arith) (down_off w h q p x y (with_off p x y (p x y +ℤ by)))
        (rw ej at same_v) (rw ej at column) u v hu (λ eu ev. omega arith)
        (same_u _ (λ _ e. omega (arith, downs_before w h u v hu (omega arith), i_behind)) ∙ down_there k w h ts p o u v hu (omega arith))

    pub level_carried : Holds (suc k) w h zs q
    level_carried =
        let hs : (u v : ℕ) → u < w → v < h → Height (q u v) = with_heights w h p x y (p x y +ℤ by) o.heights hq in
        let top : Height (halved w h p (x / 2) (y / 2) +ℤ mb) = rw rise at (halved_height w h q hs (x / 2) (y / 2) (omega arith) (omega arith)) in
        let coarser : Holds k ((w + 1) / 2) ((h + 1) / 2) vs (halved w h p) = held_by k ((w + 1) / 2) ((h + 1) / 2) ts vs (halved w h p) (omega arith) (omega arith) coarser_kept (above k w h ts p o) in
        below k w h zs q hs (rw (halved_with w h p x y (p x y +ℤ by) _ rise) at (carried coarser top)) downs_new acrosses_new

-- one place is left
top_held : (k w h x y : ℕ) (us : List ℤ) (p : Map) (g : ℤ) → x < w → y < h → w + h ≡ 2 → Height g → get_or us 0 (pos 0) ≡ g → Holds k w h us (with_height p x y g)
top_held k w h x y us p g hx hy e hg eg =
    let ew : w ≡ 1 = omega arith in
    let eh : h ≡ 1 = omega arith in
    let ex : x ≡ 0 = omega arith in
    let ey : y ≡ 0 = omega arith in
    rw (ew, eh, ex, ey) (one_held k us (with_height p 0 0 g) (rw (with_at p 0 0 g) hg) (eg ∙ sym (with_at p 0 0 g)))

pub sum_bits : (z : ℤ) (b : ℕ) → SFits w32 z → b < 2 ^ 32 → to_z w32 ((of_z w32 z + b) % 2 ^ 32) ≡ int_wrap w32 (z +ℤ to_z w32 b)
sum_bits z b f hb = wrapping_add-bits w32 (of_z w32 z) b (omega (arith, ints)) hb ∙ ap (λ y. int_wrap w32 (y +ℤ to_z w32 b)) (to_z-of_z w32 z f)

pub top_carried : (w h x y : ℕ) (by v : ℤ) (ts : List ℤ) → x < w → y < h → w + h ≡ 2 → 0 < length ts → v ≡ int_wrap w32 (get_or ts 0 (pos 0) +ℤ by) → Carried w h x y by ts (set ts 0 v)
top_carried w h x y by v ts hx hy e room ev = record {
  holds = λ k p o hg.
      let f : SFits w32 (p x y +ℤ by) = omega (arith, ints) in
      top_held k w h x y _ p _ hx hy e hg (get_or-set_same ts 0 v (pos 0) room ∙ ev ∙ ap (λ z. int_wrap w32 (z +ℤ by)) (top_shown k w h ts p x y hx hy e o) ∙ int_wrap_fits w32 _ f);
  rest = λ k i _ _ n. let ne : i ≢ 0 = λ z. n (rw z (has_top k w h x y)) in rw get_or-set_other;
}

-- a change by the same number
pub carried_by : {w h x y : ℕ} {a b : ℤ} {ts us : List ℤ} → a ≡ b → Carried w h x y a ts us → Carried w h x y b ts us
carried_by e o = rw e at o

-- nothing changes
pub none_carried : (w h x y : ℕ) (by : ℤ) (ts : List ℤ) → by ≡ pos 0 → Carried w h x y by ts ts
none_carried w h x y by ts e = record {
  holds = λ k p o _.
      let z : p x y +ℤ by ≡ p x y = omega (arith, ints) in
      let s : with_height p x y (p x y +ℤ by) ≡ p = rw z (sym (off_with p p x y (λ u v _. refl))) in
      rw s o;
  rest = λ k i _ _ _. refl;
}
