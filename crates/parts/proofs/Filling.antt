-- A room filled by one part after the other, and what the parts of a tower make. Assumes nothing.
use Rattle.std.proofs.Common.{◌≡◌, ℕ, zero, suc, ◌+◌, ◌-◌, ◌<◌, ◌≤◌, min, Bool, true, false, cond, eqb, leb, List, [], ◌∷◌, ◌++◌, length, get_or, take, drop, ℤ, Some, None, Option, sym, refl, ap, ◌∙◌, arith, take-add, Bor}
use borrow.Rule.Slice.PartMut.{put_mid}
use Rattle.std.specs.List.{between}
use Rattle.std.proofs.lemmas.List.{append_assoc, append-nil, drop_more, drop_all, length-append, length-drop, length-take-le, take_all}
use Rattle.std.proofs.lemmas.Slice.{take-put_mid}
use Rattle.std.proofs.lemmas.Bool.{leb-true, leb-false, eqb-true}
use Rattle.tower.specs.Checks.{places}
use Rattle.parts.specs.Parts.{begins, part_size, parts_wrong, contents, joined, coarse_of, detail_of, Assembled}
use Rattle.parts.proofs.Gaps.{no_part, begins_before}

module _ (ps : List (Bor (List ℤ))) (j at : ℕ) (room : List ℤ)
    (ha : at ≤ length room) (hl : length (joined (contents ps)) ≡ length room) (e : take at room ++ joined (contents (drop j ps)) ≡ joined (contents ps)) where
  module _ (hj : j < length ps) where
    next_part : joined (contents (drop j ps)) ≡ (get_or ps j no_part).now ++ joined (contents (drop (j + 1) ps))
    unfolding contents joined
    next_part = rw (drop_more ps j no_part hj) refl

    pub part_fits : at + length (get_or ps j no_part).now ≤ length room
    part_fits =
        let t = (get_or ps j no_part).now in
        let rest = joined (contents (drop (j + 1) ps)) in
        let whole = ap length (sym (ap (λ ws. take at room ++ ws) next_part) ∙ e) in
        omega (arith, whole, hl, length-append (take at room) (t ++ rest), length-append t rest, length-take-le at room ha)

    module _ (n : ℕ) (ts : List ℤ) (en : n ≡ length (get_or ps j no_part).now) (et : ts ≡ (get_or ps j no_part).now) where
      pub part_length : length (put_mid at n room ts) ≡ length room
      part_length =
          let fits = part_fits in
          let same = ap length et in
          omega (arith, length-append (take at room) (ts ++ drop n (drop at room)), length-append ts (drop n (drop at room)), length-take-le at room ha, length-drop n (drop at room), length-drop at room)

      pub part_put : take (at + length (get_or ps j no_part).now) (put_mid at n room ts) ++ joined (contents (drop (j + 1) ps)) ≡ joined (contents ps)
      part_put =
          let same = ap length et in
          let rest = joined (contents (drop (j + 1) ps)) in
          ap (λ ws. ws ++ rest) (take-put_mid at n room ts (at + length (get_or ps j no_part).now) (omega arith) ha)
          ∙ append_assoc (take at room) ts rest
          ∙ ap (λ ws. take at room ++ (ws ++ rest)) et
          ∙ sym (ap (λ ws. take at room ++ ws) next_part) ∙ e

  pub all_put : length ps ≤ j → room ≡ joined (contents ps)
  unfolding contents joined
  all_put hj =
      let none : joined (contents (drop j ps)) ≡ [] = rw (drop_all j ps hj) refl in
      let end : take at room ≡ joined (contents ps) = sym (append-nil (take at room)) ∙ ap (λ ws. take at room ++ ws) (sym none) ∙ e in
      let same = ap length end in
      sym (take_all at room (omega (arith, same, hl, length-take-le at room ha))) ∙ end

-- no gap at a part: its level is there, it is as long as it should be, and there is no gap behind it
pub parts_right : (k j : ℕ) (t : List ℤ) (ts : List (List ℤ)) → parts_wrong k j (t ∷ ts) ≡ None → (j ≤ k) × (length t ≡ part_size j) × (parts_wrong k (suc j) ts ≡ None)
unfolding parts_wrong
parts_right k j t ts e = go (leb j k) (eqb (length t) (part_size j)) refl refl e
  where
    go : (a b : Bool) → leb j k ≡ a → eqb (length t) (part_size j) ≡ b
        → cond a (cond b (parts_wrong k (suc j) ts) (Some (begins j + min (length t) (part_size j)))) (Some (places k)) ≡ None
        → (j ≤ k) × (length t ≡ part_size j) × (parts_wrong k (suc j) ts ≡ None)
    go true true p q h = (leb-true j k p, eqb-true (length t) (part_size j) q, h)
    go true false p q h = absurd (let f : ◌≡◌ {A = ℕ} 0 1 = cc in omega arith)
    go false b p q h = absurd (let f : ◌≡◌ {A = ℕ} 0 1 = cc in omega arith)

-- no gap and no part left: all levels are there
pub parts_end : (k j : ℕ) → parts_wrong k j [] ≡ None → k < j
unfolding parts_wrong
parts_end k j e = go (leb j k) refl e
  where
    go : (a : Bool) → leb j k ≡ a → ◌≡◌ {A = Option ℕ} (cond a (Some (begins j)) None) None → k < j
    go true p h = absurd (let f : ◌≡◌ {A = ℕ} 0 1 = cc in omega arith)
    go false p h = leb-false j k p

-- so the parts have as many numbers as the tower
pub joined_size : (k j : ℕ) (cs : List (List ℤ)) → j ≤ suc k → parts_wrong k j cs ≡ None → begins j + length (joined cs) ≡ places k
unfolding joined begins part_size
joined_size k j [] hj e =
    let last : j ≡ suc k = omega (arith, parts_end k j e) in
    rw last (omega arith)
joined_size k j (t ∷ cs) hj e =
    let o = parts_right k j t cs e in
    let size = o.1 in
    let before = begins_before j in
    let rest = joined_size k (suc j) cs (omega (arith, o.0)) o.2 in
    omega (arith, size, before, rest, length-append t (joined cs))

pub joined_whole : (k : ℕ) (cs : List (List ℤ)) → parts_wrong k 0 cs ≡ None → length (joined cs) ≡ places k
unfolding begins
joined_whole k cs e = let size = joined_size k 0 cs (omega arith) e in omega arith

-- and the parts of a tower, from the j-th on, what stands behind the parts before
pub joined_rest : (k j : ℕ) (cs : List (List ℤ)) (ts : List ℤ) → j ≤ suc k → parts_wrong k j cs ≡ None
    → ((i : ℕ) → j + i ≤ k → get_or cs i [] ≡ between (begins (j + i)) (places (j + i)) ts) → take (begins j) ts ++ joined cs ≡ take (places k) ts
unfolding joined begins part_size
joined_rest k j [] ts hj e f =
    let last : j ≡ suc k = omega (arith, parts_end k j e) in
    rw last (append-nil (take (places k) ts))
joined_rest k j (t ∷ cs) ts hj e f =
    let o = parts_right k j t cs e in
    let none : j + 0 ≡ j = omega arith in
    let part : t ≡ between (begins j) (places j) ts = rw none at (f 0 (omega (arith, o.0))) in
    let ends : begins j + (places j - begins j) ≡ places j = omega (arith, begins_before j) in
    let more : take (begins j) ts ++ t ≡ take (places j) ts = ap (λ ws. take (begins j) ts ++ ws) part ∙ sym (take-add (begins j) (places j - begins j) ts) ∙ ap (λ n. take n ts) ends in
    let later = λ (i : ℕ) (hi : suc j + i ≤ k).
    let next : j + suc i ≡ suc j + i = omega arith in
    rw next at (f (suc i) (omega arith)) in
    sym (append_assoc (take (begins j) ts) t (joined cs)) ∙ ap (λ ws. ws ++ joined cs) more ∙ joined_rest k (suc j) cs ts (omega (arith, o.0)) o.2 later

-- the parts that the calls hand back, in order, are those
parts_of : (k : ℕ) (cs : List (List ℤ)) (ts : List ℤ) → get_or cs 0 [] ≡ coarse_of k ts k → ((l : ℕ) → l < k → get_or cs (k - l) [] ≡ detail_of k ts l)
    → (i : ℕ) → 0 + i ≤ k → get_or cs i [] ≡ between (begins (0 + i)) (places (0 + i)) ts
unfolding begins coarse_of detail_of
parts_of k cs ts top details zero h =
    let none : k - k ≡ 0 = omega arith in
    let less : places 0 - 0 ≡ places 0 = omega arith in
    rw less (rw none at top)
parts_of k cs ts top details (suc i) h =
    let here : k - (k - suc i) ≡ suc i = omega arith in
    let before : k - suc (k - suc i) ≡ i = omega arith in
    let plain : 0 + suc i ≡ suc i = omega arith in
    rw plain (rw (here, before) at (details (k - suc i) (omega arith)))

pub assembled : (k : ℕ) (cs : List (List ℤ)) (after : List ℤ) → parts_wrong k 0 cs ≡ None → after ≡ joined cs → Assembled k cs after
unfolding begins coarse_of detail_of
assembled k cs after e q = record {
  numbers = q;
  length_is = ap length q ∙ joined_whole k cs e;
  whole = λ ts el top details.
      let each = parts_of k cs ts top details in
      q ∙ joined_rest k 0 cs ts (omega arith) e each ∙ take_all (places k) ts (omega arith);
}
