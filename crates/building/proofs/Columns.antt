-- Columns halved, one pair after the other. Assumes nothing.
use Rattle.std.proofs.Common.{◌≡◌, ℕ, ◌+◌, ◌-◌, ◌<◌, ◌≤◌, ◌≢◌, List, ◌++◌, length, set, ℤ, pos, sym, ap, ap₂, ◌∙◌, ⊎_elim, arith, below_more}
use borrow.Rule.Slice.PartMut.{put_mid}
use Rattle.std.specs.List.{between}
use Rattle.std.proofs.lemmas.List.Edits.{length-between, get_or-between}
use Rattle.std.proofs.lemmas.List.{get_or-set_same, get_or-set_other, get_or_append_left, get_or-append-add}
use Rattle.std.proofs.lemmas.Bool.{cases_lt}
use Rattle.pairs.specs.Pairs.{Height, mean_of, difference_of}
use Rattle.maps.specs.Rows.{line}
use Rattle.maps.proofs.Lent.{put_in, put_past}
use Rattle.building.specs.Steps.{ColumnsHalved, PairsHalved}

pub pairs_more : (upper was now out : List ℤ) (i : ℕ) (a b : ℤ) → i < length out → i < length now → a ≡ mean_of (line upper i) (line was i) → b ≡ difference_of (line upper i) (line was i) →
    PairsHalved i upper was now out → PairsHalved (i + 1) upper was (set now i b) (set out i a)
pairs_more upper was now out i a b ho hn ea eb o = record {
  means = below_more _ _ (λ k hk. let n : k ≢ i = omega arith in get_or-set_other out i k a (pos 0) n ∙ o.means k hk) (get_or-set_same out i a (pos 0) ho ∙ ea);
  downs = below_more _ _ (λ k hk. let n : k ≢ i = omega arith in get_or-set_other now i k b (pos 0) n ∙ o.downs k hk) (get_or-set_same now i b (pos 0) hn ∙ eb);
  rest = λ k hk. let n : k ≢ i = omega arith in get_or-set_other now i k b (pos 0) n ∙ o.rest k (omega arith);
}

-- the upper places stand before the lower ones in one room, of which the first n are lent
module _ (r upper lower : List ℤ) (count n : ℕ) (er : r ≡ upper ++ lower) (eu : length upper ≡ count) (hc : n ≤ count) (hl : n ≤ length lower) where
  above : (ys : List ℤ) (i : ℕ) → i < count → line (upper ++ ys) i ≡ line upper i
  above ys i hi = get_or_append_left upper ys (pos 0) i (omega arith)

  behind : (ys : List ℤ) (i : ℕ) → line (upper ++ ys) (count + i) ≡ line ys i
  behind ys i = rw (← eu) (get_or-append-add upper ys i (pos 0))

  part : (i : ℕ) → i < n → line (between 0 n lower) i ≡ line r (count + i)
  part i hi = rw er (get_or-between lower 0 n i (pos 0) (omega arith) ∙ sym (behind lower (0 + i)) ∙ ap (line (upper ++ lower)) (omega arith))

  first : (i : ℕ) → i < count → line upper i ≡ line r i
  first i hi = rw er (sym (above lower i hi))

  pub columns_heights : (total : ℕ) → count + n ≤ total → ((i : ℕ) → i < total → Height (line r i)) → (i : ℕ) → i < length (between 0 n lower) → Height (line upper i) × Height (line (between 0 n lower) i)
  columns_heights total ht hs i hi =
      let l : length (between 0 n lower) ≡ n = length-between lower 0 n hl ∙ omega arith in
      (rw (first i (omega arith)) (hs i (omega arith)), rw (part i (omega arith)) (hs (count + i) (omega arith)))

  pub columns_put : (now out : List ℤ) (k : ℕ) → length now ≡ n → k ≡ n → PairsHalved (length (between 0 n lower)) upper (between 0 n lower) now out → ColumnsHalved r (upper ++ put_mid 0 k lower now) out count n
  columns_put now out k el ek o =
      let l : length (between 0 n lower) ≡ n = length-between lower 0 n hl ∙ omega arith in
      record {
        means = λ i hi. o.means i (omega arith) ∙ ap₂ mean_of (first i (omega arith)) (part i hi);
        downs = λ i hi. behind (put_mid 0 k lower now) i ∙ put_in 0 k lower now i (omega arith) i (omega arith) (omega arith) ∙ o.downs i (omega arith) ∙ ap₂ difference_of (first i (omega arith)) (part i hi);
        rest = λ i away. ⊎_elim
            (λ (h : i < count). above (put_mid 0 k lower now) i h ∙ first i h)
            (λ (h : count ≤ i).
            let j : ℕ = i - count in
            let e : i ≡ count + j = omega arith in
            rw (e, er) (behind (put_mid 0 k lower now) j ∙ put_past 0 k lower now j (omega arith) (omega arith) (⊎_elim (λ (l : i < count + n). absurd (away h l)) (λ (l : count + n ≤ i). omega arith) (cases_lt i (count + n))) ∙ sym (behind lower j)))
            (cases_lt i count);
      }
