-- A row from the means and the differences of its pairs. Assumes nothing.
use Rattle.std.proofs.Common.{◌≡◌, ℕ, ◌+◌, ◌-◌, ◌*◌, ◌/◌, ◌%◌, ◌<◌, ◌≤◌, List, length, set, ℤ, pos, sym, ap, ◌∙◌, ⊎_elim, arith}
use borrow.Rule.Slice.PartMut.{put_mid}
use Rattle.std.specs.List.{between}
use Rattle.std.proofs.lemmas.List.Edits.{get_or-between}
use Rattle.std.proofs.lemmas.List.{get_or-set_same, get_or-set_other}
use Rattle.std.proofs.lemmas.Bool.{cases_lt}
use Rattle.pairs.specs.Pairs.{Height, Difference, first_of, second_of, one_of}
use Rattle.pairs.proofs.Half.{one_first, one_second}
use Rattle.levels.proofs.Lines.{down_pair, down_last}
use Rattle.maps.specs.Rows.{line, OneBack, PairsBack, RowBack}
use Rattle.maps.proofs.Lent.{put_in, put_below, put_past}

one_same : (x y : ℕ) (m d : ℤ) → x % 2 ≡ y % 2 → one_of x m d ≡ one_of y m d
unfolding one_of
one_same x y m d e = rw e

-- a is the one of the pair i that `of` gives, the first or the second
abbrev pub Is : (of : ℤ → ℤ → ℤ) → (ms ds : List ℤ) → ℕ → ℤ → Type 0
Is of ms ds i a = Height (line ms i) → Difference (line ds i) → a ≡ of (line ms i) (line ds i)

module _ (ms ds : List ℤ) (x i j : ℕ) (a : ℤ) where
  pub first_there : j ≡ i → x % 2 ≡ 0 → Is first_of ms ds i a → OneBack x ms ds j a
  first_there e even f = rw e (λ hm hd. f hm hd ∙ sym (one_first x _ _ even))

  pub second_there : j ≡ i → x % 2 ≡ 1 → Is second_of ms ds i a → OneBack x ms ds j a
  second_there e odd f = rw e (λ hm hd. f hm hd ∙ sym (one_second x _ _ odd))

-- places from the first of a pair on: one place more
pub place_more : (ms ds row : List ℤ) (i : ℕ) (a : ℤ) → i < length row → (Height (line ms (i / 2)) → Difference (line ds (i / 2)) → a ≡ one_of i (line ms (i / 2)) (line ds (i / 2))) → PairsBack 0 i ms ds row → PairsBack 0 (i + 1) ms ds (set row i a)
place_more ms ds row i a h fa o u j hu ej = ⊎_elim
    (λ (q : u < i). rw (get_or-set_other row i u a (pos 0) (omega arith)) (o u j q ej))
    (λ (q : i ≤ u).
    let e : u ≡ i = omega arith in
    let f : j ≡ i / 2 = omega arith in
    rw (e, f) (λ hm hd. get_or-set_same row i a (pos 0) h ∙ fa hm hd ∙ one_same i (0 + i) _ _ (omega arith)))
    (cases_lt u i)

pub even_from : (x m : ℕ) (ms ds row : List ℤ) → x % 2 ≡ 0 → PairsBack 0 m ms ds row → PairsBack x m ms ds row
even_from x m ms ds row even o i j hi ej hm hd = o i j hi (omega arith) hm hd ∙ one_same (0 + i) (x + i) _ _ (omega arith)

-- a place more at the front, the second of its pair
pub back_second : (x : ℕ) (ms ds row : List ℤ) (a : ℤ) → x % 2 ≡ 1 → 0 < length row → Is second_of ms ds 0 a → PairsBack x 1 ms ds (set row 0 a)
back_second x ms ds row a odd h fa u j hu ej =
    let e : u ≡ 0 = omega arith in
    rw e (rw (get_or-set_same row 0 a (pos 0) h) (second_there ms ds (x + 0) 0 j a (omega arith) (omega arith) fa))

-- after a places, n more that are made from the pair b on
pub part_more : (x a b em ed n k : ℕ) (ms ds row ys : List ℤ) → x % 2 + a ≡ 2 * b → a ≤ length row → length ys ≡ n → 2 * b + n ≤ 2 * em → 2 * b + n ≤ 2 * ed →
    PairsBack x a ms ds row → PairsBack 0 n (between b em ms) (between b ed ds) ys → PairsBack x (a + n) ms ds (put_mid a k row ys)
part_more x a b em ed n k ms ds row ys eb ha hy hm hd before here u j hu ej = ⊎_elim
    (λ (q : u < a). rw (put_below a k row ys u ha q) (before u j q ej))
    (λ (q : a ≤ u).
    let v : ℕ = u - a in
    let i : ℕ = v / 2 in
    let ei : b + i ≡ j = omega arith in
    let gm : line (between b em ms) i ≡ line ms j = rw (← ei) (get_or-between ms b em i (pos 0) (omega arith)) in
    let gd : line (between b ed ds) i ≡ line ds j = rw (← ei) (get_or-between ds b ed i (pos 0) (omega arith)) in
    let t = here v i (omega arith) (omega arith) in
    let ep : (x + u) % 2 ≡ (0 + v) % 2 = omega arith in
    rw (put_in a k row ys u ha v (omega arith) (omega arith), one_same (x + u) (0 + v) (line ms j) (line ds j) ep) (rw (gm, gd) at t))
    (cases_lt u a)

-- places of whole pairs in a row of n
module _ (n x m : ℕ) (ms ds : List ℤ) where
  pub whole_back : (row : List ℤ) → (0 < m → x + m ≤ 2 * (n / 2)) → PairsBack x m ms ds row → RowBack n x m ms ds row
  whole_back row h o i j hi ej hm hd =
      let b = h (omega arith) in
      let whole : 2 * ((x + i) / 2) + 1 < n = omega arith in
      o i j hi ej hm (hd whole) ∙ sym (down_pair n (x + i) _ _ whole)

  -- and then a last place alone, which was written first
  pub last_back : (k : ℕ) (row ys : List ℤ) (a : ℤ) → x + m + 1 ≡ n → n % 2 ≡ 1 → length ys ≡ m → k ≡ m → m < length row → ((j : ℕ) → j ≡ (x % 2 + m) / 2 → Height (line ms j) → a ≡ line ms j) →
      PairsBack x m ms ds ys → RowBack n x (m + 1) ms ds (put_mid 0 k (set row m a) ys)
  last_back k row ys a en odd el ek hr ea o i j hi ej hm hd = ⊎_elim
      (λ (q : i < m). put_in 0 k (set row m a) ys i (omega arith) i (omega arith) (omega arith) ∙ whole_back ys (λ _. omega arith) o i j q ej hm hd)
      (λ (q : m ≤ i).
      let e : i ≡ m = omega arith in
      put_past 0 k (set row m a) ys i (omega arith) (omega arith) (omega arith) ∙ ap (line (set row m a)) e ∙ get_or-set_same row m a (pos 0) hr ∙ ea j (omega arith) hm ∙ sym (down_last n (x + i) _ _ (omega arith)))
      (cases_lt i m)
