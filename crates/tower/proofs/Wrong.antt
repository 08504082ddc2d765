-- The first wrong number of a map. Assumes nothing.
use Rattle.std.proofs.Common.{◌≡◌, ℕ, zero, suc, ◌+◌, ◌-◌, ◌<◌, Bool, true, false, cond, List, [], ◌∷◌, length, drop, ℤ, pos, negsuc, Some, None, refl, ap, arith}
use borrow.Author.Differences.{ints}
use Rattle.std.proofs.lemmas.List.{drop_more, drop_all}
use Rattle.std.proofs.lemmas.Bool.{leb-true, le-leb, false≢true}
use Rattle.pairs.specs.Pairs.{Height}
use Rattle.maps.specs.Rows.{line}
use Rattle.tower.specs.Checks.{is_height, first_wrong}

-- the test and the range are the same
pub is_true : (z : ℤ) → Height z → is_height z ≡ true
is_true (pos n) h = le-leb n 65535 (omega (arith, ints))
is_true (negsuc n) h = absurd (omega (arith, ints))

pub is_in : (z : ℤ) → is_height z ≡ true → Height z
is_in (pos n) e = let h = leb-true n 65535 e in omega (arith, ints)
is_in (negsuc n) e = absurd (false≢true e)

pub is_false : (z : ℤ) → (Height z → ⊥) → is_height z ≡ false
is_false z n = go (is_height z) refl
  where
    go : (b : Bool) → is_height z ≡ b → is_height z ≡ false
    go true e = absurd (n (is_in z e))
    go false e = e

-- all heights, as many as places: nothing is wrong
pub none_wrong : (n at : ℕ) (zs : List ℤ) → length zs ≡ n → ((i : ℕ) → i < n → Height (line zs i)) → first_wrong n at zs ≡ None
unfolding first_wrong
none_wrong zero at [] e h = refl
none_wrong zero at (z ∷ zs) e h = absurd (omega arith)
none_wrong (suc n) at [] e h = absurd (omega arith)
none_wrong (suc n) at (z ∷ zs) e h = rw (is_true z (h 0 (omega arith))) (none_wrong n (suc at) zs (omega arith) (λ i hi. h (suc i) (omega arith)))

-- and the other way
pub right_whole : (n at : ℕ) (zs : List ℤ) → first_wrong n at zs ≡ None → (length zs ≡ n) × ((i : ℕ) → i < n → Height (line zs i))
unfolding first_wrong
right_whole zero at [] e = (refl, λ i hi. absurd (omega arith))
right_whole zero at (z ∷ zs) e = absurd (let q : ◌≡◌ {A = ℕ} 0 1 = cc in omega arith)
right_whole (suc n) at [] e = absurd (let q : ◌≡◌ {A = ℕ} 0 1 = cc in omega arith)
right_whole (suc n) at (z ∷ zs) e = go (is_height z) refl e (right_whole n (suc at) zs)
  where
    places : Height z → ((i : ℕ) → i < n → Height (line zs i)) → (i : ℕ) → i < suc n → Height (line (z ∷ zs) i)
    places h r zero hi = h
    places h r (suc i) hi = r i (omega arith)

    go : (b : Bool) → is_height z ≡ b → cond b (first_wrong n (suc at) zs) (Some at) ≡ None → (first_wrong n (suc at) zs ≡ None → (length zs ≡ n) × ((i : ℕ) → i < n → Height (line zs i))) → (suc (length zs) ≡ suc n) × ((i : ℕ) → i < suc n → Height (line (z ∷ zs) i))
    go true t q rec = let r = rec q in (ap suc r.0, places (is_in z t) r.1)
    go false t q rec = absurd (let f : ◌≡◌ {A = ℕ} 0 1 = cc in omega arith)

-- where one number after the other is a height, the first wrong one is among the rest
module _ (zs : List ℤ) (n i : ℕ) where
  next : i < n → n - i ≡ suc (n - (i + 1))
  next h = omega arith

  pub wrong_step : i < length zs → i < n → Height (line zs i) → first_wrong (n - i) i (drop i zs) ≡ first_wrong (n - (i + 1)) (i + 1) (drop (i + 1) zs)
  unfolding first_wrong
  wrong_step hi hn h =
      let e : suc i ≡ i + 1 = omega arith in
      rw (next hn, drop_more zs i (pos 0) hi, is_true (line zs i) h) (ap (λ (a : ℕ). first_wrong (n - (i + 1)) a (drop (i + 1) zs)) e)

  pub wrong_here : i < length zs → i < n → (Height (line zs i) → ⊥) → first_wrong (n - i) i (drop i zs) ≡ Some i
  unfolding first_wrong
  wrong_here hi hn h = rw (next hn, drop_more zs i (pos 0) hi, is_false (line zs i) h)

  pub wrong_many : i < length zs → i ≡ n → first_wrong (n - i) i (drop i zs) ≡ Some i
  unfolding first_wrong
  wrong_many hi q = let e : n - i ≡ 0 = omega arith in rw (e, drop_more zs i (pos 0) hi)

  pub wrong_missing : i ≡ length zs → i < n → first_wrong (n - i) i (drop i zs) ≡ Some i
  unfolding first_wrong
  wrong_missing q hn = rw (next hn, drop_all i zs (omega arith))

  pub wrong_none : i ≡ length zs → i ≡ n → first_wrong (n - i) i (drop i zs) ≡ None
  unfolding first_wrong
  wrong_none q qn = let e : n - i ≡ 0 = omega arith in rw (e, drop_all i zs (omega arith))
