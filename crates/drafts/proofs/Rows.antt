-- Rows given one after the other: what is wrong with them, and what is kept of them. Assumes nothing.
use Rattle.std.proofs.Common.{◌≡◌, ℕ, zero, suc, ◌+◌, ◌-◌, ◌*◌, ◌<◌, ◌≤◌, Bool, true, false, cond, ltb, List, [], ◌∷◌, ◌++◌, length, get_or, take, drop, ℤ, pos, is_some, Some, None, Option, sym, refl, ap, ◌∙◌, append_assoc, arith, ltb-true, ltb-false}
use Rattle.std.specs.Option.{option_map, option_or}
use Rattle.std.specs.List.{flat_map}
use Rattle.std.proofs.lemmas.Bool.{true≢false}
use Rattle.std.specs.Bool.{then_some}
use Rattle.std.proofs.lemmas.List.{take_more, take_all, length-append}
use Rattle.tower.proofs.Wrong.{wrong_missing, wrong_none}
use Rattle.tower.specs.Checks.{is_height, first_wrong}
use Rattle.drafts.specs.Given.{rows_wrong}
use Rattle.drafts.specs.Drafts.{wrong_so_far}

-- something is not nothing
pub some_none : {X : Type 0} (x : X) (P : Type 0) → ◌≡◌ {A = Option X} (Some x) None → P
some_none x P e = absurd (cc)

pub none_from : {X : Type 0} (o : Option X) → is_some o ≡ false → o ≡ None
none_from None e = refl
none_from (Some x) e = absurd (true≢false e)

pub some_from : {X : Type 0} (o : Option X) → true ≡ is_some o → (x : X) × (o ≡ Some x)
some_from None e = absurd (true≢false e)
some_from (Some x) e = (x, refl)

-- the place of a wrong number tells that nothing else is promised
pub told_wrong : (i : ℕ) (w : Option ℕ) (P : Type 0) → w ≡ Some i → (◌≡◌ {A = Option ℕ} (Some i) w) × (◌≡◌ {A = Option ℕ} (Some i) None → P)
told_wrong i w P e = (sym e, some_none i P)

-- one height more of the row
pub heights_more : (old heights after row : List ℤ) (i : ℕ) (h : ℤ) → i < length row → h ≡ get_or row i (pos 0) → heights ≡ old ++ take i row → after ≡ heights ++ (h ∷ []) → after ≡ old ++ take (i + 1) row
heights_more old heights after row i h lt eh e f = f ∙ rw (e, eh, append_assoc, take_more row i (pos 0) lt) refl

-- the row has ended, whole or short
pub row_ended : (n i : ℕ) (row old heights : List ℤ) → i ≡ length row → i ≤ n → first_wrong (n - i) i (drop i row) ≡ first_wrong n 0 row → heights ≡ old ++ take i row →
    (then_some (ltb (length row) n) (length row) ≡ first_wrong n 0 row) × (then_some (ltb (length row) n) (length row) ≡ None → heights ≡ old ++ row)
row_ended n i row old heights e le right put = go (ltb (length row) n) refl
  where
    go : (t : Bool) → ltb (length row) n ≡ t → (then_some t (length row) ≡ first_wrong n 0 row) × (then_some t (length row) ≡ None → heights ≡ old ++ row)
    go true t = let lt = ltb-true _ _ t in (sym (sym right ∙ rw e (wrong_missing row n (length row) (omega arith) lt)), λ z. cc)
    go false t = let ge = ltb-false _ _ t in (sym (sym right ∙ wrong_none row n i (omega arith) (omega arith)), λ _. put ∙ rw (take_all i row (omega arith)))

-- a wrong place is one of the row's, or the first behind it
pub wrong_within : (n at p : ℕ) (zs : List ℤ) → first_wrong n at zs ≡ Some p → p ≤ at + n
unfolding first_wrong
wrong_within zero at p [] e = some_none p _ (sym e)
wrong_within zero at p (z ∷ zs) e = let q : at ≡ p = cc in omega arith
wrong_within (suc n) at p [] e = let q : at ≡ p = cc in omega arith
wrong_within (suc n) at p (z ∷ zs) e = go (is_height z) e (wrong_within n (suc at) p zs)
  where
    go : (t : Bool) → cond t (first_wrong n (suc at) zs) (Some at) ≡ Some p → (first_wrong n (suc at) zs ≡ Some p → p ≤ suc at + n) → p ≤ at + suc n
    go true q rec = omega (arith, rec q)
    go false q rec = let f : at ≡ p = cc in omega arith

-- places counted on from b
shifted : (n b at : ℕ) (zs : List ℤ) → first_wrong n (b + at) zs ≡ option_map (λ i. b + i) (first_wrong n at zs)
unfolding first_wrong
shifted zero b at [] = refl
shifted zero b at (z ∷ zs) = refl
shifted (suc n) b at [] = refl
shifted (suc n) b at (z ∷ zs) = let e : suc (b + at) ≡ b + suc at = omega arith in go (is_height z) (ap (λ (c : ℕ). first_wrong n c zs) e ∙ shifted n b (suc at) zs)
  where
    go : (t : Bool) → first_wrong n (suc (b + at)) zs ≡ option_map (λ i. b + i) (first_wrong n (suc at) zs) → cond t (first_wrong n (suc (b + at)) zs) (Some (b + at)) ≡ option_map (λ i. b + i) (cond t (first_wrong n (suc at) zs) (Some at))
    go true rec = rec
    go false rec = refl

pub counted_on : (n b : ℕ) (zs : List ℤ) → first_wrong n b zs ≡ option_map (λ i. b + i) (first_wrong n 0 zs)
counted_on n b zs = let e : b ≡ b + 0 = omega arith in ap (λ (c : ℕ). first_wrong n c zs) e ∙ shifted n b 0 zs

-- a row that nothing is wrong with is as long as it should be, and what follows counts on
pub row_right : (s m at : ℕ) (row rest : List ℤ) → first_wrong s at row ≡ None → (length row ≡ s) × (first_wrong (s + m) at (row ++ rest) ≡ first_wrong m (at + s) rest)
unfolding first_wrong
row_right zero m at [] rest e = (refl, let f : 0 + m ≡ m = omega arith in let g : at + 0 ≡ at = omega arith in rw (f, g))
row_right zero m at (z ∷ zs) rest e = some_none at _ e
row_right (suc s) m at [] rest e = some_none at _ e
row_right (suc s) m at (z ∷ zs) rest e = go (is_height z) refl e (row_right s m (suc at) zs rest)
  where
    go : (t : Bool) → is_height z ≡ t → cond t (first_wrong s (suc at) zs) (Some at) ≡ None → (first_wrong s (suc at) zs ≡ None → (length zs ≡ s) × (first_wrong (s + m) (suc at) (zs ++ rest) ≡ first_wrong m (suc at + s) rest)) →
        (suc (length zs) ≡ suc s) × (first_wrong (suc s + m) at (z ∷ (zs ++ rest)) ≡ first_wrong m (at + suc s) rest)
    go true et q rec =
        let r = rec q in
        let f : suc s + m ≡ suc (s + m) = omega arith in
        let g : at + suc s ≡ suc at + s = omega arith in
        (ap suc r.0, rw (f, g, et) r.1)
    go false et q rec = some_none at _ q

-- neither of two is there
neither : {X : Type 0} (a b : Option X) → option_or a b ≡ None → (a ≡ None) × (b ≡ None)
neither (Some x) b e = some_none x _ e
neither None b e = (refl, e)

-- rows with nothing wrong so far
module _ (s : ℕ) (hs : 0 < s) where
  -- are as many numbers as places, and then it only matters whether rows are missing
  pub rows_right : (n at : ℕ) (rows : List (List ℤ)) → wrong_so_far s n at rows ≡ None → (length (flat_map (λ row. row) rows) ≡ length rows * s) × (length rows ≤ n) × (rows_wrong s n at rows ≡ first_wrong (n * s) at (flat_map (λ row. row) rows))
  unfolding wrong_so_far rows_wrong first_wrong
  rows_right zero at [] e = (omega arith, omega arith, let z : 0 * s ≡ 0 = omega arith in rw z)
  rows_right (suc n) at [] e = (omega arith, omega arith, let z : suc n * s ≡ suc (suc n * s - 1) = omega arith in rw z)
  rows_right zero at (row ∷ rows) e = some_none at _ e
  rows_right (suc n) at (row ∷ rows) e =
      let none = neither (first_wrong s at row) _ e in
      let first = row_right s (n * s) at row (flat_map (λ row. row) rows) none.0 in
      let rest = rows_right n (at + s) rows none.1 in
      let z : suc n * s ≡ s + n * s = omega arith in
      (rw (length-append, first.0, rest.0) (omega arith), omega (arith, rest.1), rw (none.0, z, first.1) rest.2)

  -- one row more, where rows can still come
  pub row_more : (n at : ℕ) (rows : List (List ℤ)) (row : List ℤ) → length rows < n → wrong_so_far s n at rows ≡ None → wrong_so_far s n at (rows ++ (row ∷ [])) ≡ first_wrong s (at + length rows * s) row
  unfolding wrong_so_far
  row_more zero at rows row lt e = absurd (omega arith)
  row_more (suc n) at [] row lt e = let z : at + 0 * s ≡ at = omega arith in rw z (last (first_wrong s at row))
    where
      last : (o : Option ℕ) → option_or o None ≡ o
      last (Some x) = refl
      last None = refl
  row_more (suc n) at (r ∷ rows) row lt e =
      let none = neither (first_wrong s at r) _ e in
      let z : at + suc (length rows) * s ≡ (at + s) + length rows * s = omega arith in
      rw (none.0, z) (row_more n (at + s) rows row (omega arith) none.1)

  -- and where none can
  pub row_past : (n at : ℕ) (rows : List (List ℤ)) (row : List ℤ) → length rows ≡ n → wrong_so_far s n at rows ≡ None → wrong_so_far s n at (rows ++ (row ∷ [])) ≡ Some (at + n * s)
  unfolding wrong_so_far
  row_past zero at [] row el e = let z : at + 0 * s ≡ at = omega arith in rw z
  row_past (suc n) at [] row el e = absurd (omega arith)
  row_past zero at (r ∷ rows) row el e = some_none at _ e
  row_past (suc n) at (r ∷ rows) row el e =
      let none = neither (first_wrong s at r) _ e in
      let z : at + suc n * s ≡ (at + s) + n * s = omega arith in
      rw (none.0, z) (row_past n (at + s) rows row (omega arith) none.1)

-- where something is wrong it stays so
pub still_wrong : (s n at p : ℕ) (rows more : List (List ℤ)) → wrong_so_far s n at rows ≡ Some p → (wrong_so_far s n at (rows ++ more) ≡ Some p) × (rows_wrong s n at rows ≡ Some p)
unfolding wrong_so_far rows_wrong
still_wrong s n at p [] more e = some_none p _ (sym e)
still_wrong s zero at p (r ∷ rows) more e = (e, e)
still_wrong s (suc n) at p (r ∷ rows) more e = go (first_wrong s at r) e (still_wrong s n (at + s) p rows more)
  where
    go : (o : Option ℕ) → option_or o (wrong_so_far s n (at + s) rows) ≡ Some p → (wrong_so_far s n (at + s) rows ≡ Some p → (wrong_so_far s n (at + s) (rows ++ more) ≡ Some p) × (rows_wrong s n (at + s) rows ≡ Some p)) →
        (option_or o (wrong_so_far s n (at + s) (rows ++ more)) ≡ Some p) × (option_or o (rows_wrong s n (at + s) rows) ≡ Some p)
    go (Some x) q rec = (q, q)
    go None q rec = rec q
