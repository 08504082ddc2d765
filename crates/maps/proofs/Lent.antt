-- A part of a list that is lent and comes back: what the list is then. Assumes nothing.
use Rattle.std.proofs.Common.{◌≡◌, ℕ, ◌+◌, ◌-◌, ◌<◌, ◌≤◌, List, ◌++◌, length, take, drop, ℤ, pos, sym, refl, ap, ◌∙◌, ⊎_elim, length-append, length-drop, arith}
use Rattle.std.proofs.lemmas.Bool.{cases_lt}
use borrow.Rule.Slice.PartMut.{put_mid, post_of}
use Rattle.std.proofs.lemmas.List.{get_or-append-add, get_or_append_left, get_or-drop, get_or-take, length-take-le}
use Rattle.maps.specs.Rows.{line}

-- k numbers of xs from the index a on were lent, and ys came back
module _ (a k : ℕ) (xs ys : List ℤ) (j : ℕ) (ha : a ≤ length xs) where
  pub put_in : (i : ℕ) → j ≡ a + i → i < length ys → line (put_mid a k xs ys) j ≡ line ys i
  put_in i e hi =
      let l = length-take-le a xs ha in
      let f : j ≡ length (take a xs) + i = omega arith in
      ap (line (put_mid a k xs ys)) f ∙ get_or-append-add (take a xs) (ys ++ post_of a k xs) i (pos 0) ∙ get_or_append_left ys (post_of a k xs) (pos 0) i hi

  pub put_below : j < a → line (put_mid a k xs ys) j ≡ line xs j
  put_below hj =
      let l = length-take-le a xs ha in
      get_or_append_left (take a xs) (ys ++ post_of a k xs) (pos 0) j (omega arith) ∙ get_or-take a xs j (pos 0) hj

  pub put_past : length ys ≡ k → a + k ≤ j → line (put_mid a k xs ys) j ≡ line xs j
  put_past hk hj =
      let n : ℕ = j - a - k in
      let l = length-take-le a xs ha in
      let f : j ≡ length (take a xs) + (length ys + n) = omega arith in
      let g : a + (k + n) ≡ j = omega arith in
      ap (line (put_mid a k xs ys)) f ∙ get_or-append-add (take a xs) (ys ++ post_of a k xs) (length ys + n) (pos 0) ∙ get_or-append-add ys (post_of a k xs) n (pos 0)
      ∙ get_or-drop k (drop a xs) n (pos 0) ∙ get_or-drop a xs (k + n) (pos 0) ∙ ap (line xs) g

-- a list is as long as it was
pub put_length : (a k : ℕ) (xs ys : List ℤ) → length ys ≡ k → a + k ≤ length xs → length (put_mid a k xs ys) ≡ length xs
put_length a k xs ys ey h =
    let l = length-take-le a xs (omega arith) in
    let p = length-append (take a xs) (ys ++ post_of a k xs) in
    let q = length-append ys (post_of a k xs) in
    let d = length-drop k (drop a xs) in
    let e = length-drop a xs in
    omega arith

-- two parts that were lent at once, k numbers of f from a on and n of g from b on
module _ (f g ms ds : List ℤ) (a k b n : ℕ) (em : length ms ≡ k) (ed : length ds ≡ n) (hf : a + k ≤ length f) (hg : b + n ≤ length g) where
  abbrev both : List ℤ
  both = put_mid a k f ms ++ put_mid b n g ds

  front_length : length (put_mid a k f ms) ≡ length f
  front_length = put_length a k f ms em hf

  in_front : (i : ℕ) → i < length f → line both i ≡ line (put_mid a k f ms) i
  in_front i hi = get_or_append_left (put_mid a k f ms) (put_mid b n g ds) (pos 0) i (rw front_length hi)

  in_back : (j : ℕ) → line both (length f + j) ≡ line (put_mid b n g ds) j
  in_back j = rw (← front_length) (get_or-append-add (put_mid a k f ms) (put_mid b n g ds) j (pos 0))

  pub first_lent : (i : ℕ) → i < k → line both (a + i) ≡ line ms i
  first_lent i hi = in_front (a + i) (omega arith) ∙ put_in a k f ms (a + i) (omega arith) i refl (omega arith)

  pub second_lent : (j : ℕ) → j < n → line both (length f + (b + j)) ≡ line ds j
  second_lent j hj = in_back (b + j) ∙ put_in b n g ds (b + j) (omega arith) j refl (omega arith)

  pub neither_lent : (i : ℕ) → (a ≤ i → i < a + k → ⊥) → (length f + b ≤ i → i < length f + b + n → ⊥) → line both i ≡ line (f ++ g) i
  neither_lent i p q = ⊎_elim
      (λ (h : i < length f). in_front i h ∙ ⊎_elim
      (λ (l : i < a). put_below a k f ms i (omega arith) l)
      (λ (l : a ≤ i). put_past a k f ms i (omega arith) em (⊎_elim (λ (m : i < a + k). absurd (p l m)) (λ (m : a + k ≤ i). m) (cases_lt i (a + k))))
      (cases_lt i a) ∙ sym (get_or_append_left f g (pos 0) i h))
      (λ (h : length f ≤ i).
      let j : ℕ = i - length f in
      let e : i ≡ length f + j = omega arith in
      rw e (in_back j ∙ ⊎_elim
      (λ (l : j < b). put_below b n g ds j (omega arith) l)
      (λ (l : b ≤ j). put_past b n g ds j (omega arith) ed (⊎_elim (λ (m : j < b + n). absurd (q (omega arith) (omega arith))) (λ (m : b + n ≤ j). m) (cases_lt j (b + n))))
      (cases_lt j b) ∙ sym (get_or-append-add f g j (pos 0))))
      (cases_lt i (length f))
