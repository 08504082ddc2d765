-- A list cut into chunks of so many numbers. Assumes nothing.
use Rattle.std.proofs.Common.{◌≡◌, ℕ, zero, suc, ◌+◌, ◌*◌, ◌<◌, List, drop, get_or, ℤ, pos, refl, ap, ◌∙◌, arith}
use Rattle.std.specs.Simd.{first_chunks}
use Rattle.std.proofs.lemmas.List.{get_or-drop, get_or-take}
use Rattle.maps.specs.Rows.{line}

-- the number j of the chunk i
pub chunk_number : (n k : ℕ) (xs : List ℤ) (i j m : ℕ) (d : List ℤ) → i < k → j < n → m ≡ i * n + j → line (get_or (first_chunks n k xs) i d) j ≡ line xs m
chunk_number n zero xs i j m d hi hj e = absurd (omega arith)
chunk_number n (suc k) xs zero j m d hi hj e = get_or-take n xs j (pos 0) hj ∙ ap (line xs) (omega arith)
chunk_number n (suc k) xs (suc i) j m d hi hj e =
    let f : n + (i * n + j) ≡ m = omega arith in
    chunk_number n k (drop n xs) i j (i * n + j) d (omega arith) hj refl ∙ get_or-drop n xs (i * n + j) (pos 0) ∙ ap (line xs) f

-- the number that is left behind whole pairs
pub left_number : (xs ys : List ℤ) (p : ℕ) (z : ℤ) → ys ≡ drop (p * 2) xs → z ≡ line ys 0 → z ≡ line xs (2 * p)
left_number xs ys p z ey ez =
    let e : p * 2 + 0 ≡ 2 * p = omega arith in
    ez ∙ ap (λ (l : List ℤ). line l 0) ey ∙ get_or-drop (p * 2) xs 0 (pos 0) ∙ ap (line xs) e
