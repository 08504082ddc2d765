-- Vectors of four numbers, lane by lane. Assumes nothing.
use Rattle.std.proofs.Common.{◌≡◌, ℕ, zero, suc, ◌+◌, ◌-◌, ◌*◌, ◌%◌, ◌<◌, ◌≤◌, List, [], ◌∷◌, ◌++◌, map, length, get_or, take, drop, ℤ, pos, ◌+ℤ◌, ◌-ℤ◌, refl, ap, ◌∙◌, arith, w32, SFits, to_z, of_z}
use borrow.Author.Differences.{ints}
use borrow.Rule.Slice.PartMut.{put_mid, post_of}
use lib.Lanes.{put_chunk, zip2}
use lib.ListN.{length-map}
use lib.Signed.{shr_z}
use Rattle.std.specs.Int.{int_wrap}
use Rattle.std.proofs.lemmas.Simd.{get_or-zip2, length-zip2}
use Rattle.std.proofs.lemmas.List.{get_or_append_left, get_or-append_right, get_or-map, get_or-take, length-take-le}
use Rattle.std.proofs.lemmas.Int.{to_z-of_z, wrapping_add_is, wrapping_sub_is, int_wrap_fits}
use Rattle.pairs.specs.Pairs.{Height, Difference, half, first_of, second_of}
use Rattle.pairs.proofs.Half.{half_is}
use Rattle.pairs.proofs.Exact.{shift_is}
use Rattle.maps.specs.Rows.{line}

abbrev ones : List ℕ
ones = 1 ∷ 1 ∷ 1 ∷ 1 ∷ []

one_at : (i : ℕ) → i < 4 → get_or ones i 0 ≡ 1
one_at zero h = refl
one_at (suc zero) h = refl
one_at (suc (suc zero)) h = refl
one_at (suc (suc (suc zero))) h = refl
one_at (suc (suc (suc (suc i)))) h = absurd (omega arith)

-- a lane of four, and how many there are
module _ (f : ℕ → ℕ → ℕ) (xs ys : List ℕ) (lx : length xs ≡ 4) (ly : length ys ≡ 4) where
  lane_two : (i : ℕ) → i < 4 → get_or (zip2 f xs ys) i 0 ≡ f (get_or xs i 0) (get_or ys i 0)
  lane_two i hi = get_or-zip2 f xs ys i 0 0 0 (omega arith) (omega arith)

  length_two : length (zip2 f xs ys) ≡ 4
  length_two = length-zip2 f xs ys (omega arith) ∙ lx

lane_bits : (xs : List ℤ) (i : ℕ) → length xs ≡ 4 → i < 4 → get_or (map (of_z w32) xs) i 0 ≡ of_z w32 (line xs i)
lane_bits xs i lx hi = get_or-map (of_z w32) xs i (pos 0) 0 (omega arith)

length_bits : (xs : List ℤ) → length xs ≡ 4 → length (map (of_z w32) xs) ≡ 4
length_bits xs lx = length-map xs (of_z w32) ∙ lx

-- a sum and a shift by one, by their operations on bits
pub sum_lane : (f g : ℕ → ℕ → ℕ) (ms ds : List ℤ) (i : ℕ) → length ms ≡ 4 → length ds ≡ 4 → i < 4 →
    line (map (to_z w32) (zip2 f (map (of_z w32) ms) (zip2 g (zip2 f (map (of_z w32) ds) ones) ones))) i ≡ to_z w32 (f (of_z w32 (line ms i)) (g (f (of_z w32 (line ds i)) 1) 1))
sum_lane f g ms ds i lm ld hi =
    let a = length_bits ms lm in
    let b = length_bits ds ld in
    let k = length_two f (map (of_z w32) ds) ones b refl in
    let n = length_two g (zip2 f (map (of_z w32) ds) ones) ones k refl in
    let l = length_two f (map (of_z w32) ms) (zip2 g (zip2 f (map (of_z w32) ds) ones) ones) a n in
    get_or-map (to_z w32) (zip2 f (map (of_z w32) ms) (zip2 g (zip2 f (map (of_z w32) ds) ones) ones)) i 0 (pos 0) (omega arith)
    ∙ ap (to_z w32) (rw (lane_two f (map (of_z w32) ms) (zip2 g (zip2 f (map (of_z w32) ds) ones) ones) a n i hi, lane_two g (zip2 f (map (of_z w32) ds) ones) ones k refl i hi, lane_two f (map (of_z w32) ds) ones b refl i hi, lane_bits ms i lm hi, lane_bits ds i ld hi, one_at i hi))

pub less_lane : (f : ℕ → ℕ → ℕ) (xs ys : List ℤ) (i : ℕ) → length xs ≡ 4 → length ys ≡ 4 → i < 4 → line (map (to_z w32) (zip2 f (map (of_z w32) xs) (map (of_z w32) ys))) i ≡ to_z w32 (f (of_z w32 (line xs i)) (of_z w32 (line ys i)))
less_lane f xs ys i lx ly hi =
    let a = length_bits xs lx in
    let b = length_bits ys ly in
    let l = length_two f (map (of_z w32) xs) (map (of_z w32) ys) a b in
    get_or-map (to_z w32) (zip2 f (map (of_z w32) xs) (map (of_z w32) ys)) i 0 (pos 0) (omega arith)
    ∙ ap (to_z w32) (rw (lane_two f (map (of_z w32) xs) (map (of_z w32) ys) a b i hi, lane_bits xs i lx hi, lane_bits ys i ly hi))

-- of means and differences of heights nothing wraps
module _ (m d : ℤ) (fd : SFits w32 d) (hm : Height m) (hd : Difference d) where
  pub first_lane : SFits w32 m → to_z w32 ((of_z w32 m + of_z w32 (shr_z (to_z w32 ((of_z w32 d + 1) % 4294967296)) 2)) % 4294967296) ≡ first_of m d
  unfolding first_of
  first_lane fm =
      let f1 : SFits w32 (pos 1) = omega (arith, ints) in
      let fs : SFits w32 (d +ℤ pos 1) = omega (arith, ints) in
      let e : to_z w32 ((of_z w32 d + 1) % 4294967296) ≡ d +ℤ pos 1 = wrapping_add_is w32 d (pos 1) fd f1 ∙ int_wrap_fits w32 (d +ℤ pos 1) fs in
      let fh : SFits w32 (half (d +ℤ pos 1)) = omega (arith, ints, half_is) in
      let fr : SFits w32 (m +ℤ half (d +ℤ pos 1)) = omega (arith, ints, half_is) in
      rw (e, shift_is (d +ℤ pos 1)) (wrapping_add_is w32 m (half (d +ℤ pos 1)) fm fh ∙ int_wrap_fits w32 (m +ℤ half (d +ℤ pos 1)) fr)

  pub second_lane : (a : ℤ) → a ≡ first_of m d → to_z w32 ((of_z w32 a + (4294967296 - of_z w32 d)) % 4294967296) ≡ second_of m d
  unfolding first_of second_of
  second_lane a e =
      let fa : SFits w32 a = omega (arith, ints, half_is) in
      let fr : SFits w32 (m +ℤ half (d +ℤ pos 1) -ℤ d) = omega (arith, ints, half_is) in
      wrapping_sub_is w32 a d fa fd ∙ ap (λ (z : ℤ). int_wrap w32 (z -ℤ d)) e ∙ int_wrap_fits w32 _ fr

pub first_fits : (m d : ℤ) → Height m → Difference d → SFits w32 (first_of m d)
unfolding first_of
first_fits m d hm hd = omega (arith, ints, half_is)

pub second_fits : (m d : ℤ) → Height m → Difference d → SFits w32 (second_of m d)
unfolding first_of second_of
second_fits m d hm hd = omega (arith, ints, half_is)

-- eight numbers stored by fours
pub stored : (a b c d e f g h : ℤ) (row : List ℤ) → length row ≡ 8 →
    put_mid 4 4 (put_chunk 0 (take 4 row) (a ∷ b ∷ c ∷ d ∷ []) ++ post_of 0 4 row) (put_chunk 0 (take 4 (drop 4 (put_chunk 0 (take 4 row) (a ∷ b ∷ c ∷ d ∷ []) ++ post_of 0 4 row))) (e ∷ f ∷ g ∷ h ∷ [])) ≡ a ∷ b ∷ c ∷ d ∷ e ∷ f ∷ g ∷ h ∷ []
stored a b c d e f g h (p ∷ q ∷ r ∷ s ∷ t ∷ u ∷ v ∷ w ∷ []) l = refl
stored a b c d e f g h [] l = absurd (omega arith)
stored a b c d e f g h (p ∷ []) l = absurd (omega arith)
stored a b c d e f g h (p ∷ q ∷ []) l = absurd (omega arith)
stored a b c d e f g h (p ∷ q ∷ r ∷ []) l = absurd (omega arith)
stored a b c d e f g h (p ∷ q ∷ r ∷ s ∷ []) l = absurd (omega arith)
stored a b c d e f g h (p ∷ q ∷ r ∷ s ∷ t ∷ []) l = absurd (omega arith)
stored a b c d e f g h (p ∷ q ∷ r ∷ s ∷ t ∷ u ∷ []) l = absurd (omega arith)
stored a b c d e f g h (p ∷ q ∷ r ∷ s ∷ t ∷ u ∷ v ∷ []) l = absurd (omega arith)
stored a b c d e f g h (p ∷ q ∷ r ∷ s ∷ t ∷ u ∷ v ∷ w ∷ x ∷ xs) l = absurd (omega arith)

-- two vectors in turn, each lane by its place in both of them joined
module _ (xs ys : List ℤ) (lx : length xs ≡ 4) (ly : length ys ≡ 4) where
  abbrev Lane : ℕ → ℤ
  Lane k = to_z w32 (of_z w32 (to_z w32 (get_or (map (of_z w32) xs ++ map (of_z w32) ys) k 0)))

  abbrev Turn : List ℤ
  Turn = Lane 0 ∷ Lane 4 ∷ Lane 1 ∷ Lane 5 ∷ Lane 2 ∷ Lane 6 ∷ Lane 3 ∷ Lane 7 ∷ []

  -- bits that are read, written and read again
  twice : (b : ℕ) (z : ℤ) → b ≡ of_z w32 z → SFits w32 z → to_z w32 (of_z w32 (to_z w32 b)) ≡ z
  twice b z e f = let g : to_z w32 b ≡ z = ap (to_z w32) e ∙ to_z-of_z w32 z f in ap (λ (a : ℤ). to_z w32 (of_z w32 a)) g ∙ to_z-of_z w32 z f

  of_first : (i : ℕ) → i < 4 → SFits w32 (line xs i) → Lane i ≡ line xs i
  of_first i hi = let l = length_bits xs lx in twice _ _ (get_or_append_left (map (of_z w32) xs) (map (of_z w32) ys) 0 i (omega arith) ∙ lane_bits xs i lx hi)

  of_second : (i k : ℕ) → k ≡ 4 + i → i < 4 → SFits w32 (line ys i) → Lane k ≡ line ys i
  of_second i k ek hi =
      let z : k - 4 ≡ i = omega arith in
      twice _ _ (get_or-append_right (map (of_z w32) xs) (map (of_z w32) ys) 4 k 0 (length_bits xs lx) (omega arith) ∙ rw z (lane_bits ys i ly hi))

  pub turn_first : (i : ℕ) → i < 4 → SFits w32 (line xs i) → line Turn (2 * i) ≡ line xs i
  turn_first zero = of_first 0
  turn_first (suc zero) = of_first 1
  turn_first (suc (suc zero)) = of_first 2
  turn_first (suc (suc (suc zero))) = of_first 3
  turn_first (suc (suc (suc (suc i)))) = λ h. absurd (omega arith)

  pub turn_second : (i : ℕ) → i < 4 → SFits w32 (line ys i) → line Turn (2 * i + 1) ≡ line ys i
  turn_second zero = of_second 0 4 refl
  turn_second (suc zero) = of_second 1 5 refl
  turn_second (suc (suc zero)) = of_second 2 6 refl
  turn_second (suc (suc (suc zero))) = of_second 3 7 refl
  turn_second (suc (suc (suc (suc i)))) = λ h. absurd (omega arith)

-- a vector that is passed
abbrev as_passed : List ℤ → List ℤ
as_passed xs = map (to_z w32) (map (of_z w32) xs)

passed_same : (xs : List ℤ) (i : ℕ) → i < length xs → SFits w32 (line xs i) → line (as_passed xs) i ≡ line xs i
passed_same xs i h f = let l = length-map xs (of_z w32) in get_or-map (to_z w32) (map (of_z w32) xs) i 0 (pos 0) (omega arith) ∙ ap (to_z w32) (get_or-map (of_z w32) xs i (pos 0) 0 h) ∙ to_z-of_z w32 _ f

-- and one of the first four of a list
loaded : (xs : List ℤ) (i : ℕ) → 4 ≤ length xs → i < 4 → SFits w32 (line xs i) → line (as_passed (take 4 (take 4 xs))) i ≡ line xs i
loaded xs i h hi f =
    let e : line (take 4 (take 4 xs)) i ≡ line xs i = get_or-take 4 (take 4 xs) i (pos 0) hi ∙ get_or-take 4 xs i (pos 0) hi in
    let a = length-take-le 4 xs h in
    let b = length-take-le 4 (take 4 xs) (omega arith) in
    passed_same (take 4 (take 4 xs)) i (omega arith) (rw e f) ∙ e

-- the lanes of four pairs: fs are the firsts of what is loaded of means and differences, ss the seconds of those
module _ (ms ds fs ss : List ℤ) (lm : 4 ≤ length ms) (ld : 4 ≤ length ds) (lf : length fs ≡ 4) (ls : length ss ≡ 4) (i : ℕ) (hi : i < 4)
    (first : Height (line (as_passed (take 4 (take 4 ms))) i) → Difference (line (as_passed (take 4 (take 4 ds))) i) → line fs i ≡ first_of (line (as_passed (take 4 (take 4 ms))) i) (line (as_passed (take 4 (take 4 ds))) i))
    (second : (m : ℤ) → Height m → Difference (line (as_passed (take 4 (take 4 ds))) i) → line (as_passed fs) i ≡ first_of m (line (as_passed (take 4 (take 4 ds))) i) → line ss i ≡ second_of m (line (as_passed (take 4 (take 4 ds))) i))
    (hm : Height (line ms i)) (hd : Difference (line ds i)) where
  load_means : line (as_passed (take 4 (take 4 ms))) i ≡ line ms i
  load_means = let f : SFits w32 (line ms i) = omega (arith, ints) in loaded ms i lm hi f

  load_differences : line (as_passed (take 4 (take 4 ds))) i ≡ line ds i
  load_differences = let f : SFits w32 (line ds i) = omega (arith, ints) in loaded ds i ld hi f

  firsts_are : line fs i ≡ first_of (line ms i) (line ds i)
  firsts_are = (rw (load_means, load_differences) at first) hm hd

  firsts_passed : line (as_passed fs) i ≡ first_of (line ms i) (line ds i)
  firsts_passed = passed_same fs i (omega arith) (rw firsts_are (first_fits (line ms i) (line ds i) hm hd)) ∙ firsts_are

  seconds_are : line ss i ≡ second_of (line ms i) (line ds i)
  seconds_are = (rw load_differences at (second (line ms i) hm)) hd firsts_passed

  pub first_written : (r : ℤ) → (SFits w32 (line (as_passed fs) i) → r ≡ line (as_passed fs) i) → r ≡ first_of (line ms i) (line ds i)
  first_written r e = e (rw firsts_passed (first_fits (line ms i) (line ds i) hm hd)) ∙ firsts_passed

  pub second_written : (r : ℤ) → (SFits w32 (line (as_passed ss) i) → r ≡ line (as_passed ss) i) → r ≡ second_of (line ms i) (line ds i)
  second_written r e =
      let f : SFits w32 (line ss i) = rw seconds_are (second_fits (line ms i) (line ds i) hm hd) in
      let p = passed_same ss i (omega arith) f in
      e (rw p f) ∙ p ∙ seconds_are
