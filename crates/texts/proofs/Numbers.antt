-- When a word is a number, and which. Assumes nothing.
use Rattle.std.proofs.Common.{◌≡◌, ℕ, ◌+◌, ◌-◌, ◌*◌, ◌^◌, ◌<◌, ◌≤◌, true, ◌&&◌, ltb, List, map, length, get_or, take, drop, ℤ, pos, ◌-ℤ◌, neg_ℤ, Some, None, Ok, Err, Option, Result, sym, refl, ap, ◌∙◌, ⊎_elim, arith, w64, SFits, to_z, of_z}
use Rattle.std.specs.Str.Parse.{AllDigits, digits_value}
use Rattle.std.specs.Int.{IsInRange, IsOutOfRange}
use Rattle.std.specs.Char.{digit_value}
use Rattle.std.specs.Str.{all_ascii_digits}
use Rattle.std.specs.Result.{OkIff, result_ok}
use Rattle.std.specs.Option.{option_map}
use Rattle.std.specs.Int.Digits.{number_from_digits_after}
use Rattle.std.proofs.lemmas.Int.Digits.{digits_value_is, digits_value_more, number_after_append, number_after_ge}
use Rattle.std.proofs.lemmas.List.{take-append-drop, take_rest, map-append}
use Rattle.std.proofs.lemmas.Str.Parse.{IsNumeralModel, numerals_by_value, tells_all_ascii_digits, digit_at}
use Rattle.std.proofs.lemmas.Int.{ints}
use Rattle.std.specs.List.{between}
use Rattle.std.proofs.lemmas.Str.{digit_value_digit}
use Rattle.std.proofs.lemmas.Bool.{cond-true, cond-false, cases_Bool, and_from, and_parts, lt-ltb, ltb-true, eq-eqb, ne_eqb}
use Rattle.texts.specs.Words.{number_below, number, height_number}

-- the words of `number_below`, in the library's terms
digits : IsNumeralModel (λ ds. all_ascii_digits ds ≡ true) (digits_value 10)
digits = numerals_by_value _ tells_all_ascii_digits

pub below_some : (limit : ℕ) (w : List ℕ) → 0 < length w → AllDigits 10 w → digits_value 10 w < limit → number_below limit w ≡ Some (digits_value 10 w)
below_some limit w some h small =
    cond-true _ _ _ (and_from _ _ (lt-ltb 0 (length w) some) (and_from _ _ (digits.from w h) (lt-ltb (digits_value 10 w) limit small)))

below_none : (limit : ℕ) (w : List ℕ) → (0 < length w → AllDigits 10 w → digits_value 10 w < limit → ⊥) → number_below limit w ≡ None
below_none limit w h =
    ⊎_elim
    (λ e. let p = and_parts _ _ e in
    let q = and_parts _ _ p.1 in
    absurd (h (ltb-true _ _ p.0) (digits.to w q.0) (ltb-true _ _ q.1)))
    (λ e. cond-false _ _ _ e)
    (cases_Bool (ltb 0 (length w) && (all_ascii_digits w && ltb (digits_value 10 w) limit)))

-- the value only grows
value_front : (w : List ℕ) (n : ℕ) → digits_value 10 (take n w) ≤ digits_value 10 w
value_front w n =
    let front = map digit_value (take n w) in
    let rest = map digit_value (drop n w) in
    let whole = digits_value_is 10 w ∙ ap (λ l. number_from_digits_after 10 0 (map digit_value l)) (sym (take-append-drop n w)) ∙ ap (number_from_digits_after 10 0) (map-append digit_value (take n w) (drop n w)) ∙ number_after_append 10 0 front rest in
    omega (arith, digits_value_is 10 (take n w), whole, number_after_ge 10 (number_from_digits_after 10 0 front) rest (omega arith))

-- with one digit more
pub value_next : (w : List ℕ) (i : ℕ) → i < length w → IsInRange 48 57 (get_or w i 0) → digits_value 10 (take (i + 1) w) ≡ digits_value 10 (take i w) * 10 + (get_or w i 0 - 48)
value_next w i h d = digits_value_more 10 w i h ∙ ap (λ k. digits_value 10 (take i w) * 10 + k) (omega (arith, digit_value_digit (get_or w i 0) d))

pub number_some : (w : List ℕ) → 0 < length w → AllDigits 10 w → digits_value 10 w < 2 ^ 64 → number w ≡ Some (digits_value 10 w)
unfolding number
number_some w some h small = below_some (2 ^ 64) w some h small

pub number_empty : (w : List ℕ) → length w ≡ 0 → number w ≡ None
unfolding number
number_empty w e = below_none (2 ^ 64) w (λ some h small. omega arith)

-- a byte that is no digit
pub number_other : (w : List ℕ) (i : ℕ) → i < length w → IsOutOfRange 48 57 (get_or w i 0) → number w ≡ None
unfolding number
number_other w i l other = below_none (2 ^ 64) w (λ some h small. let d = digit_at w i h l in ⊎_elim (λ low. omega arith) (λ high. omega arith) other)

-- too much at a digit
pub number_big : (w : List ℕ) (i : ℕ) → i < length w → IsInRange 48 57 (get_or w i 0) → 2 ^ 64 ≤ digits_value 10 (take i w) * 10 + (get_or w i 0 - 48) → number w ≡ None
unfolding number
number_big w i l d big = below_none (2 ^ 64) w (λ some h small. omega (arith, value_next w i l d, value_front w (i + 1)))

-- what is read comes from digits
below_is : (limit : ℕ) (w : List ℕ) (n : ℕ) → number_below limit w ≡ Some n → (0 < length w) × AllDigits 10 w × (digits_value 10 w ≡ n) × (n < limit)
below_is limit w n e =
    ⊎_elim
    (λ t. let p = and_parts _ _ t in
    let q = and_parts _ _ p.1 in
    let same = sym (cond-true _ _ _ t) ∙ e in
    let v : digits_value 10 w ≡ n = cc in
    (ltb-true _ _ p.0, digits.to w q.0, v, omega (arith, v, ltb-true _ _ q.1)))
    (λ t. let same = sym (cond-false _ _ _ t) ∙ e in absurd (grind arith))
    (cases_Bool (ltb 0 (length w) && (all_ascii_digits w && ltb (digits_value 10 w) limit)))

-- what is below 2^63 is what fits a signed number of 64 bits
pub half_none : (w : List ℕ) → number w ≡ None → number_below (2 ^ 63) w ≡ None
half_none w e = below_none (2 ^ 63) w (λ some h small. let same = sym (number_some w some h (omega arith)) ∙ e in grind arith)

pub half_some : {E : Type 0} (w : List ℕ) (n : ℕ) (r : Result ℤ E) → number w ≡ Some n → OkIff r (SFits w64 (pos n)) (pos n) → result_ok r ≡ option_map pos (number_below (2 ^ 63) w)
unfolding number
half_some w n (Ok x) e h =
    let p = below_is (2 ^ 64) w n e in
    ap Some h.1 ∙ ap (option_map pos) (sym (below_some (2 ^ 63) w p.0 p.1 (omega (arith, p.2, h.0.sfits)) ∙ ap Some p.2))
half_some w n (Err x) e h =
    ap (option_map pos) (sym (below_none (2 ^ 63) w (λ some d small. h (record { sfits = omega (arith, (below_is (2 ^ 64) w n e).2) }))))

-- heights

pub height_plain : (w : List ℕ) → (get_or w 0 0 ≡ 45 → ⊥) → height_number w ≡ option_map pos (number_below (2 ^ 63) w)
unfolding height_number
height_plain w e = cond-false _ _ _ (ne_eqb _ 45 e)

pub height_minus : (w : List ℕ) → get_or w 0 0 ≡ 45 → height_number w ≡ option_map (λ n. neg_ℤ (pos n)) (number_below (2 ^ 63) (drop 1 w))
unfolding height_number
height_minus w e = cond-true _ _ _ (eq-eqb _ 45 e)

-- what the code's `-` gives
abbrev minus : ℤ → ℤ
minus z = to_z w64 (of_z w64 (pos 0 -ℤ to_z w64 (of_z w64 z)))

minus_is : (n : ℕ) → n < 2 ^ 63 → neg_ℤ (pos n) ≡ minus (pos n)
minus_is n h = omega (arith, ints)

minus_each : (o : Option ℕ) → ((n : ℕ) → o ≡ Some n → n < 2 ^ 63) → option_map (λ n. neg_ℤ (pos n)) o ≡ option_map minus (option_map pos o)
minus_each None h = refl
minus_each (Some n) h = ap Some (minus_is n (h n refl))

-- the digits are read as `&word[1..]`
pub height_minus_read : (w : List ℕ) (o : Option ℤ) → get_or w 0 0 ≡ 45 → o ≡ option_map pos (number_below (2 ^ 63) (between 1 (length w) w)) → height_number w ≡ option_map minus o
height_minus_read w o e h =
    height_minus w e ∙ minus_each (number_below (2 ^ 63) (drop 1 w)) (λ n r. (below_is (2 ^ 63) (drop 1 w) n r).3) ∙ ap (option_map minus) (sym (h ∙ ap (λ ds. option_map pos (number_below (2 ^ 63) ds)) (take_rest w 1)))
