-- A text as its lines, a line as its words, and numbers as words. Bytes are numbers below 256. Assumes nothing: these are definitions.
--     is_end, is_blank    the byte that ends a line; blank, tab, carriage return and line end, which part words
--     lines               the lines of a text: what stands between line ends; behind the last line end there is a line only if there is something
--     words               the words of a line: what stands between blanks, if there is something
--     number              a word of digits alone, at least one, whose value is below 2^64
--     height_number       the same with or without a minus sign, below 2^63
--     all_read            what each of the words reads as, or none where one of them cannot be read
use Rattle.std.specs.Prelude.{ℕ, ◌^◌, Bool, if◌then◌else◌, ◌&&◌, ◌||◌, List, [], ◌∷◌, length, drop, ℤ, pos, neg_ℤ, Some, None, Option, ◌==◌, nat_lt, slice_index}
use Rattle.std.specs.List.{flat_map, slice_split}
use Rattle.std.specs.Option.{option_map}
use Rattle.std.specs.Str.Parse.{digits_value}
use Rattle.std.specs.Str.{all_ascii_digits}

abbrev pub is_end : ℕ → Bool
is_end b = b == 10

abbrev pub is_blank : ℕ → Bool
is_blank b = b == 32 || (b == 9 || (b == 13 || b == 10))

abbrev pub if_some : List ℕ → List (List ℕ)
if_some [] = []
if_some (b ∷ bs) = (b ∷ bs) ∷ []

unfoldable pub but_last_empty : List (List ℕ) → List (List ℕ)
but_last_empty [] = []
but_last_empty (p ∷ []) = if_some p
but_last_empty (p ∷ q ∷ ps) = p ∷ but_last_empty (q ∷ ps)

unfoldable pub lines : List ℕ → List (List ℕ)
lines bs = but_last_empty (slice_split is_end bs)

unfoldable pub words : List ℕ → List (List ℕ)
words bs = flat_map if_some (slice_split is_blank bs)

abbrev pub number_below : (limit : ℕ) → List ℕ → Option ℕ
number_below limit w =
    if nat_lt 0 (length w) && (all_ascii_digits w && nat_lt (digits_value 10 w) limit) then Some (digits_value 10 w) else None

unfoldable pub number : List ℕ → Option ℕ
number w = number_below (2 ^ 64) w

unfoldable pub height_number : List ℕ → Option ℤ
height_number w =
    if slice_index w 0 == 45 then option_map (λ n. neg_ℤ (pos n)) (number_below (2 ^ 63) (drop 1 w)) else option_map pos (number_below (2 ^ 63) w)

abbrev pub put_before : {X : Type 0} → Option X → Option (List X) → Option (List X)
put_before None xs = None
put_before (Some x) None = None
put_before (Some x) (Some xs) = Some (x ∷ xs)

unfoldable pub all_read : {X : Type 0} → (List ℕ → Option X) → List (List ℕ) → Option (List X)
all_read reads [] = Some []
all_read reads (w ∷ ws) = put_before (reads w) (all_read reads ws)
