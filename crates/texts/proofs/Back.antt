-- What is written is read back. Assumes nothing.
use Rattle.std.proofs.Common.{◌≡◌, ℕ, suc, ◌+◌, ◌^◌, ◌<◌, false, List, [], ◌∷◌, ◌++◌, map, ℤ, pos, negsuc, neg_ℤ, Some, decimal, codes, refl, ap, ◌∙◌, arith, rules}
use lib.Signed.{mag}
use Rattle.std.specs.Option.{option_map}
use Rattle.std.specs.Str.Parse.{AllDigits}
use Rattle.std.specs.Int.{IsInRange}
use Rattle.std.specs.Fmt.{signed_decimal}
use Rattle.std.specs.List.{All, AllByRecursion}
use Rattle.std.proofs.lemmas.Fmt.{decimal_is_IsNumeral, decimal_nonempty}
use Rattle.std.proofs.lemmas.List.Elements.{All-nil, All-cons, All-head, All-tail, All-weaker, All-from_recursion}
use Rattle.std.proofs.lemmas.Str.Parse.{digit_at, digit_from_value}
use Rattle.std.proofs.lemmas.Bool.Decides.{nat_tests}
use Rattle.messages.specs.Writing.{row_text, rest_text}
use Rattle.messages.specs.declared.command.Command.{Command}
use Rattle.messages.specs.declared.command.Command.TheVariants.{Map, Level, Window, Set, Tower, Coarse}
use Rattle.texts.specs.Words.{is_blank, words, number_below, number, height_number, all_read}
use Rattle.texts.specs.Commands.{named, with_numbers, row}
use Rattle.texts.specs.Laws.{NumberBack, HeightBack, RowBack, CommandBack, its_name, its_numbers, numbers_text}
use Rattle.texts.proofs.Pieces.{Whole, Parted, Word, words_none, words_blank, words_word}
use Rattle.texts.proofs.Numbers.{below_some, height_plain, height_minus}
use Rattle.texts.proofs.Readings.{all_read_map}
use Rattle.texts.proofs.Named.{command_is}

-- numbers

below_back : (limit n : ℕ) → n < limit → n < 2 ^ 64 → number_below limit (decimal n) ≡ Some n
below_back limit n small h =
    let r = decimal_is_IsNumeral n h in
    below_some limit (decimal n) (decimal_nonempty n h) r.0.1 (omega (arith, r.1)) ∙ ap Some r.1

pub number_back_lem : NumberBack
unfolding number
number_back_lem n h = below_back (2 ^ 64) n h h

pub height_back_lem : HeightBack
height_back_lem (pos n) h =
    let r = decimal_is_IsNumeral n (omega arith) in
    let d = digit_at (decimal n) 0 r.0.1 (decimal_nonempty n (omega arith)) in
    height_plain (decimal n) (λ e. omega (arith, e, d.0)) ∙ ap (option_map pos) (below_back (2 ^ 63) n (omega arith) (omega arith))
height_back_lem (negsuc n) h =
    height_minus (45 ∷ decimal (suc n)) refl ∙ ap (option_map (λ n. neg_ℤ (pos n))) (below_back (2 ^ 63) (suc n) (omega arith) (omega arith))

-- their words

digit_whole : (c : ℕ) → IsInRange 48 57 c → is_blank c ≡ false
digit_whole c h = grind (arith, nat_tests)

digits_whole : (ds : List ℕ) → AllDigits 10 ds → Whole is_blank ds
digits_whole [] h = All-nil (λ b. is_blank b ≡ false)
digits_whole (c ∷ cs) h = All-cons (λ b. is_blank b ≡ false) c cs (digit_whole c (digit_from_value c h.0)) (digits_whole cs h.1)

decimal_word : (n : ℕ) → n < 2 ^ 64 → Word (decimal n)
decimal_word n h = (decimal_nonempty n h, digits_whole (decimal n) (decimal_is_IsNumeral n h).0.1)

signed_word : (z : ℤ) → mag z + 1 < 2 ^ 63 → Word (signed_decimal z)
signed_word (pos n) h = decimal_word n (omega arith)
signed_word (negsuc n) h = (omega arith, All-cons (λ b. is_blank b ≡ false) 45 _ refl (decimal_word (suc n) (omega arith)).1)

-- a word behind a blank
after_blank : (w rest : List ℕ) (ws : List (List ℕ)) → Word w → Parted is_blank rest → words rest ≡ ws → words (32 ∷ (w ++ rest)) ≡ w ∷ ws
after_blank w rest ws h p e = words_blank 32 (w ++ rest) refl ∙ words_word w rest h p ∙ ap (λ vs. w ∷ vs) e

-- a row

parted_rest : (zs : List ℤ) → Parted is_blank (rest_text zs)
unfolding rest_text
parted_rest [] = refl
parted_rest (z ∷ zs) = refl

rest_words : (zs : List ℤ) → All (λ z. mag z + 1 < 2 ^ 63) zs → words (rest_text zs) ≡ map signed_decimal zs
unfolding rest_text
rest_words [] h = words_blank 10 [] refl ∙ words_none
rest_words (z ∷ zs) h = after_blank (signed_decimal z) (rest_text zs) (map signed_decimal zs) (signed_word z (All-head (λ z. mag z + 1 < 2 ^ 63) z zs h)) (parted_rest zs) (rest_words zs (All-tail (λ z. mag z + 1 < 2 ^ 63) z zs h))

row_words : (zs : List ℤ) → All (λ z. mag z + 1 < 2 ^ 63) zs → words (row_text zs) ≡ map signed_decimal zs
unfolding row_text
row_words [] h = words_blank 10 [] refl ∙ words_none
row_words (z ∷ zs) h = words_word (signed_decimal z) (rest_text zs) (signed_word z (All-head (λ z. mag z + 1 < 2 ^ 63) z zs h)) (parted_rest zs) ∙ ap (λ ws. signed_decimal z ∷ ws) (rest_words zs (All-tail (λ z. mag z + 1 < 2 ^ 63) z zs h))

pub row_back_lem : RowBack
unfolding row
row_back_lem zs h = ap (all_read height_number) (row_words zs h) ∙ all_read_map height_number signed_decimal zs (All-weaker (λ z. mag z + 1 < 2 ^ 63) (λ z. height_number (signed_decimal z) ≡ Some z) height_back_lem zs h)

-- a command

parted_numbers : (ns : List ℕ) → Parted is_blank (numbers_text ns)
unfolding numbers_text
parted_numbers [] = tt
parted_numbers (n ∷ ns) = refl

numbers_words : (ns : List ℕ) → All (λ n. n < 2 ^ 64) ns → words (numbers_text ns) ≡ map decimal ns
unfolding numbers_text
numbers_words [] h = words_none
numbers_words (n ∷ ns) h = after_blank (decimal n) (numbers_text ns) (map decimal ns) (decimal_word n (All-head (λ n. n < 2 ^ 64) n ns h)) (parted_numbers ns) (numbers_words ns (All-tail (λ n. n < 2 ^ 64) n ns h))

numbers_back : (ns : List ℕ) → All (λ n. n < 2 ^ 64) ns → all_read number (words (numbers_text ns)) ≡ Some ns
numbers_back ns h = ap (all_read number) (numbers_words ns h) ∙ all_read_map number decimal ns (All-weaker (λ n. n < 2 ^ 64) (λ n. number (decimal n) ≡ Some n) number_back_lem ns h)

whole_name : (bs : List ℕ) → AllByRecursion (λ b. is_blank b ≡ false) bs → Whole is_blank bs
whole_name bs h = All-from_recursion (λ b. is_blank b ≡ false) bs h

name_word : (c : Command) → Word (its_name c)
name_word (Map k) = (search rules, whole_name (codes "map") (search rules))
name_word (Level l) = (search rules, whole_name (codes "level") (search rules))
name_word (Window x y wide high) = (search rules, whole_name (codes "window") (search rules))
name_word (Set x y height) = (search rules, whole_name (codes "set") (search rules))
name_word Tower = (search rules, whole_name (codes "tower") (search rules))
name_word (Coarse l) = (search rules, whole_name (codes "coarse") (search rules))

named_back : (c : Command) → named (its_name c) (its_numbers c) ≡ Some c
unfolding named
named_back (Map k) = refl
named_back (Level l) = refl
named_back (Window x y wide high) = refl
named_back (Set x y height) = refl
named_back Tower = refl
named_back (Coarse l) = refl

pub command_back_lem : CommandBack
command_back_lem c h =
    let text = numbers_text (its_numbers c) in
    command_is (its_name c ++ text) (its_name c) (words text) (words_word (its_name c) text (name_word c) (parted_numbers (its_numbers c))) ∙
    ap (with_numbers (its_name c)) (numbers_back (its_numbers c) h) ∙ named_back c
