-- How a line reads, by its words. Assumes nothing.
use Rattle.std.proofs.Common.{◌≡◌, ℕ, ◌<◌, false, ◌||◌, eqb, List, [], ◌∷◌, ◌++◌, map, length, get_or, Some, None, Option, sym, refl, ap, ◌∙◌, append_assoc, append-nil, arith, length-append}
use Rattle.std.specs.Option.{option_map}
use Rattle.std.specs.Char.{is_ascii_digit}
use Rattle.std.specs.List.{All}
use Rattle.std.proofs.lemmas.List.Elements.{All-head, All-tail}
use Rattle.texts.specs.Words.{words, put_before, all_read}
use Rattle.texts.specs.Commands.{is_row, begins_row}

-- of the words `all`, the first read as xs, and ws are left
abbrev pub ReadSoFar : {X : Type 0} → (List ℕ → Option X) → (all ws : List (List ℕ)) → List X → Type 0
ReadSoFar reads all ws xs = all_read reads all ≡ option_map (λ ys. xs ++ ys) (all_read reads ws)

module _ {X : Type 0} (reads : List ℕ → Option X) where
  pub so_far_all : (all ws : List (List ℕ)) (xs : List X) → ReadSoFar reads all ws xs → ws ≡ [] → all_read reads all ≡ Some xs
  unfolding all_read
  so_far_all all ws xs h e = h ∙ ap (λ vs. option_map (λ ys. xs ++ ys) (all_read reads vs)) e ∙ ap Some (append-nil xs)

  one_more : (xs : List X) (x : X) (o : Option (List X)) → option_map (λ ys. xs ++ ys) (put_before (Some x) o) ≡ option_map (λ ys. (xs ++ x ∷ []) ++ ys) o
  one_more xs x None = refl
  one_more xs x (Some ys) = ap Some (sym (append_assoc xs (x ∷ []) ys))

  more_than : (xs : List X) (r : Option X) (o : Option (List X)) (ns : List X) → option_map (λ ys. xs ++ ys) (put_before r o) ≡ Some ns → length xs < length ns
  more_than xs None o ns e = absurd (grind arith)
  more_than xs (Some x) None ns e = absurd (grind arith)
  more_than xs (Some x) (Some ys) ns e = let same : xs ++ x ∷ ys ≡ ns = cc in omega (arith, ap length same, length-append xs (x ∷ ys))

  -- a word is left
  module _ (all ws : List (List ℕ)) (w : List ℕ) (vs : List (List ℕ)) (xs : List X) (h : ReadSoFar reads all ws xs) (e : ws ≡ w ∷ vs) where
    at_word : all_read reads all ≡ option_map (λ ys. xs ++ ys) (put_before (reads w) (all_read reads vs))
    unfolding all_read
    at_word = h ∙ ap (λ us. option_map (λ ys. xs ++ ys) (all_read reads us)) e

    pub so_far_more : (x : X) → Some x ≡ reads w → ReadSoFar reads all vs (xs ++ x ∷ [])
    so_far_more x r = at_word ∙ ap (λ o. option_map (λ ys. xs ++ ys) (put_before o (all_read reads vs))) (sym r) ∙ one_more xs x (all_read reads vs)

    pub so_far_wrong : None ≡ reads w → all_read reads all ≡ None
    so_far_wrong r = at_word ∙ ap (λ o. option_map (λ ys. xs ++ ys) (put_before o (all_read reads vs))) (sym r)

    pub so_far_less : (ns : List X) → all_read reads all ≡ Some ns → length xs < length ns
    so_far_less ns r = more_than xs (reads w) (all_read reads vs) ns (sym at_word ∙ r)

  -- words that were written of xs
  pub all_read_map : (text : X → List ℕ) (xs : List X) → All (λ x. reads (text x) ≡ Some x) xs → all_read reads (map text xs) ≡ Some xs
  unfolding all_read
  all_read_map text [] h = refl
  all_read_map text (x ∷ xs) h = ap (λ o. put_before o (all_read reads (map text xs))) (All-head (λ x. reads (text x) ≡ Some x) x xs h) ∙ ap (put_before (Some x)) (all_read_map text xs (All-tail (λ x. reads (text x) ≡ Some x) x xs h))

pub row_none : (line : List ℕ) → words line ≡ [] → is_row line ≡ false
unfolding is_row
row_none line e = ap begins_row e

pub row_begins : (line w : List ℕ) (ws : List (List ℕ)) → words line ≡ w ∷ ws → is_row line ≡ (is_ascii_digit (get_or w 0 0) || eqb (get_or w 0 0) 45)
unfolding is_row
row_begins line w ws e = ap begins_row e
