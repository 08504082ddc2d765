-- The first line of a text and the first word of a line. Assumes nothing.
use Rattle.std.proofs.Common.{below_more, ⊎_elim, ◌≡◌, ℕ, zero, suc, ◌+◌, ◌-◌, ◌<◌, ◌≤◌, Bool, true, false, not, cond, ltb, List, [], ◌∷◌, ◌++◌, length, get_or, take, drop, unwrap_or, Some, None, Option, sym, refl, ap, ◌∙◌, append-nil, add-zero, arith, take-append-drop, length-drop, ltb-false}
use Rattle.std.specs.List.{All, flat_map, slice_split, onto_first, position, position_or_len}
use Rattle.std.proofs.lemmas.Bool.{cases_lt, lt-ltb, le-ltb, false≢true}
use Rattle.std.proofs.lemmas.List.{get_or-take, get_or-drop, drop_all, length-take-le, take_rest}
use Rattle.std.proofs.lemmas.List.Elements.{All-from_get_or}
use Rattle.std.proofs.lemmas.List.Quantifiers.{position-Some}
use Rattle.std.proofs.lemmas.List.Splits.{slice_split-cons_yes, slice_split_none, slice_split_at, slice_split_first}
use Rattle.std.proofs.lemmas.List.Sums.{fails_before_first, passes_at_first, prefix_len-le-length}
use Rattle.texts.specs.Words.{if_some, but_last_empty, lines, words, is_end, is_blank}

-- bytes that do not part
abbrev pub Whole : (ℕ → Bool) → List ℕ → Type 0
Whole parts bs = All (λ b. parts b ≡ false) bs

-- the end, or a byte that parts
abbrev pub Parted : (ℕ → Bool) → List ℕ → Type 0
Parted parts [] = Unit {0}
Parted parts (b ∷ bs) = parts b ≡ true

-- the first bytes, so many, do not pass a test
abbrev pub Unmet : (ℕ → Bool) → List ℕ → ℕ → Type 0
Unmet p bs n = (k : ℕ) → k < n → p (get_or bs k 0) ≡ false

-- the first byte that does, as it is met on the way
module _ (p : ℕ → Bool) (bs : List ℕ) where
  pub unmet_more : (n : ℕ) → p (get_or bs n 0) ≡ false → Unmet p bs n → Unmet p bs (n + 1)
  unmet_more n e o = below_more _ _ o e

  met_at : (n : ℕ) → n ≤ length bs → Unmet p bs n → (n < length bs → p (get_or bs n 0) ≡ true) → position_or_len p bs ≡ n
  met_at n h o e =
      let m = position_or_len p bs in
      let within : position_or_len p bs ≤ length bs = prefix_len-le-length (λ b. not (p b)) bs in
      ⊎_elim
      (λ (l : position_or_len p bs < n). absurd (false≢true (sym (o m l) ∙ passes_at_first p bs 0 (omega arith))))
      (λ (g : n ≤ position_or_len p bs). ⊎_elim
      (λ (l : n < position_or_len p bs). absurd (false≢true (sym (fails_before_first p bs n 0 l) ∙ e (omega arith))))
      (λ (k : position_or_len p bs ≤ n). omega arith)
      (cases_lt n m))
      (cases_lt m n)

  pub met : (n : ℕ) → n < length bs → Unmet p bs n → p (get_or bs n 0) ≡ true → Some n ≡ position p bs
  met n h o e = let i = met_at n (omega arith) o (λ _. e) in rw (i, lt-ltb n (length bs) h) refl

  pub unmet : Unmet p bs (length bs) → None ≡ position p bs
  unmet o = let i = met_at (length bs) (omega arith) o (λ l. absurd (omega arith)) in rw (i, le-ltb (length bs) (length bs) (omega arith)) refl

-- what `position` answers
found : (p : ℕ → Bool) (bs : List ℕ) (i : ℕ) → Some i ≡ position p bs → position_or_len p bs ≡ i
found p bs i e = go (ltb (position_or_len p bs) (length bs)) e
  where
    go : (t : Bool) → Some i ≡ cond t (Some (position_or_len p bs)) None → position_or_len p bs ≡ i
    go true e = cc
    go false e = cc

pub lost : (p : ℕ → Bool) (bs : List ℕ) → None ≡ position p bs → position_or_len p bs ≡ length bs
lost p bs e = let le = prefix_len-le-length (λ b. not (p b)) bs in omega (arith, go (ltb (position_or_len p bs) (length bs)) refl e)
  where
    go : (t : Bool) → ltb (position_or_len p bs) (length bs) ≡ t → None ≡ cond t (Some (position_or_len p bs)) None → length bs ≤ position_or_len p bs
    go true t e = absurd (cc)
    go false t e = ltb-false _ _ t

pub or_length : (p : ℕ → Bool) (bs : List ℕ) (o : Option ℕ) (n : ℕ) → o ≡ position p bs → n ≡ unwrap_or o (length bs) → n ≡ position_or_len p bs
or_length p bs (Some i) n e f = f ∙ sym (found p bs i e)
or_length p bs None n e f = f ∙ sym (lost p bs e)

-- by index: the bytes below n do not part
before_part : (parts : ℕ → Bool) (bs : List ℕ) (n : ℕ) → n ≤ length bs → n ≤ position_or_len parts bs → Whole parts (take n bs)
before_part parts bs n h le =
    All-from_get_or (λ b. parts b ≡ false) (take n bs) 0
    (λ i l. let k : i < n = omega (arith, length-take-le n bs h) in ap parts (get_or-take n bs i 0 k) ∙ fails_before_first parts bs i 0 (omega arith))

-- and the byte at n parts, if there is one
at_part : (parts : ℕ → Bool) (bs : List ℕ) (n : ℕ) → (n < length bs → parts (get_or bs n 0) ≡ true) → Parted parts (drop n bs)
at_part parts [] zero h = tt
at_part parts [] (suc n) h = tt
at_part parts (b ∷ bs) zero h = h (omega arith)
at_part parts (b ∷ bs) (suc n) h = at_part parts bs n (λ l. h (omega arith))

-- words

pub words_none : words [] ≡ []
unfolding words
words_none = refl

pub words_blank : (b : ℕ) (bs : List ℕ) → is_blank b ≡ true → words (b ∷ bs) ≡ words bs
unfolding words
words_blank b bs e = ap (flat_map if_some) (slice_split-cons_yes is_blank b bs e)

-- blanks at the front do not matter
pub words_skip : (bs : List ℕ) → words bs ≡ words (drop (position_or_len (λ b. not (is_blank b)) bs) bs)
words_skip [] = refl
words_skip (b ∷ bs) = go (is_blank b) refl (words_skip bs)
  where
    n : ℕ
    n = position_or_len (λ b. not (is_blank b)) bs

    go : (t : Bool) → is_blank b ≡ t → words bs ≡ words (drop n bs) → words (b ∷ bs) ≡ words (drop (cond (not (not t)) (1 + n) 0) (b ∷ bs))
    go true e rec = let s : 1 + n ≡ suc n = omega arith in rw s (words_blank b bs e ∙ rec)
    go false e rec = refl

-- bytes that make a word
abbrev pub Word : List ℕ → Type 0
Word w = (0 < length w) × Whole is_blank w

pub words_word : (w rest : List ℕ) → Word w → Parted is_blank rest → words (w ++ rest) ≡ w ∷ words rest
unfolding words
words_word [] rest h p = absurd (omega arith)
words_word (b ∷ w) [] h p = ap (flat_map if_some) (ap (slice_split is_blank) (append-nil (b ∷ w)) ∙ slice_split_none is_blank (b ∷ w) h.1)
words_word (b ∷ w) (c ∷ rest) h p =
    ap (flat_map if_some) (slice_split_at is_blank (b ∷ w) c rest h.1 p) ∙ ap (λ ws. (b ∷ w) ∷ ws) (sym (words_blank c rest p))

pub words_lost : (bs : List ℕ) → None ≡ position (λ b. not (is_blank b)) bs → words bs ≡ []
words_lost bs e = words_skip bs ∙ ap words (drop_all _ bs (omega (arith, lost _ bs e))) ∙ words_none

-- a text that begins with a word
words_cut : (bs : List ℕ) → 0 < position_or_len is_blank bs → words bs ≡ take (position_or_len is_blank bs) bs ∷ words (drop (position_or_len is_blank bs) bs)
words_cut bs some =
    let n = position_or_len is_blank bs in
    let within : n ≤ length bs = prefix_len-le-length (λ b. not (is_blank b)) bs in
    ap words (sym (take-append-drop n bs)) ∙
    words_word (take n bs) (drop n bs) (omega (arith, length-take-le n bs within), before_part is_blank bs n within (omega arith)) (at_part is_blank bs n (passes_at_first is_blank bs 0))

not_true : (t : Bool) → not t ≡ true → t ≡ false
not_true true e = cc
not_true false e = refl

some_word : (bs : List ℕ) → 0 < length bs → is_blank (get_or bs 0 0) ≡ false → 0 < position_or_len is_blank bs
some_word [] some e = absurd (omega arith)
some_word (b ∷ bs) some e = rw e (omega arith)

-- the first word of a line, and what follows it
module _ (line : List ℕ) (begin : ℕ) (text : List ℕ) (e : Some begin ≡ position (λ b. not (is_blank b)) line) (et : text ≡ take (length line - begin) (drop begin line)) where
  same : text ≡ drop begin line
  same = et ∙ take_rest line begin

  pub word_there : 0 < position_or_len is_blank text
  word_there =
      let here = position-Some (λ b. not (is_blank b)) line begin 0 (sym e) in
      let first : is_blank (get_or text 0 0) ≡ false =
      ap (λ (l : List ℕ). is_blank (get_or l 0 0)) same ∙ ap is_blank (get_or-drop begin line 0 0 ∙ ap (λ (i : ℕ). get_or line i 0) (add-zero begin)) ∙ not_true _ here.1 in
      some_word text (omega (arith, ap length same, length-drop begin line, here.0)) first

  pub words_found : (end : ℕ) → end ≡ position_or_len is_blank text → words line ≡ take end text ∷ words (drop end text)
  words_found end en = words_skip line ∙ ap words (ap (λ (n : ℕ). drop n line) (found _ line begin e) ∙ sym same) ∙ rw en (words_cut text word_there)

-- lines

pub lines_none : lines [] ≡ []
unfolding lines but_last_empty
lines_none = refl

-- there is always a part, so a part before it is kept
pub kept_before : (parts : ℕ → Bool) (p bs : List ℕ) → but_last_empty (p ∷ slice_split parts bs) ≡ p ∷ but_last_empty (slice_split parts bs)
unfolding but_last_empty
kept_before parts p [] = refl
kept_before parts p (b ∷ bs) = go (parts b)
  where
    onto : (ps : List (List ℕ)) → but_last_empty (p ∷ onto_first b ps) ≡ p ∷ but_last_empty (onto_first b ps)
    onto [] = refl
    onto (q ∷ ps) = refl

    go : (t : Bool) → but_last_empty (p ∷ cond t ([] ∷ slice_split parts bs) (onto_first b (slice_split parts bs))) ≡ p ∷ but_last_empty (cond t ([] ∷ slice_split parts bs) (onto_first b (slice_split parts bs)))
    go true = refl
    go false = onto (slice_split parts bs)

pub lines_lost : (text : List ℕ) → 0 < length text → None ≡ position is_end text → lines text ≡ text ∷ []
unfolding lines but_last_empty
lines_lost [] some e = absurd (omega arith)
lines_lost (b ∷ text) some e =
    ap but_last_empty (slice_split_none is_end (b ∷ text) (All-from_get_or (λ b. is_end b ≡ false) (b ∷ text) 0 (λ i l. fails_before_first is_end (b ∷ text) i 0 (omega (arith, lost is_end (b ∷ text) e)))))

pub lines_found : (text : List ℕ) (end : ℕ) → Some end ≡ position is_end text → lines text ≡ take end text ∷ lines (drop (end + 1) text)
unfolding lines
lines_found text end e =
    let here = position-Some is_end text end 0 (sym e) in
    let at = found is_end text end e in
    ap but_last_empty (slice_split_first is_end text 0 (omega (arith, here.0)) ∙ ap (λ (n : ℕ). take n text ∷ slice_split is_end (drop (n + 1) text)) at) ∙ kept_before is_end (take end text) (drop (end + 1) text)
