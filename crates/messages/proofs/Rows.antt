-- A row written number by number. Assumes nothing.
use Rattle.std.proofs.Common.{◌≡◌, ℕ, ◌+◌, ◌-◌, ◌*◌, ◌<◌, ◌≤◌, List, [], ◌∷◌, ◌++◌, map, length, get_or, take, drop, ℤ, pos, OnOk, Result, sym, ap, ◌∙◌, append_assoc, mul-le-mul_left, zero-add, add-one, arith, length-drop, drop-cons}
use Rattle.std.specs.List.{range_with_len, flat_map}
use Rattle.std.specs.Fmt.{signed_decimal}
use Rattle.std.proofs.lemmas.List.{drop_all, drop-drop, take_all, flat_map_more}
use Rattle.std.proofs.lemmas.List.FromFn.{map-range_with_len_more}
use Rattle.std.proofs.lemmas.Result.{on_ok_weaker}
use Rattle.messages.specs.Writing.{rest_text, row_text, rows_of}

-- the text is `before`, then one number more is written: what is still to come makes the same whole
pub rest_more : (zs : List ℤ) (i : ℕ) (before after whole : List ℕ) → i < length zs → after ≡ before ++ (32 ∷ signed_decimal (get_or zs i (pos 0))) → before ++ rest_text (drop i zs) ≡ whole → after ++ rest_text (drop (i + 1) zs) ≡ whole
unfolding rest_text
rest_more zs i before after whole lt e so_far =
    rw (e, append_assoc, add-one) (rw (drop-cons zs i (pos 0) lt) at so_far)

pub rest_end : {X Y : Type 0} (r : Result X Y) (zs : List ℤ) (i : ℕ) (so_far after whole : List ℕ) → length zs ≤ i → OnOk r (after ≡ so_far ++ (10 ∷ [])) → so_far ++ rest_text (drop i zs) ≡ whole → OnOk r (after ≡ whole)
unfolding rest_text
rest_end r zs i so_far after whole le said e = on_ok_weaker r (λ f. f ∙ (rw (drop_all i zs le) at e)) said

pub row_empty : {X Y : Type 0} (r : Result X Y) (zs : List ℤ) (before after : List ℕ) → length zs < 1 → OnOk r (after ≡ before ++ (10 ∷ [])) → OnOk r (after ≡ before ++ row_text zs)
unfolding row_text
row_empty r [] before after e said = said
row_empty r (z ∷ zs) before after e said = absurd (omega arith)

pub row_first : {X Y : Type 0} (r : Result X Y) (zs : List ℤ) (before first after : List ℕ) → 1 ≤ length zs → first ≡ before ++ signed_decimal (get_or zs 0 (pos 0)) → OnOk r (after ≡ first ++ rest_text (take (length zs - 1) (drop 1 zs))) → OnOk r (after ≡ before ++ row_text zs)
unfolding row_text
row_first r [] before first after some e said = absurd (omega arith)
row_first r (z ∷ zs) before first after some e said =
    on_ok_weaker r (λ f. f ∙ rw (take_all (length (z ∷ zs) - 1) zs (omega arith), e) (append_assoc before (signed_decimal z) (rest_text zs))) said

-- the rows from v on
pub rows_left : (v w h : ℕ) (zs left : List ℤ) → v < h → w * h ≤ length zs → left ≡ drop (v * w) zs → w ≤ length left
rows_left v w h zs left lt le e = omega (arith, mul-le-mul_left w lt, simp length-drop at (ap length e))

pub left_next : (v w : ℕ) (zs left later : List ℤ) → left ≡ drop (v * w) zs → later ≡ drop w left → later ≡ drop ((v + 1) * w) zs
left_next v w zs left later e f = f ∙ ap (drop w) e ∙ drop-drop w (v * w) zs ∙ ap (λ (n : ℕ). drop n zs) (omega arith)

pub rows_more : (w v : ℕ) (zs left : List ℤ) (before so_far after : List ℕ) → so_far ≡ before ++ flat_map row_text (rows_of w v zs) → left ≡ drop (v * w) zs → after ≡ so_far ++ row_text (take w left) → after ≡ before ++ flat_map row_text (rows_of w (v + 1) zs)
unfolding rows_of
rows_more w v zs left before so_far after e same f =
    let row : ℕ → List ℤ = λ u. take w (drop (u * w) zs) in
    f ∙ rw (e, same) (flat_map_more row_text before (map row (range_with_len 0 v)) (row v) ∙ ap (λ (rs : List (List ℤ)). before ++ flat_map row_text rs) (sym (map-range_with_len_more row 0 v v (zero-add v))))
