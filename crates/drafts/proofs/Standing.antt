-- What a draft stands for after a row, and when the rows have ended. Assumes nothing.
use Rattle.std.proofs.Common.{◌≡◌, ℕ, ◌+◌, ◌*◌, ◌<◌, ◌≤◌, List, [], ◌∷◌, ◌++◌, length, ℤ, Some, None, Ok, Err, vec_items, vec_len, Option, Result, true, is_ok, sym, refl, ap, ◌∙◌, ⊎_elim, mul-le-mul_right, mul-le-mul, arith, le-ltb, lt-ltb, eq-eqb}
use Rattle.std.specs.Option.{option_map, option_or}
use Rattle.std.proofs.lemmas.List.{flat_map_more}
use Rattle.std.proofs.str.Laws.{order}
use Rattle.levels.specs.Maps.{power}
use Rattle.maps.specs.Limits.{max_k}
use Rattle.refusals.specs.declared.Refusal.{Refusal}
use Rattle.refusals.specs.declared.Refusal.TheVariants.{TooManyLevels, WrongNumber, Unreadable}
use Rattle.tower.specs.Checks.{places, first_wrong, wrong_at, build_refusal}
use Rattle.tower.specs.Known.{SideOf}
use Rattle.tower.specs.declared.Done.{Done}
use Rattle.tower.specs.declared.Done.TheVariants.{Built}
use Rattle.tower.specs.Calls.{Answered, BuiltTower}
use Rattle.viewer.specs.declared.Viewer.{Viewer}
use Rattle.viewer.specs.Shows.{Shows}
use Rattle.viewer.proofs.Answering.{refused_by, taken_by}
use Rattle.drafts.specs.declared.Draft.{Draft}
use Rattle.drafts.specs.Given.{Given, unreadable_at, no_rows, with_row, rows_wrong, map_refusal, map_given}
use Rattle.drafts.specs.Drafts.{wrong_so_far, refused_so_far, Drafts, Whole}
use Rattle.drafts.proofs.Rows.{some_none, counted_on, rows_right, row_more, row_past, still_wrong}

-- a side of at most 128 has a square of at most 16,384
pub few : (k s : ℕ) → SideOf k s → s * s ≤ 16384
few k s o = mul-le-mul o.small o.small

-- nothing is refused: no line and no place
none_refused : (u w : Option ℕ) → unreadable_at u (wrong_at w None) ≡ None → (u ≡ None) × (w ≡ None)
none_refused (Some l) w e = absurd (cc)
none_refused None (Some p) e = absurd (cc)
none_refused None None e = (refl, refl)

-- what is refused stays so where a wrong place does
still_refused : (u w v : Option ℕ) (e : Refusal) → unreadable_at u (wrong_at w None) ≡ Some e → ((p : ℕ) → w ≡ Some p → v ≡ Some p) → unreadable_at u (wrong_at v None) ≡ Some e
still_refused (Some l) w v e q f = q
still_refused None (Some p) v e q f = rw (f p refl) q
still_refused None None v e q f = absurd (cc)

pub none_given : (d : Draft) (k : ℕ) → d.k ≡ k → vec_items d.heights ≡ [] → d.refusal ≡ None → Drafts d (no_rows k)
unfolding no_rows wrong_so_far
none_given d k ek eh er = record { k = ek; refusal = λ _. er; kept = λ _ _. eh }

module _ {d : Draft} {g : Given} (o : Drafts d g) (line : ℕ) where
  -- a line that cannot be read, where none was before
  pub marked : (after : Draft) → after.k ≡ d.k → after.refusal ≡ Some (Unreadable line) → ((l : ℕ) → d.refusal ≡ Some (Unreadable l) → ⊥) → Drafts after (with_row g line None)
  unfolding with_row
  marked after ek er first = record { k = ek ∙ o.k; refusal = λ small. er ∙ sym (go g.unreadable (o.refusal small)); kept = λ small n. some_none _ _ (sym er ∙ n) }
    where
      go : (u : Option ℕ) → d.refusal ≡ unreadable_at u (wrong_at (wrong_so_far (power g.k) (power g.k) 0 g.rows) None) → unreadable_at (option_or u (Some line)) (wrong_at (wrong_so_far (power g.k) (power g.k) 0 g.rows) None) ≡ Some (Unreadable line)
      go (Some l) e = absurd (first l e)
      go None e = refl

  -- and where one was
  pub marked_before : (l : ℕ) → d.refusal ≡ Some (Unreadable l) → Drafts d (with_row g line None)
  unfolding with_row
  marked_before l e = record { k = o.k; refusal = λ small. o.refusal small ∙ go g.unreadable (wrong_so_far (power g.k) (power g.k) 0 g.rows) (sym (o.refusal small) ∙ e); kept = λ small n. o.kept small n }
    where
      go : (u w : Option ℕ) → unreadable_at u (wrong_at w None) ≡ Some (Unreadable l) → unreadable_at u (wrong_at w None) ≡ unreadable_at (option_or u (Some line)) (wrong_at w None)
      go (Some m) w q = refl
      go None (Some p) q = absurd (cc)
      go None None q = absurd (cc)

  module _ (row : List ℤ) where
    pub too_large : max_k < d.k → Drafts d (with_row g line (Some row))
    unfolding with_row
    too_large large = record { k = o.k; refusal = λ small. absurd (omega (arith, o.k)); kept = λ small. absurd (omega (arith, o.k)) }

    pub refused_before : (e : Refusal) → d.refusal ≡ Some e → Drafts d (with_row g line (Some row))
    unfolding with_row
    refused_before e q = record {
      k = o.k;
      refusal = λ small. q ∙ sym (still_refused g.unreadable (wrong_so_far (power g.k) (power g.k) 0 g.rows) _ e (sym (o.refusal small) ∙ q) (λ p w. (still_wrong (power g.k) (power g.k) 0 p g.rows (row ∷ []) w).0));
      kept = λ small n. some_none _ _ (sym q ∙ n);
    }

    -- nothing was refused before it
    module _ (after : Draft) (ek : after.k ≡ d.k) (none : d.refusal ≡ None) (side begin : ℕ) (es : SideOf d.k side) (eb : begin ≡ vec_len d.heights) where
      -- so the heights are those of the rows
      module _ (small : g.k ≤ max_k) where
        side_is : side ≡ power g.k
        side_is = es.value ∙ ap power o.k

        no_line : g.unreadable ≡ None
        no_line = (none_refused g.unreadable _ (sym (o.refusal small) ∙ none)).0

        right : wrong_so_far side side 0 g.rows ≡ None
        right = rw side_is (none_refused g.unreadable _ (sym (o.refusal small) ∙ none)).1

        begin_is : begin ≡ length g.rows * side
        begin_is = eb ∙ d.heights.ok.0 ∙ ap length (o.kept small none) ∙ (rows_right side es.some side 0 g.rows right).0

        most : length g.rows ≤ side
        most = (rows_right side es.some side 0 g.rows right).1

        room : begin < side * side → length g.rows < side
        room lt = ⊎_elim (λ h. h) (λ h. absurd (omega (arith, begin_is, mul-le-mul_right side h))) (order (length g.rows) side)

        row_at : begin < side * side → wrong_so_far side side 0 (g.rows ++ (row ∷ [])) ≡ option_map (λ i. begin + i) (first_wrong side 0 row)
        row_at lt = row_more side es.some side 0 g.rows row (room lt) right ∙ let z : 0 + length g.rows * side ≡ begin = omega (arith, begin_is) in rw z (counted_on side begin row)

        all_there : side * side ≤ begin → wrong_so_far side side 0 (g.rows ++ (row ∷ [])) ≡ Some begin
        all_there le =
            let full : length g.rows ≡ side = ⊎_elim (λ h. absurd (omega (arith, begin_is, mul-le-mul_right side h))) (λ h. omega (arith, most)) (order (length g.rows) side) in
            row_past side es.some side 0 g.rows row full right ∙ ap Some (omega (arith, begin_is, ap (λ (n : ℕ). n * side) full))

        -- so the row alone tells what is refused after it
        told : (w : Option ℕ) → wrong_so_far side side 0 (g.rows ++ (row ∷ [])) ≡ w → refused_so_far (with_row g line (Some row)) ≡ wrong_at w None
        unfolding with_row
        told w e = rw (no_line, rw side_is at e)

      -- a row too many
      pub row_beyond : side * side ≤ begin → after.refusal ≡ Some (WrongNumber begin) → Drafts after (with_row g line (Some row))
      unfolding with_row
      row_beyond le er = record { k = ek ∙ o.k; refusal = λ small. er ∙ sym (told small _ (all_there small le)); kept = λ small n. some_none _ _ (sym er ∙ n) }

      pub row_wrong : (place : ℕ) → begin < side * side → Some place ≡ first_wrong side 0 row → after.refusal ≡ Some (WrongNumber (begin + place)) → Drafts after (with_row g line (Some row))
      unfolding with_row
      row_wrong place lt e er = record { k = ek ∙ o.k; refusal = λ small. er ∙ sym (told small _ (row_at small lt ∙ ap (option_map (λ i. begin + i)) (sym e))); kept = λ small n. some_none _ _ (sym er ∙ n) }

      pub row_kept : begin < side * side → None ≡ first_wrong side 0 row → after.refusal ≡ None → vec_items after.heights ≡ vec_items d.heights ++ row → Drafts after (with_row g line (Some row))
      unfolding with_row
      row_kept lt e er eh = record {
        k = ek ∙ o.k;
        refusal = λ small. er ∙ sym (told small _ (row_at small lt ∙ ap (option_map (λ i. begin + i)) (sym e)));
        kept = λ small _. eh ∙ ap (λ (hs : List ℤ). hs ++ row) (o.kept small none) ∙ flat_map_more (λ row. row) [] g.rows row;
      }

-- when the rows have ended
module _ {d : Draft} {g : Given} (o : Drafts d g) where
  pub levels_refused : max_k < d.k → map_refusal g ≡ Some (TooManyLevels d.k)
  unfolding map_refusal
  levels_refused large = rw o.k (rw (lt-ltb 7 g.k (omega (arith, o.k))))

  module _ (small : d.k ≤ max_k) where
    small_given : g.k ≤ max_k
    small_given = omega (arith, o.k)

    pub rows_refused : (e : Refusal) → d.refusal ≡ Some e → map_refusal g ≡ Some e
    unfolding map_refusal
    rows_refused e q =
        rw (le-ltb 7 g.k small_given) (still_refused g.unreadable _ _ e (sym (o.refusal small_given) ∙ q) (λ p w. (still_wrong (power g.k) (power g.k) 0 p g.rows [] w).1))

    pub rows_whole : (side : ℕ) → SideOf d.k side → d.refusal ≡ None → Whole g (vec_items d.heights) side
    unfolding map_refusal build_refusal places
    rows_whole side s none =
        let all = o.kept small_given none in
        let nothing = none_refused g.unreadable _ (sym (o.refusal small_given) ∙ none) in
        let side_is : side ≡ power g.k = s.value ∙ ap power o.k in
        let right : wrong_so_far side side 0 g.rows ≡ None = rw side_is nothing.1 in
        let told : rows_wrong (power g.k) (power g.k) 0 g.rows ≡ first_wrong (power g.k * power g.k) 0 (vec_items d.heights) = rw all (rw side_is at (rows_right side s.some side 0 g.rows right).2) in
        record {
          side_of = rw o.k at s;
          refusal = rw (le-ltb 7 g.k small_given, nothing.0, told, eq-eqb (power g.k * power g.k) (power g.k * power g.k) refl);
          all = all;
        }

-- the tower of the rows, or its refusal
module _ {d : Draft} {g : Given} (o : Drafts d g) {side : ℕ} (w : Whole g (vec_items d.heights) side) (hs was room : List ℤ) (eh : hs ≡ vec_items d.heights) (n : ℕ) (en : n ≡ side * side) where
  as_refused : build_refusal d.k hs n ≡ map_refusal g
  unfolding places
  as_refused =
      let m : n ≡ power g.k * power g.k = en ∙ rw w.side_of.value refl in
      rw (o.k, eh, m) (sym w.refusal)

  pub finish_refused : (r : Result Done Refusal) (e : Refusal) → r ≡ Err e → Answered (build_refusal d.k hs n) r Built was room (BuiltTower d.k hs room) → map_refusal g ≡ Some e
  finish_refused r e er a = sym as_refused ∙ (refused_by _ e Built was room _ (rw er at a)).0

  pub finish_taken : (r : Result Done Refusal) (v : Viewer) → is_ok r ≡ true → v.k ≡ d.k → v.level ≡ 0 → vec_items v.tower ≡ room → Answered (build_refusal d.k hs n) r Built was room (BuiltTower d.k hs room) → (map_refusal g ≡ None) × Shows v (map_given g)
  unfolding map_given
  finish_taken (Err e) v ok ek el et a = absurd (cc)
  finish_taken (Ok done) v ok ek el et a =
      let t = taken_by _ done Built was room _ a in
      let built = rw (o.k, eh ∙ w.all) at t.1.holds in
      (sym as_refused ∙ t.0, record { k = ek ∙ o.k; level = el; holds = rw et built })
