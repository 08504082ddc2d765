-- Each command, obeyed or refused: what is written is its answer, and the viewer stands for what comes next. Assumes nothing.
use Rattle.std.proofs.Common.{◌≡◌, ℕ, ◌+◌, ◌-◌, ◌*◌, ◌^◌, ◌<◌, ◌≤◌, min, Bool, true, false, ◌&&◌, ltb, List, [], ◌++◌, map, length, get_or, take, drop, ℤ, pos, OnOk, Some, None, Ok, Err, vec_items, vec_len, Option, Result, sym, refl, ap, ◌∙◌, ⊎_elim, append-nil, zero-add, arith, le-ltb, lt-ltb}
use Rattle.std.specs.List.{range_with_len, flat_map}
use Rattle.std.proofs.lemmas.List.FromFn.{length-map-range_with_len, get_or-map-range_with_len, fill_by_all}
use Rattle.std.proofs.lemmas.List.{length-take-le}
use Rattle.std.proofs.lemmas.Result.{on_ok_weaker}
use Rattle.std.proofs.str.Laws.{order}
use Rattle.levels.specs.Maps.{Map, power}
use Rattle.levels.specs.Listing.{rows_at}
use Rattle.levels.proofs.Sizes.{power_most}
use Rattle.levels.proofs.Listing.{listed_tower_lem, part_cut}
use Rattle.refusals.specs.declared.Refusal.{Refusal}
use Rattle.refusals.specs.declared.Refusal.TheVariants.{NoSuchLevel}
use Rattle.tower.specs.declared.Done.{Done}
use Rattle.tower.specs.declared.Done.TheVariants.{Changed, Shown}
use Rattle.tower.specs.Checks.{places, is_on_side, window_refusal, change_refusal}
use Rattle.tower.specs.Calls.{Answered, ChangedTower, ShownWindow}
use Rattle.tower.proofs.Order.{on_true, both_on, few_places, window_levels}
use Rattle.parts.specs.Parts.{coarse_of, coarse_refusal, CoarsePart, Handed}
use Rattle.parts.specs.Known.{CanHand}
use Rattle.messages.specs.declared.command.Command.{Command}
use Rattle.messages.specs.declared.command.Command.TheVariants as asks
use Rattle.messages.specs.Writing.{row_text, refusal_text, rows_of, answer_text}
use Rattle.viewer.specs.declared.Viewer.{Viewer}
use Rattle.viewer.specs.Originals.{Original, seen, level_refusal, answer, next}
use Rattle.viewer.specs.Shows.{Shows, Obeyed}

-- what a call answers tells its refusal
pub refused_by : {X : Type 0} (f : Option Refusal) (e : Refusal) (d : X) (was after : List ℤ) (taken : Type 0) → Answered f (Err e) d was after taken → (f ≡ Some e) × (after ≡ was)
refused_by (Some g) e d was after taken a = let r = a.0 in ((cc), a.1)
refused_by None e d was after taken a = let r = a.0 in absurd (cc)

pub taken_by : {X : Type 0} (f : Option Refusal) (x d : X) (was after : List ℤ) (taken : Type 0) → Answered f (Ok x) d was after taken → (f ≡ None) × taken
taken_by (Some g) x d was after taken a = let r = a.0 in absurd (cc)
taken_by None x d was after taken a = (refl, a.1)

module _ {v : Viewer} {o : Original} (s : Shows v o) where
  -- the tower is as long as the original has places, so checks by the tower's length are checks by the original
  pub as_checked : {X : Type 0} (F : (k n : ℕ) → X) (n : ℕ) → n ≡ vec_len v.tower → F v.k n ≡ F o.k (places o.k)
  as_checked F n e = ap (λ (n : ℕ). F v.k n) (e ∙ v.whole) ∙ ap (λ (k : ℕ). F k (places k)) s.k

  pub as_long : (ts : List ℤ) → ts ≡ vec_items v.tower → length ts ≡ vec_len v.tower
  as_long ts e = ap length e ∙ sym v.tower.ok.0

  level_refused : (l : ℕ) (said written : List ℕ) → v.k < l → written ≡ said ++ refusal_text NoSuchLevel → Obeyed o (asks.Level l) v said written
  unfolding level_refusal answer next answer_text
  level_refused l said written lt e = let t : ltb o.k l ≡ true = lt-ltb o.k l (omega (arith, s.k)) in record { shows = rw t s; says = rw t e }

  pub level_set : (after : Viewer) (l : ℕ) (said : List ℕ) → l ≤ v.k → after.k ≡ v.k → after.level ≡ l → after.tower ≡ v.tower → Obeyed o (asks.Level l) after said said
  unfolding level_refusal answer next answer_text
  level_set after l said le ek el et =
      let t : ltb o.k l ≡ false = le-ltb o.k l (omega (arith, s.k)) in
      record { shows = rw t (record { k = ek ∙ s.k; level = el; holds = rw et s.holds }); says = rw t (sym (append-nil said)) }

  -- a call of `change` on the tower
  module _ (after : Viewer) (ek : after.k ≡ v.k) (el : after.level ≡ v.level) (ts us : List ℤ) (et : ts ≡ vec_items v.tower) (eu : vec_items after.tower ≡ us) (x y g : ℕ) where
    height_refused : (e : Refusal) (said written : List ℕ) → Answered (change_refusal v.k (length ts) x y g) (Err e) Changed ts us (ChangedTower v.k ts x y g us) → written ≡ said ++ refusal_text e → Obeyed o (asks.Set x y g) after said written
    unfolding answer next answer_text
    height_refused e said written a w =
        let r = refused_by _ e Changed ts us _ a in
        let f : change_refusal o.k (places o.k) x y g ≡ Some e = sym (as_checked (λ k n. change_refusal k n x y g) _ (as_long ts et)) ∙ r.0 in
        record { shows = rw f (record { k = ek ∙ s.k; level = el ∙ s.level; holds = rw (eu ∙ r.1 ∙ et) s.holds }); says = rw f w }

    pub height_set : (done : Done) (said : List ℕ) → Answered (change_refusal v.k (length ts) x y g) (Ok done) Changed ts us (ChangedTower v.k ts x y g us) → Obeyed o (asks.Set x y g) after said said
    unfolding answer next answer_text
    height_set done said a =
        let r = taken_by _ done Changed ts us _ a in
        let f : change_refusal o.k (places o.k) x y g ≡ None = sym (as_checked (λ k n. change_refusal k n x y g) _ (as_long ts et)) ∙ r.0 in
        record { shows = rw f (record { k = ek ∙ s.k; level = el ∙ s.level; holds = rw eu ((rw s.k at r.1).holds o.heights (rw (sym et) at s.holds)) }); says = rw f (sym (append-nil said)) }

  tower_told : (ts : List ℤ) (said written : List ℕ) → ts ≡ vec_items v.tower → written ≡ said ++ row_text ts → written ≡ said ++ answer_text (answer o asks.Tower)
  unfolding answer answer_text places
  tower_told ts said written et w =
      let long : length ts ≡ power o.k * power o.k = as_checked (λ k n. n) _ (as_long ts et) in
      rw (append-nil, ← listed_tower_lem o.k (power o.k) (power o.k) ts o.heights long (rw (sym et) at s.holds)) w

  -- the tower has n numbers
  module _ (l n : ℕ) (en : n ≡ vec_len v.tower) (said written : List ℕ) where
    coarse_refused : (e : Refusal) → coarse_refusal v.k n l ≡ Some e → written ≡ said ++ refusal_text e → written ≡ said ++ answer_text (answer o (asks.Coarse l))
    unfolding answer answer_text
    coarse_refused e r w = rw (sym (as_checked (λ k n. coarse_refusal k n l) n en) ∙ r) w

    coarse_told : (m : ℕ) (ts part : List ℤ) → ts ≡ vec_items v.tower → coarse_refusal v.k n l ≡ None → CanHand v.k n l m →
        Handed (coarse_refusal v.k (length ts) l) part (CoarsePart v.k ts l part) → written ≡ said ++ row_text part → written ≡ said ++ answer_text (answer o (asks.Coarse l))
    unfolding answer answer_text coarse_of seen places
    coarse_told m ts part et r can handed w =
        let f : coarse_refusal o.k (places o.k) l ≡ None = sym (as_checked (λ k n. coarse_refusal k n l) n en) ∙ r in
        let same : length ts ≡ n = as_long ts et ∙ sym en in
        let there : CoarsePart v.k ts l part = rw (same, r) at handed in
        let long : length part ≡ power (v.k - l) * power (v.k - l) = ap length there.numbers ∙ length-take-le _ ts (omega (arith, can.value, can.within)) in
        rw (f, append-nil, ← listed_tower_lem (o.k - l) (power (o.k - l)) (power (o.k - l)) part (seen o l) (rw s.k at long) (rw s.k at (there.holds o.heights (rw (s.k, et) s.holds)))) w

-- a window is checked by the room that it needs, even where so much room is not made
pub room_same : (k n l x y w h m : ℕ) → m ≡ min (min (w * h) (2 ^ 64 - 1)) 16384 → window_refusal k n l x y w h m ≡ window_refusal k n l x y w h (w * h)
unfolding window_refusal
room_same k n l x y w h m e =
    ⊎_elim (λ small. ap (window_refusal k n l x y w h) (omega (arith, e)))
    (λ large.
    ⊎_elim (λ many. window_levels k n l x y w h m many ∙ sym (window_levels k n l x y w h (w * h) many))
    (λ few. rw (off (is_on_side (power (k - l)) x w && is_on_side (power (k - l)) y h) refl few large) refl)
    (order 7 k))
    (order (w * h) 16385)
  where
    off : (b : Bool) → b ≡ (is_on_side (power (k - l)) x w && is_on_side (power (k - l)) y h) → k ≤ 7 → 16385 ≤ w * h → (is_on_side (power (k - l)) x w && is_on_side (power (k - l)) y h) ≡ false
    off false eb few large = sym eb
    off true eb few large =
        let on = both_on (power (k - l)) x w y h eb in
        absurd (omega (arith, few_places (power (k - l)) x w y h (power_most (k - l) (omega arith)) (on_true _ x w on.0).1 (on_true _ y h on.1).1))

-- the numbers of a window are its rows
pub window_rows : (x y w h : ℕ) (ts : List ℤ) (p : Map) → length ts ≡ w * h → ((u v : ℕ) → u < w → v < h → get_or ts (v * w + u) (pos 0) ≡ p (x + u) (y + v)) → rows_of w h ts ≡ rows_at x y w h p
unfolding rows_of rows_at
window_rows x y w h ts p long same =
    let row : ℕ → List ℤ = λ v. take w (drop (v * w) ts) in
    fill_by_all _ (map row (range_with_len 0 h)) h [] (length-map-range_with_len row 0 h) (λ v lt. get_or-map-range_with_len row 0 h v v [] lt (zero-add v) ∙ part_cut x y w h v ts p long same lt)

module _ {v : Viewer} {o : Original} (s : Shows v o) (ts : List ℤ) (et : ts ≡ vec_items v.tower) (x y w h m : ℕ) (em : m ≡ min (min (w * h) (2 ^ 64 - 1)) 16384) (was room : List ℤ) (said written : List ℕ) where
  -- checked by the original
  as_refused : window_refusal v.k (length ts) v.level x y w h m ≡ window_refusal o.k (places o.k) o.level x y w h (w * h)
  as_refused = as_checked s (λ k n. window_refusal k n v.level x y w h m) _ (as_long s ts et) ∙ ap (λ (l : ℕ). window_refusal o.k (places o.k) l x y w h m) s.level ∙ room_same o.k (places o.k) o.level x y w h m em

  window_refused : (e : Refusal) → Answered (window_refusal v.k (length ts) v.level x y w h m) (Err e) Shown was room (ShownWindow v.k ts v.level x y w h room) → written ≡ said ++ refusal_text e → written ≡ said ++ answer_text (answer o (asks.Window x y w h))
  unfolding answer answer_text
  window_refused e a f = rw (sym as_refused ∙ (refused_by _ e Shown was room _ a).0) f

  window_told : (done : Done) → Answered (window_refusal v.k (length ts) v.level x y w h m) (Ok done) Shown was room (ShownWindow v.k ts v.level x y w h room) → written ≡ said ++ flat_map row_text (rows_of w h room) → written ≡ said ++ answer_text (answer o (asks.Window x y w h))
  unfolding answer answer_text seen
  window_told done a f =
      let r = taken_by _ done Shown was room _ a in
      let shown : ShownWindow o.k ts o.level x y w h room = rw (s.k, s.level) at r.1 in
      rw (sym as_refused ∙ r.0, ← window_rows x y w h room _ shown.length_is (shown.shows o.heights (rw et s.holds))) f

-- what a call says that writes the answer, where it is done
module _ {X Y : Type 0} (r : Result X Y) (v : Viewer) where
  pub refuse_level : (l : ℕ) (said written : List ℕ) → v.k < l → OnOk r (written ≡ said ++ refusal_text NoSuchLevel) → OnOk r ((o : Original) → Shows v o → Obeyed o (asks.Level l) v said written)
  refuse_level l said written lt = on_ok_weaker r (λ w o s. level_refused s l said written lt w)

  module _ (after : Viewer) (ek : after.k ≡ v.k) (el : after.level ≡ v.level) (ts us : List ℤ) (et : ts ≡ vec_items v.tower) (eu : vec_items after.tower ≡ us) (x y g : ℕ) where
    pub refuse_height : (e : Refusal) (said written : List ℕ) → Answered (change_refusal v.k (length ts) x y g) (Err e) Changed ts us (ChangedTower v.k ts x y g us) → OnOk r (written ≡ said ++ refusal_text e) → OnOk r ((o : Original) → Shows v o → Obeyed o (asks.Set x y g) after said written)
    refuse_height e said written a = on_ok_weaker r (λ w o s. height_refused s after ek el ts us et eu x y g e said written a w)

  pub tell_tower : (ts : List ℤ) (said written : List ℕ) → ts ≡ vec_items v.tower → OnOk r (written ≡ said ++ row_text ts) → OnOk r ((o : Original) → Shows v o → written ≡ said ++ answer_text (answer o asks.Tower))
  tell_tower ts said written et = on_ok_weaker r (λ w o s. tower_told s ts said written et w)

  module _ (l n : ℕ) (en : n ≡ vec_len v.tower) (said written : List ℕ) where
    pub refuse_coarse : (e : Refusal) → coarse_refusal v.k n l ≡ Some e → OnOk r (written ≡ said ++ refusal_text e) → OnOk r ((o : Original) → Shows v o → written ≡ said ++ answer_text (answer o (asks.Coarse l)))
    refuse_coarse e f = on_ok_weaker r (λ w o s. coarse_refused s l n en said written e f w)

    pub tell_coarse : (m : ℕ) (ts part : List ℤ) → ts ≡ vec_items v.tower → coarse_refusal v.k n l ≡ None → CanHand v.k n l m →
        Handed (coarse_refusal v.k (length ts) l) part (CoarsePart v.k ts l part) → OnOk r (written ≡ said ++ row_text part) → OnOk r ((o : Original) → Shows v o → written ≡ said ++ answer_text (answer o (asks.Coarse l)))
    tell_coarse m ts part et f can handed = on_ok_weaker r (λ w o s. coarse_told s l n en said written m ts part et f can handed w)

  module _ (ts : List ℤ) (et : ts ≡ vec_items v.tower) (x y w h m : ℕ) (em : m ≡ min (min (w * h) (2 ^ 64 - 1)) 16384) (was room : List ℤ) (said written : List ℕ) where
    pub refuse_window : (e : Refusal) → Answered (window_refusal v.k (length ts) v.level x y w h m) (Err e) Shown was room (ShownWindow v.k ts v.level x y w h room) → OnOk r (written ≡ said ++ refusal_text e) → OnOk r ((o : Original) → Shows v o → written ≡ said ++ answer_text (answer o (asks.Window x y w h)))
    refuse_window e a = on_ok_weaker r (λ f o s. window_refused s ts et x y w h m em was room said written e a f)

    pub tell_window : (done : Done) → Answered (window_refusal v.k (length ts) v.level x y w h m) (Ok done) Shown was room (ShownWindow v.k ts v.level x y w h room) → OnOk r (written ≡ said ++ flat_map row_text (rows_of w h room)) → OnOk r ((o : Original) → Shows v o → written ≡ said ++ answer_text (answer o (asks.Window x y w h)))
    tell_window done a = on_ok_weaker r (λ f o s. window_told s ts et x y w h m em was room said written done a f)

  -- a command that leaves the viewer as it is
  pub only_told : (c : Command) (said written : List ℕ) → ((o : Original) → next o c ≡ o) → OnOk r ((o : Original) → Shows v o → written ≡ said ++ answer_text (answer o c)) → OnOk r ((o : Original) → Shows v o → Obeyed o c v said written)
  only_told c said written e = on_ok_weaker r (λ told o s. record { shows = rw (e o) s; says = told o s })

pub map_told : {v : Viewer} {o : Original} → Shows v o → (k : ℕ) (said : List ℕ) → Obeyed o (asks.Map k) v said said
unfolding answer next answer_text
map_told s k said = record { shows = s; says = sym (append-nil said) }
