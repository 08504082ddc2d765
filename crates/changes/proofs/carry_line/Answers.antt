use Rattle.std.proofs.Common.{◌≢◌, get_or, pos, refl, ◌∙◌, arith, w32, SFits, rules}
use Rattle.std.proofs.lemmas.List.{get_or-set_same, get_or-set_other}
use Rattle.std.proofs.lemmas.Int.{to_z-of_z}
use Rattle.changes.proofs.Raising.{last_raised, pair_raised, by_difference, first_bits, second_bits}
use Rattle.changes.proofs.carry_line.Goals as goal
use Rattle.changes.proofs.carry_line.Goals.{then-x-eq0, else-x-eq0}

pub returns-then-x-places : goal.returns-then-x-places
returns-then-x-places c = record {
  exact = λ f g o hf hg d. (rw (to_z-of_z w32 c.args.by c.ranges.by) (last_raised _ f g _ _ o c.requires.place.0 c.if-x-places.true), λ whole. absurd (omega arith));
  rest = λ i n. refl;
}

pub returns : goal.returns
returns c =
    let fb : SFits w32 c.args.by = c.ranges.by in
    let fd : SFits w32 (get_or c.args.tower.now c.args.index (pos 0)) = search rules in
    let fr : SFits w32 c.mean_change.result = search rules in
    let whole = c.if-x-places.false in
    let hx = c.requires.place.0 in
    let rise = simp to_z-of_z at c.mean_change.ensures in
    record {
      exact = λ f g o hf hg d. (
        rw (to_z-of_z w32 _ fr) (pair_raised _ f g _ _ o whole _ (λ a b e. rise (by_difference _ f g _ _ o hx hf hg) a b (d whole ∙ e))),
        λ _. get_or-set_same _ _ _ _ (c.requires.room whole) ∙ elim c.if-x-eq0.branch [
          | then-x-eq0 w ↦ w.tower-is ∙ first_bits _ f g _ _ o hx hf hg _ fd fb whole (d whole) w.if-x-eq0.true
          | else-x-eq0 w ↦ w.tower-is ∙ second_bits _ f g _ _ o hx hf hg _ fd fb whole (d whole) w.if-x-eq0.false
        ],
      );
      rest = λ i n. let ne : i ≢ c.args.index = n whole in rw get_or-set_other;
    }
