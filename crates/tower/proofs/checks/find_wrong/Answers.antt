use Rattle.std.proofs.Common.{◌≡◌, length, sym, refl, ◌∙◌, arith, w32, SFits, rules}
use Rattle.std.proofs.lemmas.Int.{to_z-of_z}
use Rattle.std.proofs.lemmas.Bool.{false≢true}
use Rattle.maps.specs.Rows.{line}
use Rattle.tower.proofs.Wrong.{wrong_step, wrong_here, wrong_many, wrong_missing, wrong_none}
use Rattle.tower.proofs.checks.find_wrong.Goals as goal
use Rattle.tower.proofs.checks.find_wrong.Goals.{then-i-many-via-then-i-many, then-i-many-via-else-i-many+then-not-is_height}

pub returns-then-i-many : goal.returns-then-i-many
returns-then-i-many c =
    let hs = c.args.heights.now in
    let n = c.args.many in
    let i = c.loop-i.i in
    sym (c.loop-i.invariant.1 ∙ elim c.then-i-many.branch [
      | then-i-many-via-then-i-many w ↦ wrong_many hs n i (omega arith) w.if-i-many.true
      | then-i-many-via-else-i-many+then-not-is_height w ↦
          let f : SFits w32 (line hs i) = search rules in
          let all = rw (to_z-of_z w32 (line hs i) f) at w.if-not-is_height.ensures.all in
          wrong_here hs n i (omega arith) (omega arith) (λ h. false≢true (all h))
    ])

pub loop-i-preserved : goal.loop-i-preserved
loop-i-preserved c =
    let f : SFits w32 (line c.args.heights.now c.loop-i.i) = search rules in
    let h = rw (to_z-of_z w32 (line c.args.heights.now c.loop-i.i) f) at (c.if-not-is_height.ensures.holds refl) in
    (omega arith, c.loop-i.invariant.1 ∙ wrong_step c.args.heights.now c.args.many c.loop-i.i (omega arith) (omega arith) h)

pub returns-then-heights-many : goal.returns-then-heights-many
returns-then-heights-many c =
    let e : c.loop-i.i ≡ length c.args.heights.now = omega arith in
    sym (c.loop-i.invariant.1 ∙ rw e (wrong_missing c.args.heights.now c.args.many (length c.args.heights.now) (omega arith) (omega arith)))

pub returns-else-heights-many : goal.returns-else-heights-many
returns-else-heights-many c = sym (c.loop-i.invariant.1 ∙ wrong_none c.args.heights.now c.args.many c.loop-i.i (omega arith) (omega arith))
