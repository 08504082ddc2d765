use Rattle.std.proofs.Common.{◌≤◌, get_or, pos, sym, ◌∙◌, arith, w32}
use borrow.Author.Differences.{ints}
use Rattle.std.proofs.lemmas.Int.{to_z_pos}
use Rattle.pairs.specs.Pairs.{Height}
use Rattle.tower.specs.declared.runs.Change.{Change}
use Rattle.tower.proofs.Replay.{each_taken, taken_place, made_step, made_none}
use Rattle.tower.proofs.runs.change_all.Goals as goal

pub overflow_cast-change : goal.overflow_cast-change
overflow_cast-change c =
    let t = taken_place _ _ _ _ _ (each_taken _ _ c.args.changes.now c.loop-change.change-index (record { x = 0; y = 0; height = 0 }) c.requires.taken (omega arith)) in
    let h = t.2 in
    omega (arith, ints)

pub loop-change-preserved : goal.loop-change-preserved
loop-change-preserved c p o =
    let d : Change = record { x = 0; y = 0; height = 0 } in
    let cs = c.args.changes.now in
    let i = c.loop-change.change-index in
    let t = taken_place _ _ _ _ _ (each_taken _ _ cs i d c.requires.taken (omega arith)) in
    let g = (get_or cs i d).height in
    let low : g ≤ 65535 = t.2 in
    let e = to_z_pos w32 g (omega arith) in
    let high : Height (pos g) = omega (arith, ints) in
    let was = c.loop-change.invariant p o in
    let now = (rw e at c.change.ensures.holds) c.args.k was.0 was.1 high in
    (_, now, sym (made_step was.0 cs i d (omega arith)) ∙ was.2)

pub returns : goal.returns
returns c p o =
    let was = c.loop-change.invariant p o in
    let e = sym (made_none was.0 c.args.changes.now c.loop-change.change-index (omega arith)) ∙ was.2 in
    rw e at was.1

pub invariant_of-place : goal.invariant_of-place
invariant_of-place c =
    let t = taken_place _ _ _ _ _ (each_taken _ _ c.args.changes.now c.loop-change.change-index (record { x = 0; y = 0; height = 0 }) c.requires.taken (omega arith)) in
    let e = c.requires.side.0.value in
    let q = c.requires.side.1 in
    record { across = omega (arith, t.0); down = omega (arith, t.1) }
