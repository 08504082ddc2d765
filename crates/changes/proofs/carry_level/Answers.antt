use Rattle.std.proofs.Common.{ℕ, suc, ◌/◌, ◌+ℤ◌, sym, ap, ◌∙◌, arith, w32, SFits, rules}
use Rattle.std.proofs.lemmas.Int.{to_z-of_z}
use Rattle.levels.specs.Maps.{Map, means, halved, with_height}
use Rattle.levels.specs.Numbering.{Holds}
use Rattle.levels.proofs.Held.{means_height, next_level}
use Rattle.places.proofs.Levels.{row_heights, column_heights, row_difference, column_difference}
use Rattle.changes.proofs.Carrying.{with_heights, row_raised, column_raised, column_still, level_carried, rest_kept}
use Rattle.changes.proofs.carry_level.Goals as goal

pub returns : goal.returns
unfolding means halved
returns c zs on =
    let w = c.args.place.size.wide in
    let h = c.args.place.size.high in
    let x = c.args.place.x in
    let y = c.args.place.y in
    let hx = c.args.place.across in
    let hy = c.args.place.down in
    let ts = c.args.tower.now in
    let fb : SFits w32 c.args.by = c.ranges.by in
    let fr : SFits w32 c.carry_line-row_by.result = search rules in
    let fm : SFits w32 c.carry_line.result = search rules in
    let us = c.carry_line-row_by.new.tower in
    let vs = c.carry_line.new.tower in
    let across = simp to_z-of_z at c.carry_line-row_by.ensures.exact in
    let down = simp to_z-of_z at c.carry_line.ensures.exact in
    let ei = c.across_at.ensures.value in
    let ej = c.down_at.ensures.value in
    let eu = c.carry_line-row_by.ensures.rest in
    let ev = c.carry_line.ensures.rest in
    record {
      holds = λ k p o hg.
          let l = next_level k w h o.wide o.high (omega arith) in
          let j : ℕ = l.0 in
          let o' : Holds (suc l.0) c.args.place.size.wide c.args.place.size.high c.args.tower.now p = rw l.1 at o in
          let by = c.args.by in
          let q : Map = with_height p x y (p x y +ℤ by) in
          let hs = with_heights w h p x y (p x y +ℤ by) o.heights hg in
          let ez = λ (m : ℕ). on.rest j m l.2 l.3 in
          let a = across (λ u. p u y) (λ u. q u y) (row_raised w h p x y by) (row_heights j w h ts p x y hx hy o') (λ u hu. hs u y hu hy) (row_difference j w h ts p x y hx hy o' _ ei) in
          let still = column_still j w h x y _ _ ts us vs zs hx hy ei ej eu ev ez (means w p (x / 2)) (column_difference j w h ts p x y hx hy o' _ ej) in
          let d = down (means w p (x / 2)) (means w q (x / 2)) (column_raised w h p x y by _ a.0) (column_heights j w h ts p x y hx hy o') (λ v hv. means_height w h q hs (x / 2) v (omega arith) hv) still in
          rw l.1 (level_carried j w h x y _ _ ts us vs zs hx hy ei ej eu ev ez p by _ o' hg a.1 d.1 (d.0 ∙ ap (λ z. halved w h p (x / 2) (y / 2) +ℤ z) (sym (to_z-of_z w32 _ fm))) (on.holds j (halved w h p)));
      rest = λ k i ew eh n.
          let l = next_level k w h ew eh (omega arith) in
          rest_kept l.0 w h x y _ _ ts us vs zs hx hy ei ej eu ev (λ m. on.rest l.0 m l.2 l.3) i (rw l.1 at n);
    }
