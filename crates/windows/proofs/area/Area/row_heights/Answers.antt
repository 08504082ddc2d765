use Rattle.std.proofs.Common.{◌+◌, ◌-◌, ◌/◌, refl, arith, rules}
use Rattle.windows.proofs.Shown.{across_part, heights_shown}
use Rattle.windows.proofs.area.Area.row_heights.Goals as goal

pub offset_bounds-self-at : goal.offset_bounds-self-at
offset_bounds-self-at c =
    let s = c.args.self.now in
    let b = across_part s.size.wide s.size.high (s.x / 2) (s.y + c.args.v) (s.size.wide / 2 - s.x / 2) (omega arith) (omega arith) in
    let e = c.across_at-at.ensures.value in
    search rules

pub slice_bounds-row_back-end : goal.slice_bounds-row_back-end
slice_bounds-row_back-end c =
    let s = c.args.self.now in
    let b = across_part s.size.wide s.size.high (s.x / 2) (s.y + c.args.v) (s.size.wide / 2 - s.x / 2) (omega arith) (omega arith) in
    let e = c.across_at-at.ensures.value in
    search rules

pub returns : goal.returns
returns c k p o hm u hu =
    let s = c.args.self.now in
    let el = c.requires.lengths.0 in
    let er = c.requires.lengths.1 in
    heights_shown k _ _ _ p o _ _ _ _ s.wide c.args.means.now _ s.across (omega arith) c.across_at-at.ensures.value refl (omega arith) (λ i j hi ej. c.row_back.ensures i j (omega arith) ej) (λ i hi. hm i (omega arith)) u hu
