use Rattle.std.proofs.Common.{◌+◌, ◌/◌, List, length, ℤ, refl, ap, ◌∙◌, arith, rules}
use Rattle.maps.specs.Rows.{line}
use Rattle.windows.proofs.Shown.{down_part, ones_shown, copy_shown}
use Rattle.windows.proofs.area.Area.row_means.Goals as goal

pub offset_bounds-self-at : goal.offset_bounds-self-at
offset_bounds-self-at c =
    let s = c.args.self.now in
    let b = down_part s.size.wide s.size.high (s.x / 2) ((s.y + c.args.v) / 2) (length c.args.means.now) (omega arith) (omega arith) in
    let e = c.down_at-at.ensures.value in
    search rules

pub slice_bounds-ones-end : goal.slice_bounds-ones-end
slice_bounds-ones-end c =
    let s = c.args.self.now in
    let b = down_part s.size.wide s.size.high (s.x / 2) ((s.y + c.args.v) / 2) (length c.args.means.now) (omega arith) (omega arith) in
    let e = c.down_at-at.ensures.value in
    search rules

pub returns-then-y-self : goal.returns-then-y-self
returns-then-y-self c k p o hc u hu =
    let s = c.args.self.now in
    let em = c.requires.lengths.1 in
    ones_shown k _ _ _ p o (s.x / 2) (s.y + c.args.v) (length c.args.means.now) _ (omega arith) (omega arith) (λ i hi. hc i (omega arith)) _ _ _ c.if-y-self.true c.down_at-at.ensures.value refl c.ones.ensures u (omega arith)

pub returns-else-y-self : goal.returns-else-y-self
returns-else-y-self c k p o hc u hu =
    let s = c.args.self.now in
    let em = c.requires.lengths.1 in
    ap (λ (l : List ℤ). line l u) c.copy_from_slice.ensures.after ∙ copy_shown k _ _ _ p o (s.x / 2) (s.y + c.args.v) (length c.args.means.now) _ (omega arith) (omega arith) (λ i hi. hc i (omega arith)) c.if-y-self.false u (omega arith)
