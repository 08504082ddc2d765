use Rattle.std.proofs.Common.{◌+◌, ◌-◌, ◌*◌, ◌/◌, ◌<◌, ◌≤◌, length, refl, arith}
use Rattle.pairs.proofs.Exact.{read_height}
use Rattle.maps.proofs.Back.{whole_back, last_back}
use Rattle.maps.proofs.rows.row_back.Goals as goal
use Rattle.maps.proofs.rows.row_back.Goals.{else-w-gt0-via-then-w-gt0+else-from-w, else-w-gt0-via-else-w-gt0}

pub returns-then-from-w : goal.returns-then-from-w
returns-then-from-w c i j hi ej =
    let ms = c.args.means.now in
    let w = length c.args.row.now in
    last_back c.args.places c.args.from (w - 1) ms c.args.differences.now _ c.args.row.now c.pairs_back.new.row _ (omega arith) (omega arith) (omega arith) (omega arith) (omega arith)
    (λ b eb. rw eb (read_height _ _ refl)) (λ b d hb ed. c.pairs_back.ensures b d (omega arith) ed) i j (omega arith) ej

pub returns-else-w-gt0 : goal.returns-else-w-gt0
returns-else-w-gt0 c =
    let n = c.args.places in
    let x = c.args.from in
    let w = length c.args.row.now in
    let whole : 0 < length c.args.row.now → c.args.from + length c.args.row.now ≤ 2 * (c.args.places / 2) =
    λ some. elim c.else-w-gt0.branch [ else-w-gt0-via-then-w-gt0+else-from-w t ↦ omega arith | else-w-gt0-via-else-w-gt0 t ↦ omega arith ] in
    whole_back n x w _ _ _ whole c.pairs_back-else-w-gt0.ensures
