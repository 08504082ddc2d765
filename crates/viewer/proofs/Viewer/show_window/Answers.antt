use Rattle.std.proofs.Common.{◌≡◌, ◌-◌, ◌*◌, ◌^◌, min, length, ◌∙◌, arith}
use Rattle.std.proofs.lemmas.List.{with_items_is}
use Rattle.viewer.proofs.Answering.{tell_window, refuse_window}
use Rattle.viewer.proofs.Viewer.show_window.Goals as goal

pub returns-in-Ok : goal.returns-in-Ok
returns-in-Ok c =
    let few : length c.deref_mut.result.now ≡ min (min (c.args.wide * c.args.high) (2 ^ 64 - 1)) 16384 = omega (arith, c.in_ok-room.ensures.len, c.min-places.ensures, c.saturating_mul.ensures, c.deref_mut.ensures.len) in
    let kept : length c.window.new.room ≡ c.in_ok-room.room.len = c.window.auto.room ∙ c.deref_mut.ensures.len in
    tell_window c.write_rows.result c.args.self.now _ c.deref.ensures.value _ _ _ _ _ few _ _ _ _ _ c.in-Ok.ensures (rw (c.deref-in-Ok.ensures.value ∙ with_items_is c.in_ok-room.room _ kept) at c.write_rows.ensures)

pub returns : goal.returns
returns c =
    let few : length c.deref_mut.result.now ≡ min (min (c.args.wide * c.args.high) (2 ^ 64 - 1)) 16384 = omega (arith, c.in_ok-room.ensures.len, c.min-places.ensures, c.saturating_mul.ensures, c.deref_mut.ensures.len) in
    refuse_window c.write_refusal.result c.args.self.now _ c.deref.ensures.value _ _ _ _ _ few _ _ _ _ _ c.in-Err.ensures c.write_refusal.ensures
