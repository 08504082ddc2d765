use Rattle.std.proofs.Common.{refl, ◌∙◌}
use Rattle.std.proofs.lemmas.List.{with_items_is}
use Rattle.viewer.proofs.Answering.{refuse_height, height_set}
use Rattle.viewer.proofs.Viewer.set_height.Goals as goal

pub returns-in-Ok : goal.returns-in-Ok
returns-in-Ok c = λ o s. height_set s _ refl refl _ _ c.deref_mut.ensures.value (with_items_is c.args.self.now.tower _ (c.change.auto.tower ∙ c.deref_mut.ensures.len)) _ _ _ _ _ c.in-Ok.ensures

pub returns-in-Err : goal.returns-in-Err
returns-in-Err c =
    refuse_height c.write_refusal.result _ _ refl refl _ _ c.deref_mut.ensures.value (with_items_is c.args.self.now.tower _ (c.change.auto.tower ∙ c.deref_mut.ensures.len)) _ _ _ _ _ _ c.in-Err.ensures c.write_refusal.ensures
