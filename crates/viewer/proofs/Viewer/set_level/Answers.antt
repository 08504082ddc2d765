use Rattle.std.proofs.Common.{refl}
use Rattle.viewer.proofs.Answering.{refuse_level, level_set}
use Rattle.viewer.proofs.Viewer.set_level.Goals as goal

pub returns-then-level-self : goal.returns-then-level-self
returns-then-level-self c = refuse_level c.write_refusal.result _ _ _ _ c.if-level-self.true c.write_refusal.ensures

pub returns : goal.returns
returns c = λ o s. level_set s _ _ _ c.if-level-self.false refl refl refl
