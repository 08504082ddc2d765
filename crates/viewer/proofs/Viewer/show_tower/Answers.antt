use Rattle.viewer.proofs.Answering.{tell_tower}
use Rattle.viewer.proofs.Viewer.show_tower.Goals as goal

pub returns : goal.returns
returns c = tell_tower c.write_row.result c.args.self.now _ _ _ c.deref.ensures.value c.write_row.ensures
