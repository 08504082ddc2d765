use Rattle.viewer.proofs.Answering.{tell_coarse, refuse_coarse}
use Rattle.viewer.proofs.Viewer.show_coarse.Goals as goal

pub returns-in-Ok : goal.returns-in-Ok
returns-in-Ok c = tell_coarse c.write_row.result c.args.self.now _ _ c.len.ensures _ _ _ _ _ c.deref.ensures.value c.in-Ok.ensures.0 c.in-Ok.ensures.1 c.coarse.ensures c.write_row.ensures

pub returns-in-Err : goal.returns-in-Err
returns-in-Err c = refuse_coarse c.write_refusal.result c.args.self.now _ _ c.len.ensures _ _ _ c.in-Err.ensures c.write_refusal.ensures
