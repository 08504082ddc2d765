use Rattle.std.proofs.Common.{refl}
use Rattle.sessions.proofs.Standing.{map_begun}
use Rattle.sessions.proofs.Session.obey.Goals as goal

pub returns-in-Map : goal.returns-in-Map
returns-in-Map c = λ s o e. rw c.in-Map.is (map_begun o _ _ c.new.result _ _ c.new.ensures refl refl refl)
