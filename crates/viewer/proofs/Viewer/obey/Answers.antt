use Rattle.std.proofs.Common.{refl}
use Rattle.viewer.proofs.Answering.{map_told, only_told}
use Rattle.viewer.specs.Originals.{next}
use Rattle.viewer.proofs.Viewer.obey.Goals as goal

pub returns-in-Map : goal.returns-in-Map
returns-in-Map c = λ o s. rw c.in-Map.is (map_told s _ _)

pub returns-in-Window : goal.returns-in-Window
unfolding next
returns-in-Window c = rw c.in-Window.is (only_told c.show_window.result _ _ _ _ (λ o. refl) c.show_window.ensures)

pub returns-in-Tower : goal.returns-in-Tower
unfolding next
returns-in-Tower c = rw c.in-Tower.is (only_told c.show_tower.result _ _ _ _ (λ o. refl) c.show_tower.ensures)

pub returns-in-Coarse : goal.returns-in-Coarse
unfolding next
returns-in-Coarse c = rw c.in-Coarse.is (only_told c.show_coarse.result _ _ _ _ (λ o. refl) c.show_coarse.ensures)
